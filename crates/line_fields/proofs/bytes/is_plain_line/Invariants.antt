use Rattle.std.proofs.Common.{◌≡◌, take}
use Rattle.std.specs.List.{list_all}
use Rattle.line_fields.specs.Bytes.{is_line_byte}
use Rattle.line_fields.proofs.bytes.is_plain_line.Given as goal

abbrev pub invariant-loop-byte : goal.invariant-loop-byte
invariant-loop-byte l = l.plain ≡ list_all is_line_byte (take l.byte-index l.line)
