use Rattle.std.proofs.Common.{◌≡◌, take}
use Rattle.std.specs.List.{list_all}
use Rattle.line_fields.specs.Bytes.{is_common}
use Rattle.line_fields.proofs.bytes.are_common.Given as goal

abbrev pub invariant-loop-byte : goal.invariant-loop-byte
invariant-loop-byte l = l.common ≡ list_all is_common (take l.byte-index l.text)
