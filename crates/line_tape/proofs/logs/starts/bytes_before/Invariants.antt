use Rattle.std.proofs.Common.{◌≡◌, drop}
use Rattle.line_tape.specs.Laid.{first_byte}
use Rattle.line_tape.proofs.logs.starts.bytes_before.Given as goal

abbrev pub invariant-loop-i : goal.invariant-loop-i
invariant-loop-i l = first_byte (drop l.i l.events) l.all ≡ first_byte l.events l.all
