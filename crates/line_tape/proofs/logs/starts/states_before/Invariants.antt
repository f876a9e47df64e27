use Rattle.std.proofs.Common.{◌≡◌, drop}
use Rattle.line_tape.specs.Laid.{first_state}
use Rattle.line_tape.proofs.logs.starts.states_before.Given as goal

abbrev pub invariant-loop-i : goal.invariant-loop-i
invariant-loop-i l = first_state (drop l.i l.events) l.all ≡ first_state l.events l.all
