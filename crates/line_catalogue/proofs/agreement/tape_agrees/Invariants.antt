use Rattle.std.proofs.Common.{take}
use Rattle.std.specs.List.{All}
use Rattle.line_catalogue.specs.Agreement.{EventAgrees}
use Rattle.line_catalogue.proofs.agreement.tape_agrees.Given as goal

abbrev pub invariant-loop-i : goal.invariant-loop-i
invariant-loop-i l = All (EventAgrees l.history.processes) (take l.i l.events)
