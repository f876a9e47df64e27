use Rattle.std.proofs.Common.{ℕ, ◌<◌}
use Rattle.std.specs.List.{All}
use Rattle.line_tape.specs.History.{tape_at}
use Rattle.line_catalogue.specs.Agreement.{EventAgrees}
use Rattle.line_catalogue.proofs.agreement.agrees.Given as goal

abbrev pub invariant-loop-q : goal.invariant-loop-q
invariant-loop-q l =
    (p : ℕ) → p < l.q → All (EventAgrees l.history.processes) (tape_at l.history.processes p)
