use Rattle.std.proofs.Common.{◌≡◌, ◌+◌, drop}
use Rattle.line_claims.specs.Saved.{checks_among}
use Rattle.line_claims.proofs.SavedRoundLemmas.{checks_from}
use Rattle.line_claims.proofs.saved_rounds.checks_of.Given as goal

abbrev pub invariant-loop-value : goal.invariant-loop-value
invariant-loop-value l = (checks_from l.checks.items (drop l.value l.history.processes)
    (drop (l.value + 2) l.row) ≡ checks_among l.history.processes (drop 2 l.row))
