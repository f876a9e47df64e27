use Rattle.std.proofs.Common.{◌≡◌, take}
use Rattle.line_rounds.proofs.runs.hold_runs.Given as goal

abbrev pub invariant-loop-run : goal.invariant-loop-run
invariant-loop-run l = l.held.items ≡ take l.run-index l.runs
