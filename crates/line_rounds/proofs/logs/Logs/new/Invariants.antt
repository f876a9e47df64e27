use Rattle.std.proofs.Common.{◌≡◌, [], replicate}
use Rattle.line_rounds.specs.Spans.{names_of}
use Rattle.line_rounds.proofs.logs.Logs.new.Given as goal

abbrev pub invariant-loop-p : goal.invariant-loop-p
invariant-loop-p l = names_of l.logs.items ≡ replicate l._p []
