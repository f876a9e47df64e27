use Rattle.std.proofs.Common.{◌≡◌, [], replicate}
use Rattle.line_rounds.proofs.received.ReceivedSends.new.Given as goal

abbrev pub invariant-loop-p : goal.invariant-loop-p
invariant-loop-p l = l.processes.items ≡ replicate l._p []
