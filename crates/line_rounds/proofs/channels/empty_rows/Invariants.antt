use Rattle.std.proofs.Common.{◌≡◌, [], replicate}
use Rattle.line_rounds.proofs.channels.empty_rows.Given as goal

abbrev pub invariant-loop-q : goal.invariant-loop-q
invariant-loop-q l = l.rows.items ≡ replicate l._q []
