use Rattle.std.proofs.Common.{take}
use Rattle.line_posts.specs.Replays.{counts_of, AreCounted}
use Rattle.line_posts.proofs.replays.count_messages.Given as goal

abbrev pub invariant-loop-i : goal.invariant-loop-i
invariant-loop-i l =
    AreCounted l.history.processes (take l.i l.messages) (counts_of l.counts.items) l.sums.items
