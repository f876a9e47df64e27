use Rattle.std.proofs.Common.{◌≡◌, [], replicate}
use Rattle.line_posts.specs.Gathering.{rows_of}
use Rattle.line_posts.specs.Replays.{packets_of}
use Rattle.line_posts.proofs.replays.no_packets_yet.Given as goal

abbrev pub invariant-loop-q : goal.invariant-loop-q
invariant-loop-q l = packets_of l.packets.items ≡ replicate l._q (replicate l.n [])

abbrev pub invariant-loop-p : goal.invariant-loop-p
invariant-loop-p l = rows_of l.queues.items ≡ replicate l._p []
