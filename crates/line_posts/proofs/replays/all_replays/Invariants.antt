use Rattle.line_tape.specs.Restart.{restarted_history}
use Rattle.line_posts.specs.Replays.{counts_of, packets_of}
use Rattle.line_posts.proofs.CountLemmas.{AreLeft}
use Rattle.line_posts.proofs.replays.all_replays.Given as goal

abbrev pub invariant-loop-p : goal.invariant-loop-p
invariant-loop-p l = AreLeft l.gathered.processes
    (restarted_history l.gathered.processes l.plan.line) l.plan.replays.items l.n l.p
    (counts_of l.counts.items) l.sums.items (packets_of l.packets.items)
