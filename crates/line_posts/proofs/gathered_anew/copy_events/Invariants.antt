use Rattle.line_posts.proofs.AnewLemmas.{IsCopied}
use Rattle.line_posts.proofs.gathered_anew.copy_events.Given as goal

abbrev pub invariant-loop-i : goal.invariant-loop-i
invariant-loop-i l = IsCopied l.fn.history.processes l.history.processes l.fn.p l.i l.fn.tape.events
