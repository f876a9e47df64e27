use Rattle.line_rounds.proofs.GatherLemmas.{AreKept}
use Rattle.line_rounds.proofs.channels.Channels.keep.Given as goal

abbrev pub invariant-loop-q : goal.invariant-loop-q
invariant-loop-q l = AreKept l.n l.rows l.q l.inboxes.items
