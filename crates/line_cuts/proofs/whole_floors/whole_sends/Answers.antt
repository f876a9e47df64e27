-- A sum that is too great is one of the floor's numbers of sends.
use Rattle.std.proofs.lemmas.Result.{IfOk-weaker}
use Rattle.line_cuts.proofs.WholeLemmas.{count_none}
use Rattle.line_cuts.proofs.whole_floors.whole_sends.Goals as goal

pub returns-clause-none : goal.returns-clause-none
returns-clause-none c =
    IfOk-weaker c.sums.result _ _ (λ sends h e. count_none c.args.floor.now c.args.later.now _ _
    c.counts.ensures c.counts-counts.ensures (h e)) c.sums.ensures.none
