-- Numbers that rise from each round to the next rise from each to each later one.
use Rattle.std.proofs.Common.{refl, arith}
use Rattle.line_live.proofs.ResumedLemmas.{rising}
use Rattle.line_live.proofs.resumed.are_by_number.Goals as goal

pub returns : goal.returns
returns c = (
  λ _. record {
    begun = λ k d within. c.each.invariant.begun k d (omega (arith, within, c.each-test.false));
    ascending = rising c.args.rounds.now
        (λ k d within. c.each.invariant.next k d (omega (arith, within, c.each-test.false)));
  },
  λ _. refl,
)
