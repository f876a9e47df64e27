-- One process more.
use Rattle.std.proofs.Common.{◌≡◌, ◌+◌, sym, ◌∙◌, subst, arith}
use Rattle.line_moves.proofs.OpenFacts.{AreFresh, AreFresh-more}
use Rattle.line_moves.proofs.openings.fresh_markers.Goals as goal

pub loop-q-preserved : goal.loop-q-preserved
loop-q-preserved c =
    let at : c.unwrap-me.result ≡ c.loop-q.q = (rw c.unwrap-me.ensures at c.try_new.ensures).1 in
    subst (AreFresh c.args.n 0 (c.loop-q.q + 1)) (sym c.in_ok-push.ensures.items)
    (AreFresh-more c.args.n 0 c.loop-q.q c.loop-q.markers.items c.new.result c.loop-q.invariant
    c.new.ensures.n (c.new.ensures.me ∙ at) c.new.ensures.floor c.new.ensures.rounds)

pub returns-clause-markers : goal.returns-clause-markers
returns-clause-markers c =
    let all : c.loop-q.q ≡ c.args.n = omega (arith, c.loop-q-test.false, c.loop-q.auto.q-end) in
    let is = c.loop-q.invariant in
    record {
      count = is.count ∙ all;
      n_is = λ q within. is.n_is q (omega (arith, within, all));
      me_is = λ q within. is.me_is q (omega (arith, within, all));
    }

pub returns-clause-fresh : goal.returns-clause-fresh
returns-clause-fresh c =
    λ q within. c.loop-q.invariant.fresh q (omega (arith, within, c.loop-q-test.false))
