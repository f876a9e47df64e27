use Rattle.std.proofs.Common.{◌<◌, ◌∙◌, length, refl, sym, subst, arith}
use Rattle.std.proofs.lemmas.List.{length-map}
use Rattle.line_posts.specs.Ends.{out_ends, producer_end}
use Rattle.line_posts.proofs.MarkerLemmas.{below_past, below_zero, below_more, long_below}
use Rattle.line_posts.proofs.markers.push_markers.Goals as goal
use Rattle.line_posts.proofs.markers.push_markers.Goals.{then-q-me, else-q-me}

pub push_known-requires-clause-within : goal.push_known-requires-clause-within
push_known-requires-clause-within c =
    let long = long_below c.args.outs.now.items c.loop-q.outs.items _ _ _ c.loop-q.invariant.ends in
    let t = c.loop-q-test.true in
    let n = c.len-q-end.ensures in
    omega (arith, long, t, n)

pub loop-q-init : goal.loop-q-init
loop-q-init c = record {
  ends = sym (below_zero _ _ _);
  room = λ k le lt. c.requires k lt;
}

pub loop-q-preserved : goal.loop-q-preserved
loop-q-preserved c =
    let old = c.args.outs.now.items in
    let t = c.loop-q-test.true in
    let n = c.len-q-end.ensures in
    let l = length-map old producer_end in
    let lt : c.loop-q.q < length (out_ends old) = omega (arith, t, n, l) in
    elim c.if-q-me.branch [
      | then-q-me w ↦ rw w.outs-is (record {
        ends = below_more (out_ends old) (out_ends c.loop-q.outs.items)
            (out_ends w.push_known.new.outs.items) c.args.me c.loop-q.q _ c.loop-q.invariant.ends lt
            (λ e. absurd (w.if-q-me.true e)) (λ e. w.push_known.ensures.ends);
        room = λ k le lt. subst (λ v. 0 < v) (sym (w.push_known.ensures.others k
            (λ e. omega (arith, e, le)))) (c.loop-q.invariant.room k (omega (arith, le)) lt);
      })
      | else-q-me w ↦ rw w.outs-is (record {
        ends = below_more (out_ends old) (out_ends c.loop-q.outs.items)
            (out_ends c.loop-q.outs.items) c.args.me c.loop-q.q _ c.loop-q.invariant.ends lt
            (λ e. refl) (λ e. absurd (e w.if-q-me.false));
        room = λ k le lt. c.loop-q.invariant.room k (omega (arith, le)) lt;
      })
    ]

pub returns : goal.returns
returns c =
    let f = c.loop-q-test.false in
    let n = c.len-q-end.ensures in
    let l = length-map c.args.outs.now.items producer_end in
    c.loop-q.invariant.ends ∙ below_past (out_ends c.args.outs.now.items) c.args.me c.loop-q.q _
    (omega (arith, f, n, l))
