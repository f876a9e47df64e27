use Rattle.std.proofs.Common.{◌≡◌, ◌<◌, ◌∙◌, ◌++◌, ◌∷◌, [], length, sym, ap, subst, arith}
use Rattle.std.proofs.lemmas.List.{map-append, length-map, length-set, length_push}
use Rattle.std.proofs.lemmas.List.Elements.{All-push}
use Rattle.std.specs.Prelude.{All}
use Rattle.line_posts.specs.Ends.{producer_end, consumer_end, out_ends, in_ends, in_rows}
use Rattle.line_posts.specs.Ends.{HasAllFree}
use Rattle.line_posts.proofs.EndLemmas.{pair_end}
use Rattle.line_posts.proofs.RowLemmas.{deal_step, fresh_more}
use Rattle.line_posts.proofs.links.row.Goals as goal

pub loop-q-preserved : goal.loop-q-preserved
loop-q-preserved g c =
    let i = c.loop-q.invariant in
    let p = c.in_ok-producer.producer in
    let r = c.in_ok-producer.consumer in
    let within : c.loop-q.q < length c.loop-q.ins.items = omega
    (arith, c.loop-q-test.true, i.long) in
    let same : consumer_end r ≡ producer_end p = pair_end p r c.in_ok-producer.ensures.pair
    c.in_ok-producer.ensures.producer.0 c.in_ok-producer.ensures.consumer.0 in
    let pushed : out_ends c.push.new.self.items
    ≡ out_ends c.loop-q.outs.items ++ producer_end p ∷ [] = ap out_ends
    c.in_ok-push.ensures.items ∙ map-append producer_end c.loop-q.outs.items (p ∷ []) in
    let put : in_ends c.push-in-loop-q.new.self.items
    ≡ in_ends c.index_mut-column.result.now.items ++ producer_end p ∷ [] =
    ap in_ends c.in_ok-push-2.ensures.items ∙
    (map-append consumer_end c.index_mut-column.result.now.items (r ∷ []) ∙ ap
    (λ t. in_ends c.index_mut-column.result.now.items ++ t ∷ []) same) in
    let w = i.within in
    let l = i.long in
    let k = i.count in
    record {
      within = i.within;
      long = length-set c.loop-q.ins.items c.loop-q.q c.push-in-loop-q.new.self ∙ i.long;
      count = ap length c.in_ok-push.ensures.items ∙
          (length_push c.loop-q.outs.items p ∙ omega (arith, k));
      dealt_is = deal_step (λ v. in_ends v.items) c.loop-q.ins.items (in_rows c.args.ins.now.items)
          (out_ends c.loop-q.outs.items) (out_ends c.push.new.self.items) c.loop-q.q
          c.index_mut-column.result.now c.push-in-loop-q.new.self (producer_end p)
          within (length-map c.args.ins.now.items (λ v. in_ends v.items) ∙ omega (arith, w, l))
          (length-map c.loop-q.outs.items producer_end ∙ k) i.dealt_is
          c.index_mut-column.ensures.value put pushed;
      fresh = fresh_more (out_ends c.loop-q.outs.items) (out_ends c.push.new.self.items)
          (producer_end p) pushed c.in_ok-producer.ensures.producer.0 i.fresh;
      free = subst (All (HasAllFree c.args.capacity)) (sym c.in_ok-push.ensures.items)
          (All-push (HasAllFree c.args.capacity) c.loop-q.outs.items p i.free
          (c.in_ok-producer.ensures.producer.1, c.in_ok-producer.ensures.producer.2));
    }
