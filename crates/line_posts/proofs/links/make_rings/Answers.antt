use Rattle.std.proofs.Common.{◌∙◌, ◌∷◌, [], sym, ap, subst, arith}
use Rattle.std.proofs.lemmas.List.{map-append, length-map}
use Rattle.std.proofs.lemmas.List.Elements.{All-nil, All-push}
use Rattle.std.specs.Prelude.{All}
use Rattle.line_posts.specs.Ends.{out_ends, out_rows, in_rows, HasAllFree, HaveAllFree}
use Rattle.line_posts.proofs.EndLemmas.{slots_rows}
use Rattle.line_posts.proofs.RowLemmas.{linked_start, linked_step, linked_moved}
use Rattle.line_posts.proofs.links.make_rings.Goals as goal

pub loop-p-init : goal.loop-p-init
loop-p-init g c = record {
  linked = linked_moved 0 c.args.receivers [] _ _ _ (sym (ap out_rows c.in_ok-outs.ensures.items))
      (sym c.in_ok-ins.ensures) (linked_start c.args.receivers);
  capacity = subst (HaveAllFree c.args.capacity) (sym c.in_ok-outs.ensures.items)
      (All-nil (λ v. All (HasAllFree c.args.capacity) v.items));
}

pub loop-p-preserved : goal.loop-p-preserved
loop-p-preserved g c =
    let i = c.loop-p.invariant.linked in
    record {
      linked = linked_moved _ _ _ _ _ _
          (sym (map-append (λ v. out_ends v.items) c.loop-p.outs.items (c.in_ok-row.row ∷ [])) ∙ sym
          (ap out_rows c.in_ok-push.ensures.items))
          (sym c.in_ok-row.ensures.dealt)
          (linked_step c.loop-p._p c.args.receivers (out_rows c.loop-p.outs.items)
          (in_rows c.loop-p.ins.items) (out_ends c.in_ok-row.row.items) i
          (length-map c.in_ok-row.row.items _ ∙
          (c.in_ok-row.ensures.count ∙ (sym (length-map c.loop-p.ins.items _) ∙ i.receivers)))
          c.in_ok-row.ensures.fresh);
      capacity = subst (HaveAllFree c.args.capacity) (sym c.in_ok-push.ensures.items)
          (All-push (λ v. All (HasAllFree c.args.capacity) v.items) c.loop-p.outs.items
          c.in_ok-row.row c.loop-p.invariant.capacity c.in_ok-row.ensures.free);
    }

pub returns-clause-slots : goal.returns-clause-slots
returns-clause-slots g c = λ p q lp lq.
    (let l = c.loop-p.invariant.linked in
    let long = length-map c.loop-p.outs.items (λ v. out_ends v.items) in
    let f = c.loop-p-test.false in
    let senders = l.senders in
    let row = l.out_count p (omega (arith, lp, f)) in
    slots_rows c.args.capacity c.loop-p.outs.items p q c.loop-p.invariant.capacity
    (omega (arith, lp, f, long, senders)) (omega (arith, lq, row)))
