use Rattle.std.proofs.Common.{◌<◌, ◌∙◌, length, sym, ap, subst, arith}
use Rattle.std.specs.VecDeque.{deque_items}
use Rattle.std.proofs.lemmas.Bool.{not-true, not-false, eqb-true, eqb-false}
use Rattle.std.proofs.lemmas.List.{nil_from_length}
use Rattle.line_posts.proofs.RowLemmas.{row_seen}
use Rattle.line_posts.proofs.queues.keeps.Goals as goal

pub returns-clause-yes_is : goal.returns-clause-yes_is
returns-clause-yes_is g c t =
    let row = row_seen deque_items c.args.queues.now.items c.args.p c.index-queue.result.now
    c.requires ∙ ap deque_items (sym c.index-queue.ensures) in
    let f = eqb-false _ _ (sym c.is_empty.ensures ∙ not-true _ t) in
    let ok = c.index-queue.result.now.ok in
    subst (λ v. 0 < length v) (sym row) (omega (arith, f, ok))

pub returns-clause-no_is : goal.returns-clause-no_is
returns-clause-no_is g c t =
    let row = row_seen deque_items c.args.queues.now.items c.args.p c.index-queue.result.now
    c.requires ∙ ap deque_items (sym c.index-queue.ensures) in
    let f = eqb-true _ _ (sym c.is_empty.ensures ∙ not-false _ t) in
    let ok = c.index-queue.result.now.ok in
    row ∙ nil_from_length _ (omega (arith, f, ok))
