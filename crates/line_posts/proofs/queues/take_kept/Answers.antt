use Rattle.std.proofs.Common.{◌<◌, ◌++◌, ◌∙◌, length, sym, ap, subst, arith}
use Rattle.std.specs.VecDeque.{deque_items}
use Rattle.std.specs.Option.{option_to_list}
use Rattle.line_posts.proofs.RowLemmas.{row_seen}
use Rattle.line_posts.proofs.ReceiveLemmas.{pop_row}
use Rattle.line_posts.proofs.queues.take_kept.Goals as goal

pub unwrap-requires : goal.unwrap-requires
unwrap-requires g c =
    let row = row_seen deque_items c.args.queues.now.items c.args.p c.index_mut-queue.result.now
    c.requires.within ∙ ap deque_items (sym c.index_mut-queue.ensures.value) in
    let some = subst (λ v. 0 < length v) row c.requires.some in
    let ok = c.index_mut-queue.result.now.ok in
    c.pop_front.ensures.variant.1 (omega (arith, some, ok))

pub returns-clause-first : goal.returns-clause-first
returns-clause-first g c =
    (pop_row deque_items c.args.queues.now.items c.args.p c.index_mut-queue.result.now
    c.pop_front.new.self c.unwrap.result c.requires.within c.index_mut-queue.ensures.value
    (c.pop_front.ensures.items ∙ ap
    (λ o. option_to_list o ++ deque_items c.pop_front.new.self) c.unwrap.ensures)).0

pub returns-clause-rows : goal.returns-clause-rows
returns-clause-rows g c =
    (pop_row deque_items c.args.queues.now.items c.args.p c.index_mut-queue.result.now
    c.pop_front.new.self c.unwrap.result c.requires.within c.index_mut-queue.ensures.value
    (c.pop_front.ensures.items ∙ ap
    (λ o. option_to_list o ++ deque_items c.pop_front.new.self) c.unwrap.ensures)).1
