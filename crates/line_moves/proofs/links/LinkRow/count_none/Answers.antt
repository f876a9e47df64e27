-- One queue is written, and holds what it held.
use Rattle.std.proofs.Common.{◌≡◌, ◌<◌, List, length, ap, ◌∙◌, arith}
use Rattle.std.proofs.Math.Seq.{map-set_same}
use Rattle.line_tape.specs.declared.items.Item.{Item}
use Rattle.line_moves.specs.Rooms.{items_held, QueueView}
use Rattle.line_moves.proofs.CountLemmas.{queue-written, queue-other}
use Rattle.line_moves.proofs.links.LinkRow.count_none.Goals as goal

pub returns-clause-same : goal.returns-clause-same
returns-clause-same c =
    let row : List QueueView = c.self.inside.queues.items in
    let held : QueueView → List Item = λ queue. queue.held in
    map-set_same held row c.get.result c.count_none.new.self c.index_mut-queue.result.now
    (c.count_none.ensures.held ∙ ap held c.index_mut-queue.ensures.value)
    ∙ ap (λ (xs : List QueueView). items_held xs) c.self.view_is

pub returns-clause-others : goal.returns-clause-others
returns-clause-others c = queue-other c.self.inside.queues.items c.args.self.now c.get.result
    c.args.to c.self.view_is c.get.ensures.value c.count_none.new.self

pub returns-clause-none : goal.returns-clause-none
returns-clause-none c =
    let row : List QueueView = c.self.inside.queues.items in
    let at : c.get.result ≡ c.args.to = c.get.ensures.value in
    let within : c.get.result < length row = omega
    (arith, at, c.requires, ap (λ (xs : List QueueView). length xs) c.self.view_is) in
    ap (λ (v : QueueView). v.counted) (queue-written row c.args.self.now c.get.result c.args.to
    c.self.view_is at c.count_none.new.self within) ∙ c.count_none.ensures.none
