-- One queue takes the item, in room made for it.
use Rattle.std.proofs.Common.{◌≡◌, ◌<◌, ◌++◌, ◌∷◌, [], List, ℕ, length, get_or, set, ap, ◌∙◌, arith}
use Rattle.line_tape.specs.declared.items.Item.{Item}
use Rattle.line_moves.specs.Rooms.{items_held, QueueView}
use Rattle.line_moves.proofs.CountLemmas.{queue-read, queue-written, queue-other}
use Rattle.line_moves.proofs.RoomLemmas.{map-changed}
use Rattle.line_moves.proofs.links.LinkRow.push_reserved.Goals as goal

pub push_reserved-requires : goal.push_reserved-requires
push_reserved-requires c =
    let row : List QueueView = c.self.inside.queues.items in
    let at : c.get.result ≡ c.args.to = c.get.ensures.value in
    let within : c.get.result < length row = omega
    (arith, at, c.requires.to, ap (λ (xs : List QueueView). length xs) c.self.view_is) in
    let old = queue-read row c.args.self.now c.get.result c.args.to c.self.view_is at
    c.index_mut-queue.result.now within c.index_mut-queue.ensures.value in
    omega (arith, c.requires.room, ap (λ (v : QueueView). v.room) old)

pub returns-clause-items : goal.returns-clause-items
returns-clause-items c =
    let row : List QueueView = c.self.inside.queues.items in
    let held : QueueView → List Item = λ queue. queue.held in
    let old : QueueView = c.index_mut-queue.result.now in
    let at : c.get.result ≡ c.args.to = c.get.ensures.value in
    let seen : row ≡ c.args.self.now = c.self.view_is in
    let within : c.get.result < length row = omega
    (arith, at, c.requires.to, ap (λ (xs : List QueueView). length xs) seen) in
    map-changed held row c.get.result [] old c.push_reserved.new.self
    (λ (xs : List Item). xs ++ c.args.item ∷ []) within c.index_mut-queue.ensures.value
    (c.push_reserved.ensures.held ∙ ap (λ (kept : Item). old.held ++ kept ∷ []) c.of.ensures)
    ∙ ap (λ (k : ℕ). set (items_held row) k (get_or (items_held row) k [] ++ c.args.item ∷ [])) at
    ∙ ap (λ (xs : List QueueView). set (items_held xs) c.args.to
    (get_or (items_held xs) c.args.to [] ++ c.args.item ∷ [])) seen

pub returns-clause-others : goal.returns-clause-others
returns-clause-others c = queue-other c.self.inside.queues.items c.args.self.now c.get.result
    c.args.to c.self.view_is c.get.ensures.value c.push_reserved.new.self

pub returns-clause-room : goal.returns-clause-room
returns-clause-room c =
    let row : List QueueView = c.self.inside.queues.items in
    let at : c.get.result ≡ c.args.to = c.get.ensures.value in
    let within : c.get.result < length row = omega
    (arith, at, c.requires.to, ap (λ (xs : List QueueView). length xs) c.self.view_is) in
    let old = queue-read row c.args.self.now c.get.result c.args.to c.self.view_is at
    c.index_mut-queue.result.now within c.index_mut-queue.ensures.value in
    let written = queue-written row c.args.self.now c.get.result c.args.to c.self.view_is at
    c.push_reserved.new.self within in
    omega (
      arith,
      ap (λ (v : QueueView). v.room) old,
      ap
          (λ (v : QueueView). v.room) written,
      c.push_reserved.ensures.room,
    )
