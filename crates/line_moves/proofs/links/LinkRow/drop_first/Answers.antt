-- One queue loses its first item.
use Rattle.std.proofs.Common.{◌≡◌, ◌<◌, [], List, ℕ, length, get_or, set, drop, ap, ◌∙◌, arith}
use Rattle.line_tape.specs.declared.items.Item.{Item}
use Rattle.line_moves.specs.Rooms.{QueueView, items_held}
use Rattle.line_moves.proofs.RoomLemmas.{map-changed, AreEmpty-off}
use Rattle.line_moves.proofs.links.LinkRow.drop_first.Goals as goal

pub returns : goal.returns
returns c =
    let row : List QueueView = c.self.inside.queues.items in
    let held : QueueView → List Item = λ queue. queue.held in
    let at : c.get.result ≡ c.args.to = c.get.ensures.value in
    let seen : row ≡ c.args.self.now = c.self.view_is in
    let within : c.get.result < length row = omega
    (arith, c.requires, ap (λ (xs : List QueueView). length xs) seen) in
    map-changed held row c.get.result [] c.index_mut-queue.result.now c.drop_first.new.self
    (λ (xs : List Item). drop 1 xs) within c.index_mut-queue.ensures.value c.drop_first.ensures
    ∙ ap (λ (k : ℕ). set (items_held row) k (drop 1 (get_or (items_held row) k []))) at
    ∙ ap (λ (xs : List QueueView). set (items_held xs) c.args.to
    (drop 1 (get_or (items_held xs) c.args.to []))) seen

pub invariant_of-self : goal.invariant_of-self
invariant_of-self c = λ unused.
    let row : List QueueView = c.self.inside.queues.items in
    let held : QueueView → List Item = λ queue. queue.held in
    let new : QueueView = c.drop_first.new.self in
    let at : c.get.result ≡ c.args.to = c.get.ensures.value in
    let seen : row ≡ c.args.self.now = c.self.view_is in
    let within : c.get.result < length row = omega
    (arith, at, c.requires, ap (λ (xs : List QueueView). length xs) seen) in
    let off = map-changed held row c.get.result [] c.index_mut-queue.result.now new (λ
    (xs : List Item). drop 1 xs) within c.index_mut-queue.ensures.value c.drop_first.ensures in
    AreEmpty-off row (set row c.get.result new) c.get.result off (c.self.invariant unused)
