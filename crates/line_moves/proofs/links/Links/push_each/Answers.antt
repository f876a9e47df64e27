-- The links from one process all take the item, or stay as they are.
use Rattle.std.proofs.Common.{◌≡◌, ◌<◌, [], List, ℕ, length, get_or, set, map, ap, ◌∙◌, arith}
use Rattle.std.proofs.lemmas.List.{length-map}
use Rattle.std.proofs.Math.Seq.{map-set_same}
use Rattle.line_tape.specs.declared.items.Item.{Item}
use Rattle.line_moves.specs.Queues.{with_on_each, with_on_others}
use Rattle.line_moves.specs.Rooms.{QueueView, items_held}
use Rattle.line_moves.proofs.RoomLemmas.{map-changed, on_err}
use Rattle.line_moves.proofs.links.Links.push_each.Goals as goal

pub returns-in_err-reserve-clause-err : goal.returns-in_err-reserve-clause-err
returns-in_err-reserve-clause-err c =
    on_err c.from_residual.result
    (map-set_same items_held c.self.inside.rows.items c.get.result c.reserve.new.self
    c.index_mut-row.result.now (c.in_err-reserve.ensures.same ∙ ap items_held
    c.index_mut-row.ensures.value) ∙ c.self.view_is)

pub returns-clause-ok : goal.returns-clause-ok
returns-clause-ok c =
    let rows : List (List QueueView) = c.self.inside.rows.items in
    let from : ℕ = c.args.from in
    let item : Item = c.args.item in
    let at : c.get.result ≡ from = c.get.ensures.value in
    let seen : map items_held rows ≡ c.args.self.now = c.self.view_is in
    let within : c.get.result < length rows = omega (
      arith,
      c.requires,
      length-map rows items_held,
      ap (λ (xs : List (List (List Item))). length xs) seen,
    ) in
    map-changed items_held rows c.get.result [] c.index_mut-row.result.now c.push_to_others.new.self
    (λ row. with_on_others row from item) within c.index_mut-row.ensures.value
    (c.push_to_others.ensures
    ∙ ap (λ (kept : Item). with_on_others (items_held c.reserve.new.self) from kept) c.of.ensures
    ∙ ap (λ row. with_on_others row from item) c.in_ok-reserve.ensures.same)
    ∙ ap (λ (p : ℕ). set (map items_held rows) p
    (with_on_others (get_or (map items_held rows) p []) from item)) at
    ∙ ap (λ (queues : List (List (List Item))). with_on_each queues from item) seen
