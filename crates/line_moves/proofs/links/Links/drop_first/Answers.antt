-- One link loses its first item.
use Rattle.std.proofs.Common.{◌≡◌, ◌<◌, [], List, ℕ, length, get_or, set, drop, map, ap, ◌∙◌, arith}
use Rattle.std.proofs.lemmas.List.{length-map}
use Rattle.line_tape.specs.declared.items.Item.{Item}
use Rattle.line_rounds.specs.Tables.{between, with_list}
use Rattle.line_moves.specs.Rooms.{QueueView, items_held}
use Rattle.line_moves.proofs.RoomLemmas.{map-changed}
use Rattle.line_moves.proofs.links.Links.drop_first.Goals as goal

pub returns : goal.returns
returns c =
    let rows : List (List QueueView) = c.self.inside.rows.items in
    let to : ℕ = c.args.to in
    let at : c.get.result ≡ c.args.from = c.get.ensures.value in
    let seen : map items_held rows ≡ c.args.self.now = c.self.view_is in
    let within : c.get.result < length rows = omega (
      arith,
      c.requires.from,
      length-map rows
          items_held,
      ap (λ (xs : List (List (List Item))). length xs) seen,
    ) in
    let without : List (List Item)
    → List (List Item) = λ row. set row to (drop 1 (get_or row to [])) in
    map-changed items_held rows c.get.result [] c.index_mut-row.result.now c.drop_first.new.self
    without within c.index_mut-row.ensures.value c.drop_first.ensures
    ∙ ap (λ (from : ℕ). with_list (map items_held rows) from to
    (drop 1 (between (map items_held rows) from to))) at
    ∙ ap (λ (queues : List (List (List Item))). with_list queues c.args.from to
    (drop 1 (between queues c.args.from to))) seen
