-- One queue of the links from one process takes the item, or stays as it is.
use Rattle.std.proofs.Common.{◌≡◌, ◌<◌, ◌++◌, ◌∷◌, [], List, ℕ, length, get_or, set, map, ap, ◌∙◌}
use Rattle.std.proofs.Common.{arith}
use Rattle.std.proofs.lemmas.List.{get_or_default, length-map}
use Rattle.std.proofs.lemmas.Result.{on_err_weaker, on_ok_weaker}
use Rattle.std.proofs.Math.ListN.{get_or-map}
use Rattle.std.proofs.Math.Seq.{map-set_same}
use Rattle.line_tape.specs.declared.items.Item.{Item}
use Rattle.line_rounds.specs.Tables.{between, with_list}
use Rattle.line_moves.specs.Rooms.{QueueView, items_held}
use Rattle.line_moves.proofs.RoomLemmas.{map-changed}
use Rattle.line_moves.proofs.links.Links.push.Goals as goal

pub returns-clause-ok : goal.returns-clause-ok
returns-clause-ok c =
    let rows : List (List QueueView) = c.self.inside.rows.items in
    let row : List QueueView = c.row.inside.queues.items in
    let held : QueueView → List Item = λ queue. queue.held in
    let to : ℕ = c.args.to in
    let item : Item = c.args.item in
    let seen : map items_held rows ≡ c.args.self.now = c.self.view_is in
    let within : c.get.result < length rows = omega (
      arith,
      c.get.ensures.value,
      c.requires.from,
      length-map rows items_held,
      ap (λ (xs : List (List (List Item))). length xs) seen,
    ) in
    let to_within : c.get-2.result < length row =
    omega (
      arith,
      c.get-2.ensures.value,
      c.requires.to,
      ap (λ (queues : List (List (List Item))). length (get_or queues c.args.from [])) seen,
      ap (λ (k : ℕ). length (get_or (map items_held rows) k [])) c.get.ensures.value,
      ap (λ (xs : List (List Item)). length xs) (get_or-map items_held rows c.get.result []),
      length-map (get_or rows c.get.result []) held,
      ap (λ (xs : List QueueView). length xs) (c.row.view_is ∙ c.index_mut-row.ensures.value ∙
          get_or_default rows c.get.result c.index_mut-row.result.now [] within),
    ) in
    let with_item : List (List Item)
    → List (List Item) = λ row. set row to (get_or row to [] ++ item ∷ []) in
    on_ok_weaker c.push.result (λ put.
    map-changed items_held rows c.get.result [] c.index_mut-row.result.now
    (set row c.get-2.result c.push.new.self) with_item within c.index_mut-row.ensures.value
    (map-changed held row c.get-2.result [] c.index_mut-queue.result.now c.push.new.self
    (λ (xs : List Item). xs ++ item ∷ []) to_within c.index_mut-queue.ensures.value
    (put ∙ ap (λ (kept : Item). held c.index_mut-queue.result.now ++ kept ∷ []) c.of.ensures)
    ∙ ap (λ (k : ℕ). set (items_held row) k (get_or (items_held row) k [] ++ item ∷ []))
    c.get-2.ensures.value
    ∙ ap (λ (xs : List QueueView). with_item (items_held xs)) c.row.view_is)
    ∙ ap (λ (from : ℕ). with_list (map items_held rows) from to
    (between (map items_held rows) from to ++ item ∷ [])) c.get.ensures.value
    ∙ ap (λ (queues : List (List (List Item))). with_list queues c.args.from to
    (between queues c.args.from to ++ item ∷ [])) seen) c.push.ensures.ok

pub returns-clause-err : goal.returns-clause-err
returns-clause-err c =
    let row : List QueueView = c.row.inside.queues.items in
    let held : QueueView → List Item = λ queue. queue.held in
    on_err_weaker c.push.result (λ same.
    map-set_same items_held c.self.inside.rows.items c.get.result
    (set row c.get-2.result c.push.new.self) c.index_mut-row.result.now
    (map-set_same held row c.get-2.result c.push.new.self c.index_mut-queue.result.now
    (same ∙ ap held c.index_mut-queue.ensures.value)
    ∙ ap (λ (xs : List QueueView). items_held xs) c.row.view_is ∙ ap items_held
    c.index_mut-row.ensures.value) ∙ c.self.view_is) c.push.ensures.err
