-- One row of one process changes.
use Rattle.std.proofs.Common.{◌≡◌, ◌<◌, length, map, get_or, set, [], List, ℕ, sym, ap, ◌∙◌, arith}
use Rattle.std.proofs.lemmas.List.{length-map}
use Rattle.line_catalogue.specs.declared.kept_rows.Row.{Row}
use Rattle.line_catalogue.specs.Kept.{RowsView, TableView, rows_at}
use Rattle.line_catalogue.specs.Plain.{check_rows_of, present_of, rows_room}
use Rattle.line_catalogue.specs.Rows.{with_damage}
use Rattle.line_catalogue.proofs.TableLemmas.{seen-old, seen-written, seen-same}
use Rattle.line_catalogue.proofs.tables.RowTable.damage.Goals as goal

pub returns : goal.returns
returns c =
    let items : List RowsView = c.self.inside.table.items in
    let p : ℕ = c.args.p in
    let k : ℕ = c.get.result in
    let at : k ≡ p = c.get.ensures.value in
    let rows : map check_rows_of items
    ≡ c.args.self.now.rows = ap (λ (t : TableView). t.rows) c.self.view_is in
    let presents : map present_of items
    ≡ c.args.self.now.presents = ap (λ (t : TableView). t.presents) c.self.view_is in
    let rooms : map rows_room items
    ≡ c.args.self.now.rooms = ap (λ (t : TableView). t.rooms) c.self.view_is in
    let within : k < length items = omega (
      arith,
      c.requires.process,
      ap
          (λ (xs : List (List Row)). length xs) rows,
      length-map items check_rows_of,
    ) in
    let old : RowsView = c.index_mut.result.now in
    let new : RowsView = c.damage.new.self in
    let is : old ≡ get_or items k old = c.index_mut.ensures.value in
    record {
      rows =
          let there : check_rows_of new
          ≡ with_damage
          (rows_at (map check_rows_of items) k) c.args.check = c.damage.ensures.rows ∙ ap
          (λ (xs : List Row). with_damage xs c.args.check)
          (sym (seen-old check_rows_of [] items k old new within is)) in
          seen-written check_rows_of [] items k old new within is ∙ ap
          (set (map check_rows_of items) k) there ∙ ap (λ j. set (map check_rows_of items) j
          (with_damage (rows_at (map check_rows_of items) j) c.args.check)) at
          ∙ ap (λ (xs : List (List Row)). set xs p (with_damage (rows_at xs p) c.args.check)) rows;
      presents =
          seen-same present_of [] items k old new within is c.damage.ensures.present ∙ presents;
      rooms = seen-same rows_room 0 items k old new within is c.damage.ensures.room ∙ rooms;
    }
