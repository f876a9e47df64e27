-- The rows of one process get room, and nothing else is seen to change.
use Rattle.std.proofs.Common.{◌≡◌, ◌<◌, ◌≤◌, length, map, get_or, set, [], List, ℕ, sym, ap, ◌∙◌}
use Rattle.std.proofs.Common.{subst, arith}
use Rattle.std.proofs.lemmas.List.{length-map}
use Rattle.std.specs.Prelude.{OnOk}
use Rattle.line_catalogue.specs.declared.kept_rows.Row.{Row}
use Rattle.line_catalogue.specs.Kept.{RowsView, TableView}
use Rattle.line_catalogue.specs.Plain.{check_rows_of, present_of, rows_room}
use Rattle.line_catalogue.proofs.TableLemmas.{seen-old, seen-new, seen-other, seen-same}
use Rattle.line_catalogue.proofs.tables.RowTable.reserve.Goals as goal

pub returns : goal.returns
returns c =
    let items : List RowsView = c.self.inside.table.items in
    let p : ℕ = c.args.p in
    let k : ℕ = c.get.result in
    let at : k ≡ p = c.get.ensures.value in
    let rows : map check_rows_of items
    ≡ c.args.self.now.rows = ap (λ (t : TableView). t.rows) c.self.view_is in
    let presents : map present_of items
    ≡ c.args.self.now.presents = ap (λ (t : TableView). t.presents) c.self.view_is in
    let rooms : map rows_room items
    ≡ c.args.self.now.rooms = ap (λ (t : TableView). t.rooms) c.self.view_is in
    let within : k < length items = omega (
      arith,
      c.requires,
      ap
          (λ (xs : List (List Row)). length xs) rows,
      length-map items check_rows_of,
    ) in
    let old : RowsView = c.index_mut.result.now in
    let new : RowsView = c.reserve.new.self in
    let is : old ≡ get_or items k old = c.index_mut.ensures.value in
    let here : get_or c.args.self.now.rooms p 0
    ≡ old.room = ap (λ (xs : List ℕ). get_or xs p 0) (sym rooms) ∙ ap (λ j. get_or
    (map rows_room items) j 0) (sym at) ∙ seen-old rows_room 0 items k old new within is in
    let there : get_or (map rows_room (set items k new)) p 0
    ≡ new.room = ap (λ j. get_or (map rows_room (set items k new)) j 0)
    (sym at) ∙ seen-new rows_room 0 items k old new within is in
    record {
      same = seen-same check_rows_of [] items k old new within is c.reserve.ensures.same.0 ∙ rows;
      presents =
          seen-same present_of [] items k old new within is c.reserve.ensures.same.1 ∙ presents;
      ok = subst (λ (n : ℕ). OnOk c.reserve.result (c.args.k ≤ n)) (sym there) c.reserve.ensures.ok;
      succeeds = λ few. c.reserve.ensures.succeeds (omega (arith, few, here));
      room = omega (arith, c.reserve.ensures.room, here, there);
      others = λ q apart. seen-other rows_room 0 items k old new within is q
          (λ e. apart (e ∙ at)) ∙ ap (λ (xs : List ℕ). get_or xs q 0) rooms;
    }
