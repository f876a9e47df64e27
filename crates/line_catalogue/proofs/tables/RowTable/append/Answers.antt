-- The rows and the vector of one process follow the event.
use Rattle.std.proofs.Common.{◌≡◌, ◌+◌, ◌<◌, length, map, get_or, set, [], List, ℕ, sym, ap, ◌∙◌}
use Rattle.std.proofs.Common.{arith}
use Rattle.std.proofs.lemmas.List.{length-map}
use Rattle.line_tape.specs.declared.events.Event.{Event}
use Rattle.line_tape.specs.Event.{sends}
use Rattle.line_catalogue.specs.declared.kept_rows.Row.{Row}
use Rattle.line_catalogue.specs.Kept.{RowsView, TableView, rows_at, present_at}
use Rattle.line_catalogue.specs.Plain.{check_rows_of, present_of, rows_room}
use Rattle.line_catalogue.specs.Rows.{vector_after_event, row_added, with_row}
use Rattle.line_catalogue.proofs.TableLemmas.{seen-old, seen-new, seen-written, seen-other}
use Rattle.line_catalogue.proofs.tables.RowTable.append.Goals as goal

pub returns : goal.returns
returns c =
    let items : List RowsView = c.self.inside.table.items in
    let p : ℕ = c.args.p in
    let k : ℕ = c.get.result in
    let at : k ≡ p = c.get.ensures.value in
    let rows : map check_rows_of items
    ≡ c.args.self.now.rows = ap (λ (t : TableView). t.rows) c.self.view_is in
    let presents : map present_of items
    ≡ c.args.self.now.presents = ap (λ (t : TableView). t.presents) c.self.view_is in
    let rooms : map rows_room items
    ≡ c.args.self.now.rooms = ap (λ (t : TableView). t.rooms) c.self.view_is in
    let within : k < length items = omega (
      arith,
      c.requires.process,
      ap
          (λ (xs : List (List Row)). length xs) rows,
      length-map items check_rows_of,
    ) in
    let old : RowsView = c.index_mut.result.now in
    let new : RowsView = c.append_next.new.self in
    let is : old ≡ get_or items k old = c.index_mut.ensures.value in
    let event : Event = c.args.event.now in
    record {
      rows =
          let with : List (List Row) → List (List ℕ) → ℕ
          → List Row = λ xs ys j. with_row (rows_at xs j) (row_added (length
          c.args.tape.now.events + 1) (sends c.args.tape.now.events) (present_at ys j) event) in
          let there : check_rows_of new ≡ with (map check_rows_of items) (map present_of items) k =
          c.append_next.ensures.rows
          ∙ ap (λ (xs : List Row). with_row xs
          (row_added (length c.args.tape.now.events + 1) (sends c.args.tape.now.events)
          old.present event)) (sym (seen-old check_rows_of [] items k old new within is))
          ∙ ap (λ (ys : List ℕ). with_row (rows_at (map check_rows_of items) k)
          (row_added (length c.args.tape.now.events + 1) (sends c.args.tape.now.events) ys
          event)) (sym (seen-old present_of [] items k old new within is))
          in
          seen-written check_rows_of [] items k old new within is ∙ ap
          (set (map check_rows_of items) k) there ∙ ap (λ j. set (map check_rows_of items) j
          (with (map check_rows_of items) (map present_of items) j)) at
          ∙ ap (λ (xs : List (List Row)). set xs p (with xs (map present_of items) p)) rows ∙ ap
          (λ (ys : List (List ℕ)). set c.args.self.now.rows p (with c.args.self.now.rows ys p))
          presents;
      presents =
          let there : present_of new
          ≡ vector_after_event
          (present_at (map present_of items) k) event = c.append_next.ensures.present ∙ ap
          (λ (ys : List ℕ). vector_after_event ys event)
          (sym (seen-old present_of [] items k old new within is)) in
          seen-written present_of [] items k old new within is ∙ ap
          (set (map present_of items) k) there ∙ ap (λ j. set (map present_of items) j
          (vector_after_event (present_at (map present_of items) j) event)) at
          ∙ ap (λ (ys : List (List ℕ)). set ys p (vector_after_event (present_at ys p) event))
          presents;
      room =
          let here : get_or c.args.self.now.rooms p 0
          ≡ old.room = ap (λ (xs : List ℕ). get_or xs p 0) (sym rooms) ∙ ap (λ j. get_or (map
          rows_room items) j 0) (sym at) ∙ seen-old rows_room 0 items k old new within is in
          let there : get_or (map rows_room (set items k new)) p 0
          ≡ new.room = ap (λ j. get_or (map rows_room (set items k new)) j 0)
          (sym at) ∙ seen-new rows_room 0 items k old new within is in
          omega (arith, c.append_next.ensures.room, here, there);
      others = λ q apart. seen-other rows_room 0 items k old new within is q
          (λ e. apart (e ∙ at)) ∙ ap (λ (xs : List ℕ). get_or xs q 0) rooms;
    }
