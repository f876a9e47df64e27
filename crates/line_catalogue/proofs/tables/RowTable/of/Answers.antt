-- The processes whose rows are made grow by one.
use Rattle.std.proofs.Common.{◌≡◌, ℕ, List, ◌++◌, ◌∷◌, [], length, map, inl, inr, sym, ap, ◌∙◌}
use Rattle.std.proofs.Common.{subst, arith}
use Rattle.std.proofs.lemmas.Bool.{cases_lt}
use Rattle.std.proofs.lemmas.List.{length_push, length-map, map-append, get_or_append_left}
use Rattle.std.proofs.lemmas.List.{get_or_push}
use Rattle.line_tape.specs.declared.events.Event.{Event}
use Rattle.line_tape.specs.History.{Process, tape_at}
use Rattle.line_tape.specs.Views.{MarksView, damaged_at}
use Rattle.line_vectors.specs.Reach.{reach_of}
use Rattle.line_catalogue.specs.declared.kept_rows.Row.{Row}
use Rattle.line_catalogue.specs.Kept.{RowsView, rows_at, present_at}
use Rattle.line_catalogue.specs.Plain.{check_rows_of, present_of}
use Rattle.line_catalogue.specs.Rows.{AreRows}
use Rattle.line_catalogue.proofs.tables.RowTable.of.Goals as goal

pub loop-q-preserved : goal.loop-q-preserved
loop-q-preserved c =
    let history : List Process = c.args.history.now.processes in
    let marks : MarksView = c.args.marks.now in
    let n : ℕ = c.n-n.result in
    let items : List RowsView = c.loop-q.table.items in
    let made : RowsView = c.in_ok-process.process in
    let q : ℕ = c.loop-q.q in
    let at : c.unwrap-p.result ≡ q = (rw c.unwrap-p.ensures at c.try_new.ensures).1 in
    let pushed : c.push_reserved.new.self.items
    ≡ items ++ made ∷ [] = c.push_reserved.ensures.items in
    let seen : map check_rows_of c.push_reserved.new.self.items
    ≡ map check_rows_of items ++ made.rows ∷ [] =
    ap (map check_rows_of) pushed ∙ map-append check_rows_of items (made ∷ []) in
    let told : map present_of c.push_reserved.new.self.items ≡ map present_of items ++ made.present
    ∷ [] = ap (map present_of) pushed ∙ map-append present_of items (made ∷ []) in
    let tape : c.tape.result.now.events
    ≡ tape_at history q = c.tape.ensures.events ∙ ap (tape_at history) at in
    let damaged : damaged_at marks c.unwrap-p.result
    ≡ damaged_at marks q = ap (damaged_at marks) at in
    let rows : AreRows n (tape_at history q) (damaged_at marks q) made.rows = subst
    (λ (t : List Event). AreRows n t (damaged_at marks q) made.rows) tape
    (subst (λ (xs : List ℕ). AreRows n c.tape.result.now.events xs made.rows) damaged
    c.in_ok-process.ensures.rows) in
    let present : made.present
    ≡ reach_of n (tape_at history q) = c.in_ok-process.ensures.present ∙ ap (reach_of n) tape in
    let count : length (map check_rows_of items)
    ≡ q = length-map items check_rows_of ∙ c.loop-q.invariant.count in
    let counted : length (map present_of items)
    ≡ q = length-map items present_of ∙ c.loop-q.invariant.count in
    record {
      count = omega (
        arith,
        ap (λ (xs : List RowsView). length xs) pushed,
        length_push items made,
        c.loop-q.invariant.count,
      );
      len = omega (arith, c.push_reserved.ensures.len, c.loop-q.invariant.len);
      room = omega (arith, c.push_reserved.ensures.capacity, c.loop-q.invariant.room);
      shown = λ p h. subst (λ (xs : List (List Row)). AreRows n (tape_at history p)
          (damaged_at marks p) (rows_at xs p)) (sym seen) (elim (cases_lt p q) [
            | inl before ↦ subst (AreRows n (tape_at history p) (damaged_at marks p))
                (sym (get_or_append_left (map check_rows_of items) (made.rows ∷ []) [] p
                (omega arith)))
                (c.loop-q.invariant.shown p before)
            | inr behind ↦
                let here : q ≡ p = omega arith in
                subst (λ (v : ℕ). AreRows n (tape_at history v) (damaged_at marks v)
                (rows_at (map check_rows_of items ++ made.rows ∷ []) v)) here
                (subst (AreRows n (tape_at history q) (damaged_at marks q))
                (sym (get_or_push (map check_rows_of items) made.rows [] q count)) rows)
          ]);
      heard = λ p h. ap (λ (xs : List (List ℕ)). present_at xs p) told ∙ elim (cases_lt p q) [
        | inl before ↦ get_or_append_left (map present_of items) (made.present ∷ []) [] p
            (omega arith) ∙ c.loop-q.invariant.heard p before
        | inr behind ↦
            let here : q ≡ p = omega arith in
            subst (λ (v : ℕ). present_at (map present_of items ++ made.present ∷ []) v
            ≡ reach_of n (tape_at history v)) here
            (get_or_push (map present_of items) made.present [] q counted ∙ present)
      ];
    }
