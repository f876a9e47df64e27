-- The processes that went on grow by one; the others have what they had.
use Rattle.std.proofs.Common.{◌≡◌, ℕ, ◌<◌, ◌≤◌, List, [], length, map, get_or, set, inl, inr, sym}
use Rattle.std.proofs.Common.{ap, ◌∙◌, subst, arith}
use Rattle.std.proofs.lemmas.Bool.{cases_eq, cases_lt}
use Rattle.std.proofs.lemmas.List.{length-set}
use Rattle.line_names.specs.declared.choices.Choice.{Choice}
use Rattle.line_names.specs.Lines.{choice_at}
use Rattle.line_tape.specs.declared.events.Event.{Event}
use Rattle.line_tape.specs.History.{Process, tape_at}
use Rattle.line_catalogue.specs.declared.kept_rows.Row.{Row}
use Rattle.line_catalogue.specs.Kept.{RowsView, rows_at, present_at}
use Rattle.line_catalogue.specs.Plain.{check_rows_of, present_of, rows_room}
use Rattle.line_catalogue.specs.Rows.{WithPlaces, rows_kept, vector_at}
use Rattle.line_catalogue.proofs.TableLemmas.{seen-old, seen-new, seen-other}
use Rattle.line_catalogue.proofs.tables.RowTable.restart.Goals as goal

pub loop-q-preserved : goal.loop-q-preserved
loop-q-preserved c =
    let history : List Process = c.args.history.now.processes in
    let line : List Choice = c.args.line.now in
    let first : List (List Row) = c.args.self.now.rows in
    let firsts : List (List ℕ) = c.args.self.now.presents in
    let items : List RowsView = c.loop-q.self-inside.table.items in
    let q : ℕ = c.loop-q.q in
    let old : RowsView = c.index_mut.result.now in
    let new : RowsView = c.restart.new.self in
    let is : old ≡ get_or items q old = c.index_mut.ensures.value in
    let at : c.unwrap-p.result ≡ q = (rw c.unwrap-p.ensures at c.try_new.ensures).1 in
    let within : q < length items = omega
    (arith, c.loop-q.invariant.count, c.n-n.ensures.value, c.requires.count) in
    let tape : c.tape.result.now.events
    ≡ tape_at history q = c.tape.ensures.events ∙ ap (tape_at history) at in
    let choice : c.at.result ≡ choice_at line q = c.at.ensures ∙ ap (choice_at line) at in
    let rows : old.rows ≡ rows_at first q = sym (seen-old check_rows_of [] items q old new within
    is) ∙ c.loop-q.invariant.rows_left q (omega arith) in
    let present : old.present ≡ present_at firsts q = sym (seen-old present_of [] items q old new
    within is) ∙ c.loop-q.invariant.presents_left q (omega arith) in
    let made : WithPlaces (tape_at history q)
    (rows_kept (choice_at line q) (rows_at first q)) new.rows =
    subst (λ (es : List Event). WithPlaces es
    (rows_kept (choice_at line q) (rows_at first q)) new.rows) tape
    (subst (λ (x : Choice). WithPlaces c.tape.result.now.events
    (rows_kept x (rows_at first q)) new.rows) choice
    (subst (λ (xs : List Row). WithPlaces c.tape.result.now.events
    (rows_kept c.at.result xs) new.rows) rows c.restart.ensures.rows))
    in
    let kept : new.present ≡ vector_at (rows_at first q) (present_at firsts q) (choice_at line q) =
    c.restart.ensures.present ∙ ap
    (λ (xs : List Row). vector_at xs old.present c.at.result) rows ∙ ap
    (λ (ys : List ℕ). vector_at (rows_at first q) ys c.at.result) present ∙ ap
    (vector_at (rows_at first q) (present_at firsts q)) choice
    in
    record {
      count = length-set items q new ∙ c.loop-q.invariant.count;
      gone = λ p h. elim (cases_lt p q) [
        | inl before ↦ subst
            (WithPlaces (tape_at history p) (rows_kept (choice_at line p) (rows_at first p)))
            (sym (seen-other check_rows_of [] items q old new within is p
            (λ e. absurd (omega arith)))) (c.loop-q.invariant.gone p before)
        | inr behind ↦
            let here : q ≡ p = omega arith in
            subst (λ (v : ℕ). WithPlaces (tape_at history v)
            (rows_kept (choice_at line v) (rows_at first v))
            (rows_at (map check_rows_of (set items q new)) v)) here
            (subst (WithPlaces (tape_at history q) (rows_kept (choice_at line q) (rows_at first
            q))) (sym (seen-new check_rows_of [] items q old new within is)) made)
      ];
      heard = λ p h. elim (cases_lt p q) [
        | inl before ↦ seen-other present_of [] items q old new within is p
            (λ e. absurd (omega arith)) ∙ c.loop-q.invariant.heard p before
        | inr behind ↦
            let here : q ≡ p = omega arith in
            subst (λ (v : ℕ). present_at (map present_of (set items q new)) v
            ≡ vector_at (rows_at first v) (present_at firsts v) (choice_at line v)) here
            (seen-new present_of [] items q old new within is ∙ kept)
      ];
      rows_left = λ p h. seen-other check_rows_of [] items q old new within is p
          (λ e. absurd (omega arith)) ∙ c.loop-q.invariant.rows_left p (omega arith);
      presents_left = λ p h. seen-other present_of [] items q old new within is p
          (λ e. absurd (omega arith)) ∙ c.loop-q.invariant.presents_left p (omega arith);
      rooms = λ p. elim (cases_eq p q) [
        | inl here ↦ subst
            (λ (v : ℕ). get_or c.args.self.now.rooms v 0 ≤ get_or
            (map rows_room (set items q new)) v 0) (sym here)
            (omega (
              arith,
              c.loop-q.invariant.rooms q,
              seen-old rows_room 0 items q old new within
                  is,
              seen-new rows_room 0 items q old new within is,
              c.restart.ensures.room,
            ))
        | inr apart ↦ omega (
          arith,
          c.loop-q.invariant.rooms p,
          seen-other rows_room 0 items q old
              new within is p apart,
        )
      ];
    }
