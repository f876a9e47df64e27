-- What a catalogue keeps, as its history grows and as its checks are marked.
use Rattle.std.proofs.Common.{◌≡◌, ℕ, zero, suc, ◌+◌, ◌<◌, ◌≤◌, List, [], ◌∷◌, ◌++◌, length, get_or}
use Rattle.std.proofs.Common.{set, min, inl, inr, refl, sym, ap, ◌∙◌, subst, arith}
use Rattle.std.specs.List.{All}
use Rattle.std.specs.Prelude.{replicate, IfSome, Option, None, Some}
use Rattle.std.proofs.lemmas.Bool.{cases_eq, cases_lt}
use Rattle.std.proofs.lemmas.List.{length-set, length-replicate, get_or-set_same, get_or-set_other}
use Rattle.std.proofs.lemmas.List.{get_or-replicate, get_or_past, set_past}
use Rattle.std.proofs.lemmas.List.Elements.{All-nil, All-push, All-weaker}
use Rattle.line_tape.specs.declared.events.Event.{Event}
use Rattle.line_tape.specs.Event.{checks, sends, NamesBelow}
use Rattle.line_tape.specs.History.{Process, tape_at, with_event}
use Rattle.line_tape.specs.Views.{MarksView, no_marks, with_bar, with_mark, bar_at, damaged_at}
use Rattle.line_tape.proofs.RowLemmas.{checks-push}
use Rattle.line_catalogue.specs.declared.kept_rows.Row.{Row}
use Rattle.line_catalogue.specs.Agreement.{AgreesNext}
use Rattle.line_catalogue.specs.Damage.{AreOnChecks}
use Rattle.line_catalogue.specs.Kept.{rows_at, present_at, IsCatalogue}
use Rattle.line_catalogue.specs.Rows.{AreRows, vector_after_event, row_added, with_row, with_damage}
use Rattle.line_catalogue.specs.Views.{lesser_rooms}
use Rattle.line_catalogue.proofs.AgreementLemmas.{tape-here, tape-other}
use Rattle.line_catalogue.proofs.CheckLemmas.{AreRows-damage, AreRows-added, heard-added}
use Rattle.line_vectors.specs.Reach.{reach_of}
use Rattle.line_vectors.proofs.ReachLemmas.{length-reach}

-- the lesser room at a process
pub lesser_at : (rooms others : List ℕ) (p : ℕ)
    → get_or (lesser_rooms rooms others) p 0 ≡ min (get_or rooms p 0) (get_or others p 0)
lesser_at [] others p = omega arith
lesser_at (room ∷ rooms) [] p = omega arith
lesser_at (room ∷ rooms) (other ∷ others) zero = refl
lesser_at (room ∷ rooms) (other ∷ others) (suc p) = lesser_at rooms others p

-- the histories' tapes have no fewer checks with one event more
checks-more : (tape : List Event) (event : Event) → checks tape ≤ checks (tape ++ event ∷ [])
checks-more tape event = omega (arith, checks-push tape event)

-- a bar up to a check is up to each later one
bar-weaker : (bar : Option ℕ) (k n : ℕ) → k ≤ n → IfSome bar (λ check. check ≤ k)
    → IfSome bar (λ check. check ≤ n)
bar-weaker None k n h on = tt
bar-weaker (Some check) k n h on = omega arith

-- marks and bars stay on checks when an event is added
pub AreOnChecks-event : (history : List Process) (marks : MarksView) (p : ℕ) (event : Event) → p <
    length history → AreOnChecks history marks → AreOnChecks (with_event history p event) marks
AreOnChecks-event history marks p event within on = record {
  each = λ q. elim (cases_eq q p) [
    | inl here ↦ All-weaker (λ check. check ≤ checks (tape_at history q))
        (λ check. check ≤ checks (tape_at (with_event history p event) q))
        (λ check h. omega (
          arith,
          checks-more (tape_at history q) event,
          ap checks
              (tape-here history p event within q here),
        )) (damaged_at marks q) (on.each q)
    | inr apart ↦ subst (λ (tape : List Event). All (λ check. check ≤ checks tape)
        (damaged_at marks q)) (sym (tape-other history p event within q apart)) (on.each q)
  ];
  bars = λ q. elim (cases_eq q p) [
    | inl here ↦ bar-weaker (bar_at marks q) (checks (tape_at history q))
        (checks (tape_at (with_event history p event) q)) (omega (
          arith,
          checks-more
              (tape_at history q) event,
          ap checks (tape-here history p event within q here),
        )) (on.bars q)
    | inr apart ↦ subst (λ (tape : List Event). IfSome (bar_at marks q) (λ check. check ≤ checks
        tape)) (sym (tape-other history p event within q apart)) (on.bars q)
  ];
}

-- and when a check is marked
pub AreOnChecks-mark : (history : List Process) (marks : MarksView) (p c : ℕ)
    → p < length marks.damaged → c ≤ checks (tape_at history p) → AreOnChecks history marks
    → AreOnChecks history (with_mark marks p c)
AreOnChecks-mark history marks p c within there on = record {
  each = λ q. elim (cases_eq q p) [
    | inl here ↦ subst (λ (v : ℕ). All (λ check. check ≤ checks (tape_at history v))
        (damaged_at (with_mark marks p c) v)) (sym here)
        (subst (All (λ check. check ≤ checks (tape_at history p)))
        (sym (get_or-set_same marks.damaged p (damaged_at marks p ++ c ∷ []) [] within))
        (All-push (λ check. check ≤ checks (tape_at history p)) (damaged_at marks p) c
        (on.each p) there))
    | inr apart ↦ subst (All (λ check. check ≤ checks (tape_at history q))) (sym
        (get_or-set_other marks.damaged p q (damaged_at marks p ++ c ∷ []) [] apart)) (on.each q)
  ];
  bars = on.bars;
}

-- and when a process is barred
pub AreOnChecks-bar : (history : List Process) (marks : MarksView) (p c : ℕ) → c ≤ checks
    (tape_at history p) → AreOnChecks history marks → AreOnChecks history (with_bar marks p c)
AreOnChecks-bar history marks p c there on = record {
  each = on.each;
  bars = λ q. elim (cases_eq q p) [
    | inl here ↦ elim (cases_lt p (length marks.bars)) [
      | inl within ↦ subst (λ (v : ℕ). IfSome (bar_at (with_bar marks p c) v)
          (λ check. check ≤ checks (tape_at history v))) (sym here)
          (subst (λ (bar : Option ℕ). IfSome bar (λ check. check ≤ checks (tape_at history p)))
          (sym (get_or-set_same marks.bars p (Some c) None within)) there)
      | inr past ↦ subst (λ (bars : List (Option ℕ)). IfSome (get_or bars q None) (λ check. check ≤
          checks (tape_at history q))) (sym (set_past marks.bars p (Some c) past)) (on.bars q)
    ]
    | inr apart ↦ subst (λ (bar : Option ℕ). IfSome bar (λ check. check ≤ checks (tape_at history
        q))) (sym (get_or-set_other marks.bars p q (Some c) None apart)) (on.bars q)
  ];
}

-- where no process is barred, no bar is on a check that there isn't
pub no-bars : (history : List Process) (bars : List (Option ℕ)) (n : ℕ) → bars ≡ replicate n None
    → (p : ℕ) → IfSome (get_or bars p None) (λ check. check ≤ checks (tape_at history p))
no-bars history bars n none p =
    let empty : get_or bars p None
    ≡ None = ap (λ (xs : List (Option ℕ)). get_or xs p None) none ∙ elim (cases_lt p n) [
      | inl within ↦ get_or-replicate n p None None within
      | inr past ↦ get_or_past (replicate n None) p None
          (omega (arith, length-replicate {A = Option ℕ} n None))
    ] in
    subst (λ (bar : Option ℕ). IfSome bar (λ check. check ≤ checks (tape_at history p)))
    (sym empty) tt

-- no marks are on checks of whatever history
pub AreOnChecks-none : (history : List Process) (marks : MarksView) (n : ℕ) → marks ≡ no_marks n
    → AreOnChecks history marks
AreOnChecks-none history marks n is =
    let none : marks.damaged ≡ replicate n [] = ap (λ (m : MarksView). m.damaged) is in record {
      bars = no-bars history marks.bars n (ap (λ (m : MarksView). m.bars) is);
      each = λ q.
          let empty : damaged_at marks q
          ≡ [] = ap (λ (xs : List (List ℕ)). get_or xs q []) none ∙ elim (cases_lt q n) [
            | inl within ↦ get_or-replicate n q [] [] within
            | inr past ↦ get_or_past (replicate n []) q []
                (omega (arith, length-replicate {A = List ℕ} n []))
          ] in
          subst (All (λ check. check ≤ checks (tape_at history q))) (sym empty)
          (All-nil (λ check. check ≤ checks (tape_at history q)));
    }

-- it is enough to look at the processes that there are
pub AreOnChecks-below : (history : List Process) (marks : MarksView)
    → length marks.damaged ≡ length history
    → ((q : ℕ) → IfSome (bar_at marks q) (λ check. check ≤ checks (tape_at history q)))
    → ((q : ℕ) → q < length history → All (λ check. check ≤ checks (tape_at history q))
    (damaged_at marks q)) → AreOnChecks history marks
AreOnChecks-below history marks count barred below = record {
  bars = barred;
  each = λ q. elim (cases_lt q (length history)) [
    | inl within ↦ below q within
    | inr past ↦ subst (All (λ check. check ≤ checks (tape_at history q))) (sym (get_or_past
        marks.damaged q [] (omega arith))) (All-nil (λ check. check ≤ checks (tape_at history q)))
  ];
}

-- the vector of where a process stands has a lane for each
pub length-present : (history : List Process) (marks : MarksView) (rows : List (List Row))
    (presents : List (List ℕ)) (p : ℕ) → p < length history
    → IsCatalogue history marks rows presents → length (present_at presents p) ≡ length history
length-present history marks rows presents p within is = ap (λ (xs : List ℕ). length xs)
    (is.heard p within) ∙ length-reach (length history) (tape_at history p)

module _ (history : List Process) (marks : MarksView) (rows : List (List Row))
    (presents : List (List ℕ)) (p : ℕ) (within : p < length history) where
  -- an event that agrees, the row that it adds, and what it lets the process hear
  pub IsCatalogue-event : (event : Event) (place sent : ℕ) → place ≡ length (tape_at history p) + 1
      → sent ≡ sends (tape_at history p) → NamesBelow (length history) event
      → AgreesNext history p event → IsCatalogue history marks rows presents
      → IsCatalogue (with_event history p event) marks
      (set rows p (with_row (rows_at rows p) (row_added place sent (present_at presents p)
      event))) (set presents p (vector_after_event (present_at presents p) event))
  IsCatalogue-event event place sent place_is sent_is named next is =
      let n : ℕ = length history in
      let grown : List Process = with_event history p event in
      let same : length grown ≡ n = length-set history p _ in
      let tape : List Event = tape_at history p in
      let there : List Row = with_row (rows_at rows p)
      (row_added place sent (present_at presents p) event) in
      let further : List ℕ = vector_after_event (present_at presents p) event in
      let new : AreRows n (tape ++ event ∷ []) (damaged_at marks p) there =
      subst (λ k. AreRows n (tape ++ event ∷ []) (damaged_at marks p) (with_row (rows_at rows p)
      (row_added k sent (present_at presents p) event))) (sym place_is)
      (subst (λ k. AreRows n (tape ++ event ∷ []) (damaged_at marks p) (with_row (rows_at rows p)
      (row_added (length tape + 1) k (present_at presents p) event))) (sym sent_is)
      (AreRows-added n tape event (damaged_at marks p) (rows_at rows p) (present_at presents p)
      (is.marked.each p) (is.heard p within) (is.shown p within)))
      in
      record {
        agrees = next.agrees;
        marked = AreOnChecks-event history marks p event within is.marked;
        marks_count = is.marks_count ∙ sym same;
        rows_count = length-set rows p there ∙ is.rows_count ∙ sym same;
        presents_count = length-set presents p further ∙ is.presents_count ∙ sym same;
        shown = λ q h. subst (λ k. AreRows k (tape_at grown q) (damaged_at marks q)
            (rows_at (set rows p there) q)) (sym same) (elim (cases_eq q p) [
              | inl here ↦
                  let read : rows_at (set rows p there) p
                  ≡ there = get_or-set_same rows p there [] (omega (arith, is.rows_count)) in
                  subst (λ (v : ℕ). AreRows n (tape_at grown v) (damaged_at marks v)
                  (rows_at (set rows p there) v)) (sym here)
                  (subst (λ (es : List Event). AreRows n es (damaged_at marks p)
                  (rows_at (set rows p there) p)) (sym (tape-here history p event within p refl))
                  (subst (AreRows n (tape ++ event ∷ []) (damaged_at marks p)) (sym read) new))
              | inr apart ↦
                  subst (λ (es : List Event). AreRows n es (damaged_at marks q)
                  (rows_at (set rows p there) q)) (sym (tape-other history p event within q apart))
                  (subst (AreRows n (tape_at history q) (damaged_at marks q))
                  (sym (get_or-set_other rows p q there [] apart)) (is.shown q (omega arith)))
            ]);
        heard = λ q h. elim (cases_eq q p) [
          | inl here ↦
              ap (present_at (set presents p further)) here ∙ get_or-set_same presents p further []
              (omega (arith, is.presents_count)) ∙ heard-added n tape event
              (present_at presents p) named (is.heard p within)
              ∙ ap (reach_of n)
              (sym (tape-here history p event within q here ∙ ap (λ k. tape_at history k
              ++ event ∷ []) here)) ∙ ap (λ k. reach_of k (tape_at grown q)) (sym same)
          | inr apart ↦
              get_or-set_other presents p q further [] apart ∙ is.heard q (omega arith) ∙ ap
              (reach_of n) (sym (tape-other history p event within q apart)) ∙ ap
              (λ k. reach_of k (tape_at grown q)) (sym same)
        ];
      }

  -- a bar
  pub IsCatalogue-bar : (c : ℕ) → c ≤ checks (tape_at history p) → IsCatalogue history marks rows
      presents → IsCatalogue history (with_bar marks p c) rows presents
  IsCatalogue-bar c there is = record {
    agrees = is.agrees;
    marked = AreOnChecks-bar history marks p c there is.marked;
    marks_count = is.marks_count;
    rows_count = is.rows_count;
    presents_count = is.presents_count;
    shown = is.shown;
    heard = is.heard;
  }

  -- a mark, and the row that it changes
  pub IsCatalogue-mark : (c : ℕ) → c ≤ checks (tape_at history p)
      → IsCatalogue history marks rows presents → IsCatalogue history (with_mark marks p c)
      (set rows p (with_damage (rows_at rows p) c)) presents
  IsCatalogue-mark c there is =
      let n : ℕ = length history in
      record {
        agrees = is.agrees;
        marked = AreOnChecks-mark history marks p c (omega (arith, is.marks_count)) there is.marked;
        marks_count = length-set marks.damaged p (damaged_at marks p ++ c ∷ []) ∙ is.marks_count;
        rows_count = length-set rows p (with_damage (rows_at rows p) c) ∙ is.rows_count;
        presents_count = is.presents_count;
        heard = is.heard;
        shown = λ q h. elim (cases_eq q p) [
          | inl here ↦
              let read : rows_at (set rows p (with_damage (rows_at rows p) c)) p
              ≡ with_damage (rows_at rows p) c = get_or-set_same rows p
              (with_damage (rows_at rows p) c) [] (omega (arith, is.rows_count)) in
              let marked : damaged_at (with_mark marks p c) p
              ≡ damaged_at marks p ++ c ∷ [] = get_or-set_same marks.damaged p
              (damaged_at marks p ++ c ∷ []) [] (omega (arith, is.marks_count)) in
              let new : AreRows n (tape_at history p) (damaged_at marks p ++ c ∷ [])
              (with_damage (rows_at rows p) c) = AreRows-damage n (tape_at history p)
              (damaged_at marks p) (rows_at rows p) c there (is.shown p within) in
              subst (λ (v : ℕ). AreRows n (tape_at history v) (damaged_at (with_mark marks p c) v)
              (rows_at (set rows p (with_damage (rows_at rows p) c)) v)) (sym here)
              (subst (λ (xs : List ℕ). AreRows n (tape_at history p) xs
              (rows_at (set rows p (with_damage (rows_at rows p) c)) p)) (sym marked)
              (subst (AreRows n (tape_at history p) (damaged_at marks p ++ c ∷ [])) (sym read) new))
          | inr apart ↦
              subst (λ (xs : List ℕ). AreRows n (tape_at history q) xs
              (rows_at (set rows p (with_damage (rows_at rows p) c)) q))
              (sym (get_or-set_other marks.damaged p q (damaged_at marks p ++ c ∷ []) [] apart))
              (subst (AreRows n (tape_at history q) (damaged_at marks q)) (sym (get_or-set_other
              rows p q (with_damage (rows_at rows p) c) [] apart)) (is.shown q h))
        ];
      }
