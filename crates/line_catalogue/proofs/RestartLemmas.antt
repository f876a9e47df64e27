-- A catalogue whose processes went on from their choices of a consistent line.
use Rattle.std.proofs.Common.{◌≡◌, ℕ, ◌+◌, ◌<◌, ◌≤◌, Bool, true, false, cond, List, [], ◌∷◌, length}
use Rattle.std.proofs.Common.{get_or, filter, inl, inr, Some, refl, sym, ap, ◌∙◌, subst, arith}
use Rattle.std.specs.List.{All, AllByRecursion, Contains, filter_map, slice_get}
use Rattle.std.proofs.lemmas.Bool.{cases_lt, leb-true}
use Rattle.std.proofs.lemmas.List.{take_all}
use Rattle.std.proofs.lemmas.List.Elements.{All-filter, All-weaker, All-contains_itself}
use Rattle.std.proofs.lemmas.List.Elements.{All-from_recursion}
use Rattle.line_names.specs.declared.choices.Choice.{Choice}
use Rattle.line_names.specs.declared.choices.Choice.TheVariants.{Check as AtCheck, Now}
use Rattle.line_names.specs.Lines.{choice_at}
use Rattle.line_tape.specs.declared.events.Event.{Event}
use Rattle.line_tape.specs.declared.events.Event.TheVariants.{Send, Recv, Check, Mark}
use Rattle.line_tape.specs.Event.{checks, incarnations_sent}
use Rattle.line_tape.specs.Front.{front, HasChoice}
use Rattle.line_tape.specs.History.{Process, fresh, tape_at}
use Rattle.line_tape.specs.Line.{events_before, IsLine, IsConsistent, IsSentBefore}
use Rattle.line_tape.specs.Restart.{restarted_history, restarted_event, restarted_process}
use Rattle.line_tape.specs.Restart.{restarted_marks, is_kept}
use Rattle.line_tape.specs.Views.{MarksView, damaged_at}
use Rattle.line_tape.proofs.CutLemmas.{checks_left, received_left, sent_left}
use Rattle.line_tape.proofs.EachLemmas.{each_at, length-each, restarted-each, damage-each}
use Rattle.line_tape.proofs.EachLemmas.{kept_damage}
use Rattle.line_tape.proofs.LineLemmas.{front-empty, tape_at-past}
use Rattle.line_catalogue.specs.declared.kept_rows.Row.{Row}
use Rattle.line_catalogue.specs.Agreement.{EventAgrees, Agrees}
use Rattle.line_catalogue.specs.Damage.{AreOnChecks}
use Rattle.line_catalogue.specs.Kept.{rows_at, present_at, IsCatalogue}
use Rattle.line_catalogue.specs.Rows.{AreInStep, AreRows, WithPlaces, rows_kept, vector_at}
use Rattle.line_catalogue.proofs.CheckLemmas.{AreInStep-left, AreRows-left, length-kept}
use Rattle.line_catalogue.proofs.CheckLemmas.{vector-left}
use Rattle.line_vectors.specs.Reach.{reach_of}
use Rattle.line_catalogue.proofs.AgreementLemmas.{Agrees-below}
use Rattle.line_catalogue.proofs.CatalogueLemmas.{AreOnChecks-below, no-bars}
use Rattle.line_tape.proofs.RowLemmas.{checks_front}

-- a check that is kept is one of the front
kept_within : (tape : List Event) (choice : Choice) (c : ℕ) → HasChoice tape choice
    → c ≤ checks tape → is_kept choice c ≡ true → c ≤ checks (front tape choice)
kept_within tape (AtCheck k) c has within kept =
    omega (arith, leb-true c k kept, checks_front tape k has)
kept_within tape Now c has within kept =
    omega (arith, ap checks (take_all (length tape) tape (omega arith)))

-- what is filtered passes
passes-at : (p : ℕ → Bool) (b : Bool) (x : ℕ) (ys : List ℕ) → p x ≡ b
    → AllByRecursion (λ c. p c ≡ true) ys → AllByRecursion (λ c. p c ≡ true) (cond b (x ∷ ys) ys)
passes-at p true x ys e h = (e, h)
passes-at p false x ys e h = h

passes : (p : ℕ → Bool) (xs : List ℕ) → AllByRecursion (λ c. p c ≡ true) (filter p xs)
passes p [] = tt
passes p (x ∷ xs) = passes-at p (p x) x (filter p xs) refl (passes p xs)

module _ (history : List Process) (line : List Choice) (is_line : IsLine history line) where
  enough : length history ≤ length line
  enough = omega (arith, is_line.length_is)

  -- as many processes as there were
  pub length-restarted : length (restarted_history history line) ≡ length history
  length-restarted = ap (λ (xs : List Process). length xs)
      (restarted-each history line) ∙ length-each restarted_process history line enough

  -- what is left of a tape
  pub tape-restarted : (p : ℕ) → p < length history → tape_at (restarted_history history line) p
      ≡ filter_map restarted_event (events_before history line p)
  tape-restarted p within =
      ap (λ (xs : List Process). tape_at xs p) (restarted-each history line) ∙ ap
      (λ (process : Process). process.tape)
      (each_at restarted_process history line p fresh fresh (AtCheck 0) within enough)

  -- nothing past the processes
  past-empty : (p : ℕ) → length history ≤ p → events_before history line p ≡ []
  past-empty p past = ap (λ (tape : List Event). front tape (choice_at line p))
      (tape_at-past history p past) ∙ front-empty (choice_at line p)

  -- what was sent before the line is sent still
  sent-restarted : (p : ℕ) → incarnations_sent (tape_at (restarted_history history line) p)
      ≡ incarnations_sent (events_before history line p)
  sent-restarted p = elim (cases_lt p (length history)) [
    | inl within ↦ ap incarnations_sent (tape-restarted p within) ∙ sent_left
        (events_before history line p)
    | inr past ↦ ap incarnations_sent (tape_at-past (restarted_history history line) p
        (omega (arith, length-restarted)) ∙ sym (past-empty p past))
  ]

  -- what is left agrees
  EventAgrees-left : IsConsistent history line → (q : ℕ) (event : Event)
      → Contains (filter_map restarted_event (events_before history line q)) event
      → EventAgrees (restarted_history history line) event
  EventAgrees-left consistent q (Send to inc body) among = tt
  EventAgrees-left consistent q (Recv message) among =
      let sent : IsSentBefore history line message = consistent q message
      (received_left (events_before history line q) message among) in
      inl (subst (λ (xs : List ℕ). slice_get xs message.number ≡ Some message.inc)
      (sym (sent-restarted message.from)) sent)
  EventAgrees-left consistent q (Check state round) among = tt
  EventAgrees-left consistent q (Mark from round) among = tt

  -- the history goes on to agree
  pub Agrees-restarted : IsConsistent history line → Agrees (restarted_history history line)
  Agrees-restarted consistent = Agrees-below (restarted_history history line) (λ q h.
      let left : List Event = filter_map restarted_event (events_before history line q) in
      let within : q < length history = omega (arith, length-restarted) in
      subst (All (EventAgrees (restarted_history history line))) (sym (tape-restarted q within))
      (All-weaker (Contains left) (EventAgrees (restarted_history history line))
      (EventAgrees-left consistent q) left (All-contains_itself left)))

  -- the checks of what is left
  checks-restarted : (p : ℕ) → p < length history
      → checks (tape_at (restarted_history history line) p) ≡ checks (events_before history line p)
  checks-restarted p within =
      ap checks (tape-restarted p within) ∙ checks_left (events_before history line p)

  module _ (marks : MarksView) (count : length marks.damaged ≡ length history) where
    -- as many processes as there were
    pub length-marks : length (restarted_marks marks line).damaged ≡ length history
    length-marks = ap (λ (xs : List (List ℕ)). length xs) (damage-each marks.damaged line) ∙
        length-each kept_damage marks.damaged line (omega (arith, enough)) ∙ count

    -- the marks that are left
    pub marks-restarted : (p : ℕ) → p < length history → damaged_at (restarted_marks marks line) p
        ≡ filter (is_kept (choice_at line p)) (damaged_at marks p)
    marks-restarted p within =
        ap (λ (xs : List (List ℕ)). get_or xs p []) (damage-each marks.damaged line) ∙ each_at
        kept_damage marks.damaged line p [] [] (AtCheck 0) (omega arith) (omega (arith, enough))

    -- they are on checks that are left
    pub AreOnChecks-restarted : AreOnChecks history marks
        → AreOnChecks (restarted_history history line) (restarted_marks marks line)
    AreOnChecks-restarted on = AreOnChecks-below (restarted_history history line)
        (restarted_marks marks line) (length-marks ∙ sym length-restarted)
        (no-bars (restarted_history history line) (restarted_marks marks line).bars
        (length marks.bars) refl) (λ p h.
        let within : p < length history = omega (arith, length-restarted) in
        let choice : Choice = choice_at line p in
        let kept : List ℕ = filter (is_kept choice) (damaged_at marks p) in
        let there : All (λ check. check ≤ checks (tape_at history p)) kept = All-filter
        (is_kept choice) (λ check. check ≤ checks (tape_at history p)) (damaged_at marks p)
        (on.each p) in
        let pass : All (λ check. is_kept choice check ≡ true) kept = All-from_recursion (λ check.
        is_kept choice check ≡ true) kept (passes (is_kept choice) (damaged_at marks p)) in
        let left : All
        (λ check. check ≤ checks (tape_at (restarted_history history line) p)) kept = λ k d l.
        omega (
          arith,
          checks-restarted p within,
          kept_within (tape_at history p) choice
              (get_or kept k d) (is_line.exist p) (there k d l) (pass k d l),
        ) in
        subst (All (λ check. check ≤ checks (tape_at (restarted_history history line) p)))
        (sym (marks-restarted p within)) left)

module _ (history : List Process) (marks : MarksView) (rows : List (List Row))
    (presents : List (List ℕ)) (line : List Choice) (is : IsCatalogue history marks rows presents)
    (is_line : IsLine history line) where
  -- there is a row of each choice
  pub there-restarted : (p c : ℕ) → p < length history → choice_at line p ≡ AtCheck c
      → c < length (rows_at rows p)
  there-restarted p c within at =
      let has : c ≤ checks (tape_at history p) = subst (HasChoice (tape_at history p)) at
      (is_line.exist p) in
      omega (arith, has, (is.shown p within).count)

  -- and one of each check that is left
  pub left-restarted : (p : ℕ) → p < length history → length (rows_kept (choice_at line p)
      (rows_at rows p)) ≡ checks (tape_at (restarted_history history line) p) + 1
  left-restarted p within =
      length-kept (length history) (tape_at history p) (damaged_at marks p) (choice_at line p)
      (rows_at rows p) (is_line.exist p) (is.shown p within) ∙ ap (λ
      (tape : List Event). checks tape + 1) (sym (tape-restarted history line is_line p within))

  -- where one of them stands as it did, so does each one before it
  pub step-restarted : (p : ℕ) → p < length history → AreInStep
      (tape_at (restarted_history history line) p) (rows_kept (choice_at line p) (rows_at rows p))
  step-restarted p within =
      subst (λ (tape : List Event). AreInStep tape (rows_kept (choice_at line p) (rows_at rows p)))
      (sym (tape-restarted history line is_line p within))
      (AreInStep-left (length history) (tape_at history p) (damaged_at marks p) (choice_at line p)
      (rows_at rows p) (is_line.exist p) (is.shown p within))

  -- with the rows of what is left the catalogue is one again
  pub IsCatalogue-restarted : (new : List (List Row)) (presents' : List (List ℕ))
      → IsConsistent history line → length new ≡ length history → length presents' ≡ length history
      → ((p : ℕ) → p < length history → WithPlaces (tape_at (restarted_history history line) p)
      (rows_kept (choice_at line p) (rows_at rows p)) (rows_at new p))
      → ((p : ℕ) → p < length history → present_at presents' p
      ≡ vector_at (rows_at rows p) (present_at presents p) (choice_at line p))
      → IsCatalogue (restarted_history history line) (restarted_marks marks line) new presents'
  IsCatalogue-restarted new presents' consistent count presents_count placed kept =
      let n : ℕ = length history in
      let same : length (restarted_history history line)
      ≡ n = length-restarted history line is_line in
      record {
        agrees = Agrees-restarted history line is_line consistent;
        marked = AreOnChecks-restarted history line is_line marks is.marks_count is.marked;
        marks_count = length-marks history line is_line marks is.marks_count ∙ sym same;
        rows_count = count ∙ sym same;
        presents_count = presents_count ∙ sym same;
        shown = λ p h.
            let within : p < n = omega (arith, same) in
            let tape : List Event = tape_at history p in
            let choice : Choice = choice_at line p in
            let left : List Event = filter_map restarted_event (front tape choice) in
            let is_left : tape_at (restarted_history history line) p
            ≡ left = tape-restarted history line is_line p within in
            let on : WithPlaces left (rows_kept choice (rows_at rows p)) (rows_at new p) = subst
            (λ (es : List Event). WithPlaces es (rows_kept choice (rows_at rows p))
            (rows_at new p)) is_left (placed p within) in
            let made : AreRows n left (filter (is_kept choice) (damaged_at marks p))
            (rows_at new p) = AreRows-left n tape (damaged_at marks p) choice (rows_at rows p)
            (rows_at new p) (is_line.exist p) (is.shown p within) on in
            subst (λ k. AreRows k (tape_at (restarted_history history line) p)
            (damaged_at (restarted_marks marks line) p) (rows_at new p)) (sym same)
            (subst (λ (es : List Event). AreRows n es (damaged_at (restarted_marks marks line) p)
            (rows_at new p)) (sym is_left)
            (subst (λ (xs : List ℕ). AreRows n left xs (rows_at new p))
            (sym (marks-restarted history line is_line marks is.marks_count p within)) made));
        heard = λ p h.
            let within : p < n = omega (arith, same) in
            let tape : List Event = tape_at history p in
            kept p within ∙ vector-left n tape (damaged_at marks p) (choice_at line p) (rows_at rows
            p) (present_at presents p) (is_line.exist p) (is.shown p within) (is.heard p within)
            ∙ ap (reach_of n) (sym (tape-restarted history line is_line p within)) ∙ ap
            (λ k. reach_of k (tape_at (restarted_history history line) p)) (sym same);
      }
