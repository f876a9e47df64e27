-- A snapshot stays one by events and by restarts that keep its checks, and the latest line is
-- nowhere before it.
use Rattle.std.proofs.Common.{◌≡◌, ℕ, zero, suc, ◌+◌, ◌<◌, ◌≤◌, Bool, true, false, cond, not, List}
use Rattle.std.proofs.Common.{[], ◌∷◌, ◌++◌, length, take, map, get_or, refl, sym, ap, ◌∙◌, subst}
use Rattle.std.proofs.Common.{arith, inl, inr}
use Rattle.std.specs.Prelude.{◌==◌, IsTrue}
use Rattle.std.specs.List.{filter, slice_get, Contains}
use Rattle.std.proofs.lemmas.Bool.{leb-true, cases_lt}
use Rattle.std.proofs.lemmas.List.{take-append-le, take_all, get_or_past, length-map, length-set}
use Rattle.std.proofs.lemmas.List.Elements.{filter_agree}
use Rattle.line_names.specs.declared.choices.Choice.{Choice}
use Rattle.line_names.specs.declared.choices.Choice.TheVariants.{Check as AtCheck, Now}
use Rattle.line_names.specs.declared.messages.MsgName.{MsgName}
use Rattle.line_names.specs.Lines.{choice_at, IsNowhereLater}
use Rattle.line_tape.specs.declared.events.Event.{Event}
use Rattle.line_tape.specs.declared.events.Event.TheVariants.{Recv}
use Rattle.line_tape.specs.Event.{is_check, checks, incarnations_sent, Holds}
use Rattle.line_tape.specs.Front.{check_place, front, HasChoice}
use Rattle.line_tape.specs.History.{Process, tape_at, with_event}
use Rattle.line_tape.specs.Line.{events_before, IsLine, IsConsistent}
use Rattle.line_tape.specs.Restart.{is_kept, restarted_history}
use Rattle.line_tape.specs.Rounds.{check_line, IsSnapshot}
use Rattle.line_tape.specs.Survival.{survives, IsLatest}
use Rattle.line_tape.specs.Transit.{Letter, letters, is_open_letter, has_received, open_letters}
use Rattle.line_tape.specs.Transit.{in_transit_between}
use Rattle.line_tape.specs.Views.{MarksView}
use Rattle.line_tape.proofs.FrontLemmas.{check_place-le}
use Rattle.line_tape.proofs.StayLemmas.{tape_restarted, length_restarted}
use Rattle.line_laws.proofs.RoundLines.{checks-append}
use Rattle.line_tape.proofs.EventLemmas.{tape_grows}
use Rattle.line_laws.proofs.KeptLemmas.{choice_of_checks, kept_front, kept_transit}
use Rattle.line_tape.proofs.CutLemmas.{checks_left, received_left, sent_left}
use Rattle.line_tape.proofs.RowLemmas.{check_place-append}

module _ (old new : List Process) (line : List Choice)
    (same : (p : ℕ) → events_before new line p ≡ events_before old line p) where
  -- where the same stands before a line, the same is in transit there
  pub transit_same : (p q : ℕ) → in_transit_between new line p q ≡ in_transit_between old line p q
  transit_same p q =
      let opened : (letter : Letter)
      → is_open_letter new line letter ≡ is_open_letter old line letter = λ letter. ap
      (λ (es : List Event). not (has_received es letter.message)) (same letter.to) in
      let letters_same : open_letters new line p ≡ open_letters old line p =
      ap (λ (es : List Event). filter (is_open_letter new line) (letters p 0 es))
      (same p) ∙ filter_agree (is_open_letter new line) (is_open_letter old line) opened
      (letters p 0 (events_before old line p)) in
      ap (λ (v : List Letter). map (λ (letter : Letter). letter.message)
      (filter (λ (letter : Letter). letter.to == q) v)) letters_same

  -- and the line is as consistent as before
  pub consistent_same : IsConsistent old line → IsConsistent new line
  consistent_same consistent q m seen =
      subst (λ (es : List Event). Holds es m.inc m.number) (sym (same m.from))
      (consistent q m (subst (λ (es : List Event). Contains es (Recv m)) (same q) seen))

-- further events change no front of a check that there is
pub front_more : (tape more : List Event) (c : ℕ) → c ≤ checks tape
    → front (tape ++ more) (AtCheck c) ≡ front tape (AtCheck c)
front_more tape more c h = ap (λ n. take n (tape ++ more)) (check_place-append tape more c h) ∙
    take-append-le (check_place tape c) tape more (check_place-le tape c)

-- a check of the line is on its tape
pub check_there : (history : List Process) (indices : List ℕ) → IsLine history (check_line indices)
    → (p : ℕ) → get_or indices p 0 ≤ checks (tape_at history p)
check_there history indices is p =
    subst (HasChoice (tape_at history p)) (choice_of_checks indices p) (is.exist p)

module _ (history : List Process) (at : ℕ) (e : Event) (h : at < length history) (indices : List ℕ)
    (is : IsLine history (check_line indices)) where
  pub event_fronts : (p : ℕ) → events_before (with_event history at e) (check_line indices) p
      ≡ events_before history (check_line indices) p
  event_fronts p =
      let c : ℕ = get_or indices p 0 in
      let grows = tape_grows history at e p h in
      ap (front (tape_at (with_event history at e) p)) (choice_of_checks indices p)
      ∙ ap (λ (es : List Event). front es (AtCheck c)) grows.1
      ∙ front_more (tape_at history p) grows.0 c (check_there history indices is p)
      ∙ ap (front (tape_at history p)) (sym (choice_of_checks indices p))

  pub event_line : IsLine (with_event history at e) (check_line indices)
  event_line = record {
    length_is = is.length_is ∙ sym (length-set history at _);
    exist = λ p.
        let grows = tape_grows history at e p h in
        let count : checks (tape_at (with_event history at e) p) ≡ checks (tape_at history p) +
        checks grows.0 = ap checks grows.1 ∙ checks-append (tape_at history p) grows.0 in
        subst (HasChoice (tape_at (with_event history at e) p)) (sym (choice_of_checks indices p))
        (omega (arith, count, check_there history indices is p));
  }

-- what is in transit there is the same after an event
pub event_transit : (history : List Process) (at : ℕ) (e : Event) (indices : List ℕ)
    → at < length history → IsLine history (check_line indices) → (p q : ℕ)
    → in_transit_between (with_event history at e) (check_line indices) p q
    ≡ in_transit_between history (check_line indices) p q
event_transit history at e indices h is = transit_same history (with_event history at e)
    (check_line indices) (event_fronts history at e h indices is)

-- a snapshot stays one by an event
pub snapshot_event : (history : List Process) (at : ℕ) (e : Event) (indices : List ℕ)
    (channels : ℕ → ℕ → List MsgName) → at < length history → IsSnapshot history indices channels
    → IsSnapshot (with_event history at e) indices channels
snapshot_event history at e indices channels h is =
    let fronts = event_fronts history at e h indices is.line in
    let same : length (with_event history at e) ≡ length history = length-set history at _ in
    record {
      line = event_line history at e h indices is.line;
      consistent = consistent_same history (with_event history at e)
          (check_line indices) fronts is.consistent;
      transit = λ p q lp lq other. is.transit p q (omega (arith, same)) (omega (arith, same)) other
          ∙ sym (transit_same history (with_event history at e) (check_line indices) fronts p q);
    }

-- the front of a later check has the earlier one
pub check_in_front : (tape : List Event) (k c : ℕ) → c ≤ k → c ≤ checks tape
    → c ≤ checks (take (check_place tape k) tape)
check_in_front tape k zero le h = omega arith
check_in_front tape zero (suc c) le h = absurd (omega arith)
check_in_front [] (suc k) (suc c) le h = absurd (omega arith)
check_in_front (x ∷ xs) (suc k) (suc c) le h =
    elim (is_check x) as
    (λ b. suc c ≤ cond b (suc (checks xs)) (checks xs)
    → suc c ≤ cond b (suc (checks (take (check_place xs (cond b k (suc k))) xs)))
    (checks (take (check_place xs (cond b k (suc k))) xs))) [
      | true ↦ λ l. omega (arith, check_in_front xs k c (omega arith) (omega arith))
      | false ↦ λ l. check_in_front xs (suc k) (suc c) le l
    ] h

pub kept_in_front : (tape : List Event) (choice : Choice) (c : ℕ) → IsTrue (is_kept choice c)
    → c ≤ checks tape → c ≤ checks (front tape choice)
kept_in_front tape (AtCheck k) c kept h = check_in_front tape k c (leb-true c k kept) h
kept_in_front tape Now c kept h =
    subst (λ (es : List Event). c ≤ checks es) (sym (take_all (length tape) tape (omega arith))) h

-- a snapshot stays one by a restart that keeps its checks
pub snapshot_restarted : (history : List Process) (line : List Choice) (indices : List ℕ)
    (channels : ℕ → ℕ → List MsgName) → length line ≡ length history
    → ((p : ℕ) → IsTrue (is_kept (choice_at line p) (get_or indices p 0))) → IsSnapshot history
    indices channels → IsSnapshot (restarted_history history line) indices channels
snapshot_restarted history line indices channels e kept is =
    let fronts = kept_front history line indices e kept in
    let same : length (restarted_history history line)
    ≡ length history = length_restarted history line e in
    record {
      line = record {
        length_is = is.line.length_is ∙ sym same;
        exist = λ p.
            let count : checks (tape_at (restarted_history history line) p)
            ≡ checks (events_before history line p) = ap checks
            (tape_restarted history line p e) ∙ checks_left (events_before history line p) in
            subst (HasChoice (tape_at (restarted_history history line) p))
            (sym (choice_of_checks indices p))
            (omega (
              arith,
              count,
              kept_in_front (tape_at history p) (choice_at line p)
                  (get_or indices p 0) (kept p) (check_there history indices is.line p),
            ));
      };
      consistent = λ q m seen.
          let before : Contains (events_before history (check_line indices) q)
          (Recv m) = received_left (events_before history (check_line indices) q) m
          (subst (λ (es : List Event). Contains es (Recv m)) (fronts q) seen) in
          ap (λ (es : List Event). slice_get (incarnations_sent es) m.number) (fronts m.from)
          ∙ ap (λ (v : List ℕ). slice_get v m.number)
          (sent_left (events_before history (check_line indices) m.from))
          ∙ is.consistent q m before;
      transit = λ p q lp lq other. is.transit p q (omega (arith, same))
          (omega (arith, same)) other ∙ sym (kept_transit history line indices e kept p q);
    }

-- where the checks of a snapshot survive, the latest line is nowhere before them
pub latest_reached : (history : List Process) (marks : MarksView) (failed : List Bool)
    (line : List Choice) (indices : List ℕ) (channels : ℕ → ℕ → List MsgName)
    → IsLatest history marks failed line → IsSnapshot history indices channels
    → ((p : ℕ) → p < length history → IsTrue (survives history marks failed p
    (AtCheck (get_or indices p 0)))) → IsNowhereLater (check_line indices) line
latest_reached history marks failed line indices channels latest is surviving =
    latest.latest (check_line indices) (record {
      length_is = is.line.length_is;
      surviving = λ p. subst (λ (v : Choice). IsTrue (survives history marks failed p v))
          (sym (choice_of_checks indices p)) (elim (cases_lt p (length history)) [
            | inl within ↦ surviving p within
            | inr past ↦
                let none : get_or indices p 0 ≡ 0 = get_or_past indices p 0
                (omega (arith, is.line.length_is, length-map indices (λ c. AtCheck c))) in
                subst (λ (c : ℕ). IsTrue (survives history marks failed p (AtCheck c)))
                (sym none) refl
          ]);
      consistent = is.consistent;
    })
