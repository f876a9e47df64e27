-- A line from the floor on is consistent in what is left exactly where it is in the whole.
use Rattle.std.proofs.Common.{◌≡◌, ℕ, zero, suc, ◌+◌, ◌-◌, ◌<◌, ◌≤◌, List, [], ◌∷◌, length, get_or}
use Rattle.std.proofs.Common.{take, Option, Some, refl, sym, ap, ◌∙◌, subst, arith, inl, inr}
use Rattle.std.specs.List.{Contains, slice_get}
use Rattle.std.proofs.lemmas.Bool.{leb-true, le-leb, cases_lt}
use Rattle.std.proofs.lemmas.Option.{unwrap_or-slice_get}
use Rattle.std.specs.Option.{unwrap_or}
use Rattle.std.proofs.lemmas.List.{take_all}
use Rattle.std.proofs.lemmas.List.FromFn.{length-map-range_with_len, get_or-map-range_with_len}
use Rattle.line_names.specs.declared.choices.Choice.{Choice}
use Rattle.line_names.specs.declared.choices.Choice.TheVariants.{Check as AtCheck}
use Rattle.line_names.specs.declared.messages.MsgName.{MsgName}
use Rattle.line_names.specs.Lines.{choice_at, IsNowhereLater}
use Rattle.line_names.specs.Order.{IsNoLater}
use Rattle.line_tape.specs.declared.events.Event.{Event}
use Rattle.line_tape.specs.declared.events.Event.TheVariants.{Recv}
use Rattle.line_tape.specs.Event.{incarnations_sent, Holds}
use Rattle.line_tape.specs.Fit.{IsFitUnordered}
use Rattle.line_tape.specs.Front.{front, place}
use Rattle.line_tape.specs.History.{Process, process_at, tape_at, fresh}
use Rattle.line_tape.specs.Line.{events_before, IsSentBefore, IsConsistent}
use Rattle.line_tape.specs.Rounds.{check_line}
use Rattle.line_tape.proofs.FrontLemmas.{place_le, place-mono, Holds-take_more, Contains-take_more}
use Rattle.line_tape.proofs.LineLemmas.{tape_at-past}
use Rattle.line_tape.proofs.RowLemmas.{sent_at}
use Rattle.line_tape.proofs.ChoiceLemmas.{choice-past}
use Rattle.line_cuts.specs.Cuts.{Floor, IsFloor, lost_sends, floor_check, floor_line, cut_name}
use Rattle.line_cuts.specs.Cuts.{cut_tape, cut_history, cut_choice, cut_line}
use Rattle.line_cuts.proofs.EventCuts.{front_left, sent_left_at, received_left, received_stays}

-- the tape of a process of what is left
pub tape_cut : (floor : Floor) (history : List Process) (p : ℕ)
    → tape_at (cut_history floor history) p ≡ cut_tape floor p (tape_at history p)
tape_cut floor history p = elim (cases_lt p (length history)) [
  | inl within ↦ ap (λ (v : Process). v.tape)
      (get_or-map-range_with_len (λ q. record (process_at history q) {
        tape = cut_tape floor q
            (process_at history q).tape;
      }) 0 (length history) p p fresh within (omega arith))
  | inr past ↦
      let none : length (cut_history floor history) ≤ p = omega (
        arith,
        length-map-range_with_len (λ q. record (process_at history q)
            { tape = cut_tape floor q (process_at history q).tape }) 0 (length history),
      ) in
      tape_at-past (cut_history floor history) p none ∙ ap (cut_tape floor p)
      (sym (tape_at-past history p past))
]

-- the choice of a process of a line there
pub choice_cut : (floor : Floor) (line : List Choice) (p : ℕ)
    → choice_at (cut_line floor line) p ≡ cut_choice floor p (choice_at line p)
choice_cut floor line p = elim (cases_lt p (length line)) [
  | inl within ↦ get_or-map-range_with_len (λ q. cut_choice floor q (choice_at line q)) 0
      (length line) p p (AtCheck 0) within (omega arith)
  | inr past ↦
      let none : length (cut_line floor line) ≤ p = omega (
        arith,
        length-map-range_with_len
            (λ q. cut_choice floor q (choice_at line q)) 0 (length line),
      ) in
      let zero_left : 0 ≡ 0 - (floor_check floor p - 1) = omega arith in
      choice-past (cut_line floor line) p none ∙ ap AtCheck zero_left ∙ ap (cut_choice floor p)
      (sym (choice-past line p past))
]

-- the floor's choice of a process
pub floor_at : (floor : Floor) (p : ℕ)
    → choice_at (floor_line floor) p ≡ AtCheck (floor_check floor p)
floor_at floor p = checks_at floor.checks p
  where
    checks_at : (cs : List ℕ) (q : ℕ) → choice_at (check_line cs) q ≡ AtCheck (get_or cs q 0)
    checks_at [] q = refl
    checks_at (c ∷ cs) zero = refl
    checks_at (c ∷ cs) (suc q) = checks_at cs q

module _ (floor : Floor) (history : List Process) (line : List Choice)
    (above : IsNowhereLater (floor_line floor) line) where
  pub above_at : (p : ℕ) → IsNoLater (AtCheck (floor_check floor p)) (choice_at line p)
  above_at p = subst (λ (c : Choice). IsNoLater c (choice_at line p)) (floor_at floor p) (above p)

  -- what stands before a line there is what is left of what stands before it
  pub events_cut : (p : ℕ) → events_before (cut_history floor history) (cut_line floor line) p
      ≡ cut_tape floor p (events_before history line p)
  events_cut p =
      ap (λ (c : Choice). front (tape_at (cut_history floor history) p) c) (choice_cut floor line p)
      ∙ ap (λ (es : List Event). front es (cut_choice floor p (choice_at line p)))
      (tape_cut floor history p)
      ∙ front_left floor p (tape_at history p) (choice_at line p) (above_at p)

  -- a message that is left is sent before the one where it is sent before the other
  pub sent_cut : (m : MsgName) → lost_sends floor m.from ≤ m.number
      → slice_get (incarnations_sent (events_before (cut_history floor history)
      (cut_line floor line) m.from)) (m.number - lost_sends floor m.from)
      ≡ slice_get (incarnations_sent (events_before history line m.from)) m.number
  sent_cut m left =
      let back : (m.number - lost_sends floor m.from) + (lost_sends floor m.from - 0)
      ≡ m.number = omega arith in
      ap (λ (es : List Event). slice_get (incarnations_sent es)
      (m.number - lost_sends floor m.from)) (events_cut m.from)
      ∙ sent_left_at floor m.from 0 (floor_check floor m.from) (m.number - lost_sends floor m.from)
      (events_before history line m.from)
      ∙ ap (slice_get (incarnations_sent (events_before history line m.from))) back

  -- what is sent before the floor is sent before the line
  pub sent_above : (m : MsgName) → IsSentBefore history (floor_line floor) m
      → IsSentBefore history line m
  sent_above m s =
      let tape : List Event = tape_at history m.from in
      Holds-take_more tape (place tape (choice_at (floor_line floor) m.from))
      (place tape (choice_at line m.from)) m.inc m.number (place-mono tape
      (choice_at (floor_line floor) m.from) (choice_at line m.from) (above m.from)) s

  -- consistent in the whole, so in what is left
  pub consistent_left : IsConsistent history line
      → IsConsistent (cut_history floor history) (cut_line floor line)
  consistent_left consistent q m c =
      let l = received_left floor q 0 (floor_check floor q) (events_before history line q) m
      (subst (λ (es : List Event). Contains es (Recv m)) (events_cut q) c) in
      let w : MsgName = l.whole in
      let sent : slice_get
      (incarnations_sent (events_before (cut_history floor history) (cut_line floor line) w.from))
      (w.number - lost_sends floor w.from) ≡ Some w.inc =
      sent_cut w (leb-true (lost_sends floor w.from) w.number l.is) ∙ consistent q w l.among in
      subst (λ (v : MsgName). IsSentBefore (cut_history floor history) (cut_line floor line) v)
      (sym l.name) sent

  -- what the tape holds of the messages that are let go stands before the floor
  held_below : IsFloor history floor → (m : MsgName) → m.number < lost_sends floor m.from
      → Holds (tape_at history m.from) m.inc m.number → IsSentBefore history (floor_line floor) m
  held_below is m below held =
      let n : ℕ = place (tape_at history m.from) (choice_at (floor_line floor) m.from) in
      let within : m.number < length (incarnations_sent (take n (tape_at history m.from))) = omega
      (arith, is.sent m.from) in
      let read : get_or (incarnations_sent (tape_at history m.from)) m.number m.inc ≡ m.inc =
      sym (unwrap_or-slice_get (incarnations_sent (tape_at history m.from)) m.number m.inc) ∙ ap
      (λ (o : Option ℕ). unwrap_or o m.inc) held in
      sent_at (tape_at history m.from) n m.number m.inc within m.inc ∙ ap Some read

  -- what stands before a choice is on the tape
  on_tape : (q : ℕ) (e : Event) → Contains (events_before history line q) e
      → Contains (tape_at history q) e
  on_tape q e c =
      let tape : List Event = tape_at history q in
      subst (λ (es : List Event). Contains es e) (take_all (length tape) tape (omega arith))
      (Contains-take_more tape (place tape (choice_at line q)) (length tape) e
      (place_le tape (choice_at line q)) c)

  -- consistent in what is left, so in the whole
  pub consistent_whole : IsFitUnordered history → IsFloor history floor
      → IsConsistent (cut_history floor history) (cut_line floor line) → IsConsistent history line
  consistent_whole fit is consistent q m c = elim (cases_lt m.number (lost_sends floor m.from)) [
    | inl below ↦ sent_above m (held_below is m below (fit.held q m (on_tape q (Recv m) c)).held)
    | inr left ↦
        let there = received_stays floor q 0 (floor_check floor q) (events_before history line q) m
        (le-leb (lost_sends floor m.from) m.number left) c in
        sym (sent_cut m left) ∙ consistent q (cut_name floor m) (subst
        (λ (es : List Event). Contains es (Recv (cut_name floor m))) (sym (events_cut q)) there)
  ]
