-- What a catalogue has to know of a history, its marks and its bars, of what is left.
use Rattle.std.proofs.Common.{◌≡◌, ℕ, ◌+◌, ◌-◌, ◌<◌, ◌≤◌, true, List, length, Option, Some, None}
use Rattle.std.proofs.Common.{sym, ap, ◌∙◌, subst, arith, inl, inr}
use Rattle.std.specs.Prelude.{nat_lt, IfSome}
use Rattle.std.specs.List.{All, filter, slice_get}
use Rattle.std.proofs.lemmas.Bool.{leb-true, cases_lt}
use Rattle.std.proofs.lemmas.List.{get_or_past}
use Rattle.std.proofs.lemmas.List.Elements.{All-filter, All-from_get_or, All-map, All-weaker}
use Rattle.line_names.specs.declared.messages.MsgName.{MsgName}
use Rattle.line_tape.specs.declared.events.Event.{Event}
use Rattle.line_tape.specs.Event.{checks, incarnations_sent, sends, IsShort, NamesBelow}
use Rattle.line_tape.specs.Front.{HasChoice}
use Rattle.line_tape.specs.History.{Process, process_at, tape_at, incarnation_at, fresh, IsHistory}
use Rattle.line_tape.specs.History.{IsProcess}
use Rattle.line_tape.specs.Views.{MarksView, bar_at, damaged_at}
use Rattle.line_tape.proofs.HistoryLemmas.{IsHistory-at}
use Rattle.line_catalogue.specs.Agreement.{NameAgrees, EventAgrees, Agrees}
use Rattle.line_catalogue.specs.Damage.{AreOnChecks}
use Rattle.line_cuts.specs.Cuts.{Floor, IsFloor, lost_sends, floor_check, lost_checks, is_left}
use Rattle.line_cuts.specs.Cuts.{cut_name, cut_history, cut_bar, cut_marks}
use Rattle.line_cuts.proofs.ConsistentCuts.{tape_cut, floor_at}
use Rattle.line_cuts.proofs.EventCuts.{sent_left_at}
use Rattle.line_cuts.proofs.LatestCuts.{length_history}
use Rattle.line_cuts.proofs.SendCuts.{IsCarried, all_left, length_left, sends_left}
use Rattle.line_cuts.proofs.StepCuts.{cut_process, process_cut}
use Rattle.line_cuts.proofs.SurvivalCuts.{bar_cut, checks_left, damaged_cut}

module _ (floor : Floor) (history : List Process) where
  -- incarnations stay
  pub incarnation_cut : (p : ℕ)
      → incarnation_at (cut_history floor history) p ≡ incarnation_at history p
  incarnation_cut p = elim (cases_lt p (length history)) [
    | inl within ↦ ap (λ (v : Process). v.incarnation) (process_cut floor history p within)
    | inr past ↦ ap (λ (v : Process). v.incarnation)
        (get_or_past (cut_history floor history) p fresh
        (omega (arith, length_history floor history)) ∙ sym (get_or_past history p fresh past))
  ]

  -- a message that is left is held where it was
  pub held_cut : (m : MsgName) → is_left floor m ≡ true
      → slice_get (incarnations_sent (tape_at (cut_history floor history) m.from)) (m.number -
      lost_sends floor m.from) ≡ slice_get (incarnations_sent (tape_at history m.from)) m.number
  held_cut m left =
      let h : lost_sends floor m.from ≤ m.number = leb-true
      (lost_sends floor m.from) m.number left in
      let place : (m.number - lost_sends floor m.from) + (lost_sends floor m.from - 0)
      ≡ m.number = omega arith in
      ap (λ (es : List Event). slice_get (incarnations_sent es)
      (m.number - lost_sends floor m.from)) (tape_cut floor history m.from)
      ∙ sent_left_at floor m.from 0 (floor_check floor m.from) (m.number - lost_sends floor m.from)
      (tape_at history m.from)
      ∙ ap (slice_get (incarnations_sent (tape_at history m.from))) place

  -- and its name agrees there
  name_left : (m : MsgName) → is_left floor m ≡ true → NameAgrees history m
      → NameAgrees (cut_history floor history) (cut_name floor m)
  name_left m left (inl held) = inl (held_cut m left ∙ held)
  name_left m left (inr coming) =
      let h : lost_sends floor m.from ≤ m.number = leb-true
      (lost_sends floor m.from) m.number left in
      let count : sends (tape_at (cut_history floor history) m.from)
      ≡ sends (tape_at history m.from) - (lost_sends floor m.from - 0) = ap sends
      (tape_cut floor history m.from) ∙ sends_left floor m.from 0 (floor_check floor m.from)
      (tape_at history m.from) in
      inr (omega (arith, count, coming.0), coming.1 ∙ sym (incarnation_cut m.from))

  carried : IsCarried floor (EventAgrees history) (EventAgrees (cut_history floor history))
  carried = record {
    sends = λ to inc body is. tt;
    receipts = λ m left is. name_left m left is;
    checks = λ state round is. tt;
    marks = λ from round is. tt;
  }

  pub agrees_cut : Agrees history → Agrees (cut_history floor history)
  agrees_cut is = record {
    each =
        λ q. subst (All (EventAgrees (cut_history floor history))) (sym (tape_cut floor history q))
        (all_left floor q (EventAgrees history) (EventAgrees (cut_history floor history)) carried 0
        (floor_check floor q) (tape_at history q) (is.each q));
  }

  limits_carried : (n : ℕ) → IsCarried floor (NamesBelow n) (NamesBelow n)
  limits_carried n = record {
    sends = λ to inc body is. is;
    receipts = λ m left is. is;
    checks = λ state round is. tt;
    marks = λ from round is. is;
  }

  short_carried : IsCarried floor IsShort IsShort
  short_carried = record {
    sends = λ to inc body is. is;
    receipts = λ m left is. tt;
    checks = λ state round is. is;
    marks = λ from round is. tt;
  }

  process_within : (n p : ℕ) (process : Process) → IsProcess n process
      → IsProcess n (cut_process floor p process)
  process_within n p process is = record {
    tape = record {
      few = omega (arith, is.tape.few, length_left floor p 0 (floor_check floor p) process.tape);
      short = all_left floor p IsShort IsShort short_carried 0
          (floor_check floor p) process.tape is.tape.short;
    };
    named = all_left floor p (NamesBelow n) (NamesBelow n) (limits_carried n) 0
        (floor_check floor p) process.tape is.named;
  }

  -- it keeps within the limits
  pub history_cut : IsHistory history → IsHistory (cut_history floor history)
  history_cut is =
      let n : ℕ = length (cut_history floor history) in
      let count : n ≡ length history = length_history floor history in
      record {
        some = omega (arith, count, is.some);
        few = omega (arith, count, is.few);
        processes = All-from_get_or (IsProcess n) (cut_history floor history) fresh (λ p h.
            let within : p < length history = omega (arith, count) in
            subst (IsProcess n) (sym (process_cut floor history p within))
            (process_within n p (process_at history p) (subst (λ v. IsProcess v
            (process_at history p)) (sym count) (IsHistory-at history p within is))));
      }

  -- the checks that are left
  pub count_cut : IsFloor history floor → (p : ℕ) → checks
      (tape_at (cut_history floor history) p) + lost_checks floor p ≡ checks (tape_at history p)
  count_cut is p = ap (λ (es : List Event). checks es + lost_checks floor p)
      (tape_cut floor history p) ∙ checks_left floor p 0 (floor_check floor p) (tape_at history p)
      (subst (HasChoice (tape_at history p)) (floor_at floor p) (is.line.exist p))

  module _ (marks : MarksView) (is : IsFloor history floor) (on : AreOnChecks history marks) where
    marked : (p c : ℕ) → c ≤ checks (tape_at history p)
        → c - lost_checks floor p ≤ checks (tape_at (cut_history floor history) p)
    marked p c h = omega (arith, count_cut is p)

    barred : (p : ℕ) (bar : Option ℕ) → IfSome bar (λ c. c ≤ checks (tape_at history p))
        → IfSome (cut_bar (lost_checks floor p) bar)
        (λ c. c ≤ checks (tape_at (cut_history floor history) p))
    barred p None h = tt
    barred p (Some c) h = marked p c h

    -- its marks and bars are on checks of it
    pub on_checks_cut : AreOnChecks (cut_history floor history) (cut_marks floor marks)
    on_checks_cut = record {
      each = λ p.
          let there = λ (c : ℕ). c ≤ checks (tape_at (cut_history floor history) p) in
          let whole = λ (c : ℕ). c ≤ checks (tape_at history p) in
          let later : List ℕ = filter (λ c. nat_lt (floor_check floor p) c) (damaged_at marks p) in
          subst (All there) (sym (damaged_cut floor history marks p))
          (All-map there (λ c. c - lost_checks floor p) later
          (All-weaker whole (λ c. there (c - lost_checks floor p)) (marked p) later (All-filter
          (λ c. nat_lt (floor_check floor p) c) whole (damaged_at marks p) (on.each p))));
      bars = λ p. subst (λ bar. IfSome bar (λ c. c ≤ checks (tape_at (cut_history floor history)
          p))) (sym (bar_cut floor history marks p)) (barred p (bar_at marks p) (on.bars p));
    }
