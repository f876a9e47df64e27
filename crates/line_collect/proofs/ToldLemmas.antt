-- There are numbers for what is kept, whatever comes.
use Rattle.std.proofs.Common.{◌≡◌, ℕ, zero, suc, ◌+◌, ◌<◌, ◌≤◌, ◌^◌, List, [], ◌∷◌, length, take}
use Rattle.std.proofs.Common.{drop, replicate, get_or, Result, Ok, Err, refl, sym, subst, arith}
use Rattle.std.proofs.Common.{inl, inr}
use Rattle.std.specs.List.{Contains}
use Rattle.std.proofs.lemmas.Bool.{cases_eq, cases_lt, leb-true}
use Rattle.std.proofs.lemmas.List.{get_or_past, take-append-drop}
use Rattle.std.proofs.lemmas.List.FromFn.{length-map-range_with_len, get_or-map-range_with_len}
use Rattle.std.proofs.lemmas.List.Elements.{Contains-append_left, Contains-push_cases}
use Rattle.line_catalogue.proofs.AgreementLemmas.{tape-here, tape-other}
use Rattle.line_collect.specs.Brought.{HasWholeNumbers}
use Rattle.line_collect.specs.Collections.{CollectionView, gone_back, with_report}
use Rattle.line_collect.specs.declared.refusals.CollectError.{CollectError}
use Rattle.line_collect.specs.declared.reports.Report.{Report}
use Rattle.line_collect.specs.declared.reports.Report.TheVariants as reports
use Rattle.line_collect.specs.declared.tellings.Told.{Told}
use Rattle.line_collect.specs.Answers.{DoesAsReported, TakesReport, told_record}
use Rattle.line_collect.specs.Lives.{AreReceiptsNumbered, LiveCollectionView, keeping}
use Rattle.line_cuts.specs.Numbers.{IsNumbered}
use Rattle.line_collect.specs.Lives.{nothing_live}
use Rattle.line_fields.specs.Records.{Record}
use Rattle.line_cuts.specs.Cuts.{Floor, cut_history, cut_name, floor_check, lost_sends, whole_floor}
use Rattle.line_cuts.proofs.ConsistentCuts.{tape_cut}
use Rattle.line_cuts.proofs.EventCuts.{received_left}
use Rattle.line_cuts.specs.Floors.{HasNumbers}
use Rattle.line_names.specs.declared.choices.Choice.{Choice}
use Rattle.line_names.specs.declared.messages.MsgName.{MsgName}
use Rattle.line_names.specs.Lines.{choice_at}
use Rattle.line_tape.specs.declared.events.Event.{Event}
use Rattle.line_tape.specs.declared.events.Event.TheVariants as events
use Rattle.line_tape.specs.Front.{place}
use Rattle.line_tape.specs.History.{Process, fresh, tape_at, with_event}
use Rattle.line_tape.proofs.CutLemmas.{contains_nothing}
use Rattle.line_tape.proofs.CutLemmas as lines
use Rattle.line_tape.proofs.StayLemmas.{tape_restarted}

zero_at : (n p : ℕ) → get_or {A = ℕ} (replicate {A = ℕ} n 0) p 0 ≡ 0
zero_at zero p = refl
zero_at (suc n) zero = refl
zero_at (suc n) (suc p) = zero_at n p

fresh_tape : (n p : ℕ) → tape_at (replicate n fresh) p ≡ []
fresh_tape zero p = refl
fresh_tape (suc n) zero = refl
fresh_tape (suc n) (suc p) = fresh_tape n p

-- at the beginning
pub told_nothing : (n : ℕ) → HasWholeNumbers (nothing_live n)
told_nothing n = record {
  numbers = λ p. (omega (arith, zero_at n p), omega (arith, zero_at n p));
  named = λ q m among. absurd (contains_nothing (events.Recv m)
      (subst (λ (es : List Event). Contains es (events.Recv m)) (fresh_tape n q) among));
}

-- one event more
event_told : (floor : Floor) (history : List Process) (at : ℕ) (event : Event) → at < length history
    → AreReceiptsNumbered floor history → ((m : MsgName) → event ≡ events.Recv m
    → IsNumbered floor m) → AreReceiptsNumbered floor (with_event history at event)
event_told floor history at event h named own q m among = elim (cases_eq q at) [
  | inl here ↦ elim (Contains-push_cases (tape_at history q) event (events.Recv m) (subst (λ (es :
      List Event). Contains es (events.Recv m)) (tape-here history at event h q here) among)) [
        | inl before ↦ named q m before
        | inr last ↦ own m last
      ]
  | inr other ↦ named q m (subst (λ (es : List Event). Contains es (events.Recv m))
      (tape-other history at event h q other) among)
]

-- the process and the message of a report to what is kept have their ranges
abbrev pub IsToldOf : LiveCollectionView → Report → Type 0
IsToldOf old (reports.Send by inc to body) = by < length old.kept.history
IsToldOf old (reports.Receive by inc m) = (by < length old.kept.history) × IsNumbered old.floor m
IsToldOf old (reports.Check by inc state round) = by < length old.kept.history
IsToldOf old (reports.Mark by inc sender round) = by < length old.kept.history
IsToldOf old (reports.Damage by check) = Unit {0}
IsToldOf old (reports.Bar by check) = Unit {0}
IsToldOf old report = ⊥

module _ (old : LiveCollectionView) (told : HasWholeNumbers old) where
  with_told : (at : ℕ) (event : Event) → at < length old.kept.history
      → ((m : MsgName) → event ≡ events.Recv m → IsNumbered old.floor m)
      → HasWholeNumbers (keeping old (with_report old.kept at event))
  with_told at event h own = record {
    numbers = told.numbers;
    named = event_told old.floor
        old.kept.history at event h told.named own;
  }

  does_told : (report : Report) (records : List Record) (new : CollectionView) → IsToldOf old report
      → DoesAsReported old.kept report records new → HasWholeNumbers (keeping old new)
  does_told (reports.Send by inc to body) records new range does = subst
      (λ (k : CollectionView). HasWholeNumbers (keeping old k)) (sym does.1)
      (with_told by (events.Send to inc body) range (λ m e. absurd (cc e)))
  does_told (reports.Receive by inc received) records new range does =
      subst (λ (k : CollectionView). HasWholeNumbers (keeping old k)) (sym does.1)
      (with_told by (events.Recv received) range.0 (λ m e.
      let is : received ≡ m = cc e in
      subst (IsNumbered old.floor) is range.1))
  does_told (reports.Check by inc state round) records new range does = subst
      (λ (k : CollectionView). HasWholeNumbers (keeping old k)) (sym does.1)
      (with_told by (events.Check state round) range (λ m e. absurd (cc e)))
  does_told (reports.Mark by inc sender round) records new range does = subst
      (λ (k : CollectionView). HasWholeNumbers (keeping old k)) (sym does.1)
      (with_told by (events.Mark sender round) range (λ m e. absurd (cc e)))
  does_told (reports.Damage by check) records new range does = subst
      (λ (k : CollectionView). HasWholeNumbers (keeping old k)) (sym does.1)
      (record { numbers = told.numbers; named = told.named })
  does_told (reports.Bar by check) records new range does = subst
      (λ (k : CollectionView). HasWholeNumbers (keeping old k)) (sym does.1)
      (record { numbers = told.numbers; named = told.named })
  does_told (reports.Plan failed) records new range does = absurd range
  does_told reports.Live records new range does = absurd range
  does_told (reports.Recover failed) records new range does = absurd range
  does_told reports.Forget records new range does = absurd range
  does_told reports.History records new range does = absurd range
  does_told (reports.Bundle failed) records new range does = absurd range
  does_told (reports.Refused code) records new range does = absurd range

  -- a report that what is kept takes, or not
  pub takes_told : (report : Report) (result : Result Told CollectError) (new : CollectionView)
      → IsToldOf old report → TakesReport old.kept report result new
      → HasWholeNumbers (keeping old new)
  takes_told report (Ok answer) new range takes =
      does_told report (told_record answer ∷ []) new range takes.1
  takes_told report (Err error) new range takes =
      subst (λ (k : CollectionView). HasWholeNumbers (keeping old k)) (sym takes.0) told

  -- a restart
  pub restart_told : (line : List Choice) → length line ≡ length old.kept.history
      → HasWholeNumbers (keeping old (gone_back old.kept line))
  restart_told line e = record {
    numbers = told.numbers;
    named = λ q m among.
        let tape : List Event = tape_at old.kept.history q in
        let n : ℕ = place tape (choice_at line q) in
        let front : Contains (take n tape) (events.Recv m) = lines.received_left (take n tape) m
        (subst (λ (es : List Event). Contains es (events.Recv m))
        (tape_restarted old.kept.history line q e) among) in
        told.named q m (subst (λ (es : List Event). Contains es (events.Recv m)) (take-append-drop n
        tape) (Contains-append_left (take n tape) (drop n tape) (events.Recv m) front));
  }

  sends_most : (later : Floor) (p : ℕ)
      → lost_sends (whole_floor old.floor later) p ≤ lost_sends old.floor p + lost_sends later p
  sends_most later p = elim (cases_lt p (length later.sends)) [
    | inl within ↦ omega (
      arith,
      get_or-map-range_with_len (λ q. lost_sends old.floor q + lost_sends
          later q) 0 (length later.sends) p p 0 within (omega arith),
    )
    | inr past ↦ omega (
      arith,
      get_or_past (whole_floor old.floor later).sends p 0
          (omega (
            arith,
            past,
            length-map-range_with_len
                (λ q. lost_sends old.floor q + lost_sends later q) 0 (length later.sends),
          )),
    )
  ]

  -- what stands before a floor is let go
  pub forgets_told : (later floor : Floor) (kept : CollectionView) → HasNumbers floor
      → floor ≡ whole_floor old.floor later → kept.history ≡ cut_history later old.kept.history
      → HasWholeNumbers (record { floor = floor; kept = kept })
  forgets_told later floor kept numbers floor_is history = record {
    numbers = numbers;
    named = λ q m among.
        let tape : List Event = tape_at old.kept.history q in
        let here : Contains (tape_at (cut_history later old.kept.history) q) (events.Recv m) = subst
        (λ (h : List Process). Contains (tape_at h q) (events.Recv m)) history among in
        let l = received_left later q 0 (floor_check later q) tape m (subst (λ (es : List Event).
        Contains es (events.Recv m)) (tape_cut later old.kept.history q) here) in
        let w : MsgName = l.whole in
        let low : lost_sends later w.from ≤ w.number = leb-true
        (lost_sends later w.from) w.number l.is in
        let before : w.number + lost_sends old.floor w.from < 2 ^ 32 = told.named q w l.among in
        let cut : IsNumbered (whole_floor old.floor later) (cut_name later w) = omega
        (arith, low, before, sends_most later w.from) in
        subst (λ (f : Floor). IsNumbered f m) (sym floor_is)
        (subst (IsNumbered (whole_floor old.floor later)) (sym l.name) cut);
  }
