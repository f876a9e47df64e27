-- The line of a recovery stays consistent in all that is reported after it.
use Rattle.std.proofs.Common.{◌≡◌, ℕ, ◌≤◌, true, Bool, List, [], ◌++◌, append-nil, length, take}
use Rattle.std.proofs.Common.{sym, subst, ap, ◌∙◌, arith, inl, inr}
use Rattle.std.specs.Prelude.{◌⊎◌, Contains, slice_get}
use Rattle.std.specs.List.{filter_map}
use Rattle.std.proofs.lemmas.Bool.{cases_lt}
use Rattle.std.proofs.lemmas.List.Elements.{Contains-append_cases}
use Rattle.std.proofs.Math.Seq.{take-append_seam}
use Rattle.line_laws.proofs.SnapshotLemmas.{check_in_front, front_more}
use Rattle.line_names.specs.declared.choices.Choice.{Choice}
use Rattle.line_names.specs.declared.choices.Choice.TheVariants.{Check as AtCheck}
use Rattle.line_names.specs.declared.messages.MsgName.{MsgName}
use Rattle.line_names.specs.Lines.{choice_at}
use Rattle.line_plan.specs.declared.plans.Plan.{Plan}
use Rattle.line_collect.specs.declared.reports.Report.{Report}
use Rattle.line_tape.specs.declared.events.Event.{Event}
use Rattle.line_tape.specs.declared.events.Event.TheVariants.{Recv}
use Rattle.line_tape.specs.Event.{Holds, checks, incarnations_sent}
use Rattle.line_tape.specs.Front.{check_place, front}
use Rattle.line_tape.specs.History.{Process, tape_at}
use Rattle.line_tape.specs.Line.{events_before, IsConsistent}
use Rattle.line_tape.specs.Restart.{restarted_event, restarted_history}
use Rattle.line_tape.specs.Survival.{survives}
use Rattle.line_tape.proofs.ChoiceLemmas.{survives_within}
use Rattle.line_tape.proofs.CutLemmas.{checks_left, contains_nothing, received_left, sent_left}
use Rattle.line_tape.proofs.LineLemmas.{tape_at-past}
use Rattle.line_tape.proofs.StayLemmas.{front_restarted, front_take, tape_restarted}
use Rattle.line_collect.specs.Collections.{CollectionView, IsPlanOf, gone_back}
use Rattle.line_collect.specs.Orders.{AnswersUntilRecovery, TakesAll, events_by}
use Rattle.line_collect.specs.Recoveries.{IsRecoveredLine, events_recovered}
use Rattle.line_collect.proofs.CutLemmas.{receipts_named}
use Rattle.line_collect.proofs.EventLemmas.{to_send_agrees}
use Rattle.line_collect.proofs.OrderLemmas.{all_grown, taken_of}

-- what a restart at a consistent line leaves has no orphan message
left_consistent : (history : List Process) (line : List Choice) → length line ≡ length history
    → IsConsistent history line → (q : ℕ) (m : MsgName)
    → Contains (tape_at (restarted_history history line) q) (Recv m)
    → Holds (tape_at (restarted_history history line) m.from) m.inc m.number
left_consistent history line e consistent q m seen =
    let before : Contains (events_before history line q) (Recv m) = received_left
    (events_before history line q) m (subst (λ (es : List Event). Contains es (Recv m))
    (tape_restarted history line q e) seen) in
    ap (λ (es : List Event). slice_get (incarnations_sent es) m.number)
    (tape_restarted history line m.from e)
    ∙ ap (λ (v : List ℕ). slice_get v m.number) (sent_left (events_before history line m.from))
    ∙ consistent q m before

-- and ends at the check that its process went back to
module _ (history : List Process) (line : List Choice) (e : length line ≡ length history) (p c : ℕ)
    (at : choice_at line p ≡ AtCheck c) where
  left_is : tape_at (restarted_history history line) p
      ≡ filter_map restarted_event (front (tape_at history p) (AtCheck c))
  left_is = tape_restarted history line p e ∙ ap
      (λ (choice : Choice). filter_map restarted_event (front (tape_at history p) choice)) at

  left_front : front (tape_at (restarted_history history line) p) (AtCheck c)
      ≡ tape_at (restarted_history history line) p
  left_front =
      let tape : List Event = tape_at history p in
      ap (λ (es : List Event). front es (AtCheck c)) left_is
      ∙ front_restarted (front tape (AtCheck c)) c
      ∙ ap (filter_map restarted_event) (front_take tape (check_place tape c) c (omega arith))
      ∙ sym left_is

  left_has : c ≤ checks (tape_at history p)
      → c ≤ checks (tape_at (restarted_history history line) p)
  left_has within =
      let tape : List Event = tape_at history p in
      let count : checks (tape_at (restarted_history history line) p) ≡ checks
      (front tape (AtCheck c)) = ap checks left_is ∙ checks_left (front tape (AtCheck c)) in
      let there : c ≤ checks (front tape (AtCheck c)) = check_in_front tape c c
      (omega arith) within in
      omega (arith, count, there)

-- each tape begins with what it was
begins : (old new : CollectionView) (these : List Report) → TakesAll old these new → (p : ℕ)
    → (more : List Event) × (tape_at new.history p ≡ tape_at old.history p ++ more)
begins old new these takes p =
    let grown = all_grown old new these takes in
    elim (cases_lt p (length old.history)) [
      | inl within ↦
          (events_by p these, ap (λ (process : Process). process.tape) (grown.each p within))
      | inr past ↦ (
        [],
        tape_at-past new.history p (omega (arith, past, grown.count)) ∙ sym
            (tape_at-past old.history p past) ∙ sym (append-nil (tape_at old.history p)),
      )
    ]

-- and what it received stood there, or is told by the reports
received_or_told : (old new : CollectionView) (these : List Report) → TakesAll old these new
    → (q : ℕ) (m : MsgName) → Contains (tape_at new.history q) (Recv m)
    → Contains (tape_at old.history q) (Recv m) ⊎ Contains (events_by q these) (Recv m)
received_or_told old new these takes q m seen =
    let grown = all_grown old new these takes in
    elim (cases_lt q (length old.history)) [
      | inl within ↦ Contains-append_cases (tape_at old.history q) (events_by q these) (Recv m)
          (subst (λ (process : Process). Contains process.tape (Recv m)) (grown.each q within) seen)
      | inr past ↦ absurd (contains_nothing (Recv m) (subst (λ (es : List Event). Contains es
          (Recv m)) (tape_at-past new.history q (omega (arith, past, grown.count))) seen))
    ]

module _ (old new : CollectionView) (failed : List Bool) (plan : Plan) (these : List Report)
    (is : IsPlanOf old failed plan)
    (answers : AnswersUntilRecovery (gone_back old plan.line) these new) where
  abbrev left : List Process
  left = restarted_history old.history plan.line

  taken : (reported : List Report) × TakesAll (gone_back old plan.line) reported new
  taken = taken_of (gone_back old plan.line) new these answers

  stay : (p : ℕ) → events_recovered left new.history p ≡ tape_at left p
  stay p =
      let tape : List Event = tape_at left p in
      let grown = begins (gone_back old plan.line) new taken.0 taken.1 p in
      ap (take (length tape)) grown.1 ∙ take-append_seam tape grown.0

  ends : (p c : ℕ) → choice_at plan.line p ≡ AtCheck c
      → front (tape_at new.history p) (AtCheck c) ≡ events_recovered left new.history p
  ends p c at =
      let e = is.latest.recoverable.length_is in
      let grown = begins (gone_back old plan.line) new taken.0 taken.1 p in
      let survives_there : survives old.history old.marks failed p (AtCheck c)
      ≡ true = subst (λ (choice : Choice). survives old.history old.marks failed p choice
      ≡ true) at (is.latest.recoverable.surviving p) in
      let there = left_has old.history plan.line e p c at
      (survives_within old.history old.marks failed p c survives_there) in
      ap (λ (es : List Event). front es (AtCheck c)) grown.1 ∙ front_more (tape_at left p) grown.0 c
      there ∙ left_front old.history plan.line e p c at ∙ sym (stay p)

  none_orphan : (q : ℕ) (m : MsgName) → Contains (tape_at left q) (Recv m)
      → Holds (tape_at left m.from) m.inc m.number
  none_orphan q m seen = left_consistent old.history plan.line is.latest.recoverable.length_is
      is.latest.recoverable.consistent q m seen

  pub stands_recovered : IsRecoveredLine plan.line left new.history
  stands_recovered = record {
    stays = stay;
    checks = ends;
    consistent = λ q m seen.
        subst (λ (es : List Event). Holds es m.inc m.number) (sym (stay m.from))
        (none_orphan q m (subst (λ (es : List Event). Contains es (Recv m)) (stay q) seen));
    since = λ q m within seen.
        elim (received_or_told (gone_back old plan.line) new taken.0 taken.1 q m seen) [
          | inl before ↦ inl (none_orphan q m before)
          | inr told ↦ to_send_agrees left m
              (receipts_named (gone_back old plan.line) new taken.0 q m taken.1 within told)
        ];
  }
