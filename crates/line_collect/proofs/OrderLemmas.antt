-- What reports leave of a history, process by process.
use Rattle.std.proofs.Common.{◌≡◌, ℕ, ◌<◌, cond, List, [], ◌∷◌, ◌++◌, append_assoc, append-nil}
use Rattle.std.proofs.Common.{length, Option, Some, None, refl, sym, subst, ap, ◌∙◌, arith, inl}
use Rattle.std.proofs.Common.{inr}
use Rattle.std.specs.Prelude.{◌==◌}
use Rattle.std.specs.List.{cons_option}
use Rattle.std.proofs.lemmas.Bool.{cases_eq, eq-eqb, ne_eqb}
use Rattle.std.proofs.lemmas.List.{get_or_default, get_or-set_other, same_lists}
use Rattle.line_catalogue.proofs.AgreementLemmas.{process-here}
use Rattle.line_fields.specs.Records.{Record}
use Rattle.line_moves.proofs.LinkLemmas.{length-with_event}
use Rattle.line_collect.specs.declared.reports.Report.{Report}
use Rattle.line_collect.specs.declared.reports.Report.TheVariants as reports
use Rattle.line_tape.specs.declared.events.Event.{Event}
use Rattle.line_tape.specs.declared.events.Event.TheVariants as events
use Rattle.line_tape.specs.History.{Process, fresh, process_at, tape_at, with_event}
use Rattle.line_collect.specs.Answers.{DoesAsReported, Given, Refused}
use Rattle.line_collect.specs.Collections.{CollectionView}
use Rattle.line_collect.specs.Orders.{AnswersUntilRecovery, IsNoRecovery, TakesAll, event_by}
use Rattle.line_collect.specs.Orders.{events_by}

-- a process with one more event, if there is one, and with more
abbrev pub with_one : Process → Option Event → Process
with_one process None = process
with_one process (Some event) = record process { tape = process.tape ++ event ∷ [] }

abbrev pub with_more : Process → List Event → Process
with_more process more = record process { tape = process.tape ++ more }

one_then_more : (process : Process) (one : Option Event) (more : List Event)
    → with_more (with_one process one) more ≡ with_more process (cons_option one more)
one_then_more process None more = refl
one_then_more process (Some event) more = ap (λ (tape : List Event). record process { tape = tape })
    (append_assoc process.tape (event ∷ []) more)

-- each process has what the report tells of it
pub record HasGrown (old new : List Process) (report : Report) : Type 0 where
  pub count : length new ≡ length old
  pub each : (p : ℕ) → p < length old
      → process_at new p ≡ with_one (process_at old p) (event_by p report)

same_grown : (old new : List Process) (report : Report) → ((p : ℕ) → event_by p report ≡ None)
    → new ≡ old → HasGrown old new report
same_grown old new report none same = record {
  count = ap (λ (h : List Process). length h) same;
  each = λ p within. ap (λ (h : List Process). process_at h p) same ∙ ap
      (with_one (process_at old p)) (sym (none p));
}

event_grows : (history : List Process) (by p : ℕ) (event : Event) → p < length history
    → process_at (with_event history by event) p
    ≡ with_one (process_at history p) (cond (by == p) (Some event) None)
event_grows history by p event within = elim (cases_eq by p) [
  | inl same ↦
      let there : by < length history = omega (arith, same) in
      process-here history by event there p (sym same) ∙ ap
      (λ b. with_one (process_at history p) (cond b (Some event) None)) (sym (eq-eqb by p same))
  | inr apart ↦
      get_or-set_other history by p _ fresh (λ e. apart (sym e)) ∙ ap (λ b. with_one
      (process_at history p) (cond b (Some event) None)) (sym (ne_eqb by p apart))
]

event_grown : (old new : List Process) (report : Report) (by : ℕ) (event : Event)
    → ((p : ℕ) → event_by p report ≡ cond (by == p) (Some event) None)
    → new ≡ with_event old by event → HasGrown old new report
event_grown old new report by event is same = record {
  count = ap (λ (h : List Process). length h) same ∙ length-with_event old by event;
  each = λ p within. ap (λ (h : List Process). process_at h p) same ∙ event_grows old by p event
      within ∙ ap (with_one (process_at old p)) (sym (is p));
}

history_of : (v w : CollectionView) → v ≡ w → v.history ≡ w.history
history_of v w same = ap (λ (c : CollectionView). c.history) same

pub report_grown : (old new : CollectionView) (report : Report) (records : List Record)
    → IsNoRecovery report → DoesAsReported old report records new
    → HasGrown old.history new.history report
report_grown old new
    (reports.Send by inc to body) records stays h = event_grown old.history new.history
    (reports.Send by inc to body) by (events.Send to inc body) (λ p. refl) (history_of _ _ h.1)
report_grown old new
    (reports.Receive by inc message) records stays h = event_grown old.history new.history
    (reports.Receive by inc message) by (events.Recv message) (λ p. refl) (history_of _ _ h.1)
report_grown old new
    (reports.Check by inc state round) records stays h = event_grown old.history new.history
    (reports.Check by inc state round) by (events.Check state round) (λ p. refl)
    (history_of _ _ h.1)
report_grown old new
    (reports.Mark by inc sender round) records stays h = event_grown old.history new.history
    (reports.Mark by inc sender round) by (events.Mark sender round) (λ p. refl)
    (history_of _ _ h.1)
report_grown old new (reports.Damage by check) records stays h =
    same_grown old.history new.history (reports.Damage by check) (λ p. refl) (history_of _ _ h.1)
report_grown old new (reports.Bar by check) records stays h =
    same_grown old.history new.history (reports.Bar by check) (λ p. refl) (history_of _ _ h.1)
report_grown old new (reports.Plan failed) records stays h =
    same_grown old.history new.history (reports.Plan failed) (λ p. refl) (history_of _ _ h.3)
report_grown old new reports.Live records stays h =
    same_grown old.history new.history reports.Live (λ p. refl) (history_of _ _ h.2.3)
report_grown old new (reports.Recover failed) records stays h = absurd stays
report_grown old new reports.Forget records stays h = absurd h
report_grown old new reports.History records stays h =
    same_grown old.history new.history reports.History (λ p. refl) (history_of _ _ h.1)
report_grown old new (reports.Bundle failed) records stays h =
    same_grown old.history new.history (reports.Bundle failed) (λ p. refl) (history_of _ _ h.3)
report_grown old new (reports.Refused code) records stays h = absurd h

-- each process has what the reports tell of it
pub record HaveGrown (old new : List Process) (these : List Report) : Type 0 where
  pub count : length new ≡ length old
  pub each : (p : ℕ) → p < length old
      → process_at new p ≡ with_more (process_at old p) (events_by p these)

pub all_grown : (old new : CollectionView) (these : List Report) → TakesAll old these new
    → HaveGrown old.history new.history these
all_grown old new [] same = record {
  count = ap (λ (c : CollectionView). length c.history) same;
  each = λ p within. ap (λ (c : CollectionView). process_at c.history p) same ∙ ap
      (λ (tape : List Event). record (process_at old.history p) { tape = tape })
      (sym (append-nil (tape_at old.history p)));
}
all_grown old new (report ∷ others) (stays, (records, mid, answers, more)) =
    let first = report_grown old mid report records stays answers.1 in
    let rest = all_grown mid new others more in
    record {
      count = rest.count ∙ first.count;
      each = λ p within.
          rest.each p (omega (arith, within, first.count))
          ∙ ap (λ (process : Process). with_more process (events_by p others)) (first.each p within)
          ∙ one_then_more (process_at old.history p) (event_by p report) (events_by p others);
    }

-- the same of each process is the same
pub same_histories : (old : CollectionView) (new later : CollectionView)
    (these others : List Report) → TakesAll old these new → TakesAll old others later
    → ((p : ℕ) → events_by p these ≡ events_by p others) → new.history ≡ later.history
same_histories old new later these others one two same =
    let a = all_grown old new these one in
    let b = all_grown old later others two in
    let there : (p : ℕ) → p < length old.history
    → process_at new.history p ≡ process_at later.history p =
    λ p within. a.each p within ∙ ap (with_more (process_at old.history p)) (same p) ∙ sym
    (b.each p within) in
    same_lists new.history later.history (a.count ∙ sym b.count)
    (λ p d within.
    let in_old : p < length old.history = omega (arith, within, a.count) in
    let in_later : p < length later.history = omega (arith, in_old, b.count) in
    get_or_default new.history p d fresh within ∙ there p in_old ∙ sym
    (get_or_default later.history p d fresh in_later))

-- those of the reports that are taken leave what all of them leave
pub taken_of : (old new : CollectionView) (these : List Report) → AnswersUntilRecovery old these new
    → (taken : List Report) × TakesAll old taken new
taken_of old new [] same = ([], same)
taken_of old new (report ∷ others) (Refused code, mid, answers, none, more) =
    let rest = taken_of mid new others more in
    (rest.0, subst (λ (v : CollectionView). TakesAll v rest.0 new) answers.1 rest.1)
taken_of old new (report ∷ others) (Given records, mid, answers, stays, more) =
    let rest = taken_of mid new others more in
    (report ∷ rest.0, (stays, (records, mid, answers, rest.1)))
