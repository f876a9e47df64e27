-- Which messages may be received before the next recovery: none that its sender's tape does not
-- hold, and that it cannot send still.
use Rattle.std.proofs.Common.{◌≡◌, ◌≢◌, ℕ, zero, suc, ◌<◌, ◌-◌, Bool, true, false, cond, List, []}
use Rattle.std.proofs.Common.{◌∷◌, ◌++◌, length, get_or, Option, Some, None, refl, sym, subst, ap}
use Rattle.std.proofs.Common.{◌∙◌, arith, inl, inr}
use Rattle.std.specs.Prelude.{◌==◌, ◌⊎◌, Contains}
use Rattle.std.specs.List.{cons_option}
use Rattle.std.proofs.lemmas.Bool.{cases_eq, cases_lt, eq-eqb, eqb-true, ne_eqb, not-false}
use Rattle.std.proofs.lemmas.List.{get_or_append_left, get_or-append_right, get_or_past}
use Rattle.std.proofs.lemmas.List.Elements.{filter_map-append}
use Rattle.line_fields.specs.Records.{Record}
use Rattle.line_names.specs.declared.messages.MsgName.{MsgName}
use Rattle.line_collect.specs.declared.reports.Report.{Report}
use Rattle.line_collect.specs.declared.reports.Report.TheVariants as reports
use Rattle.line_tape.specs.declared.events.Event.{Event}
use Rattle.line_tape.specs.declared.events.Event.TheVariants.{Send, Recv, Check, Mark}
use Rattle.line_tape.specs.Event.{Holds, incarnation_of, incarnations_sent}
use Rattle.line_tape.specs.History.{Process, incarnation_at, process_at, tape_at}
use Rattle.line_tape.proofs.CutLemmas.{cons_cases, contains_nothing}
use Rattle.line_collect.specs.Answers.{AnswersReport, Given}
use Rattle.line_collect.specs.Collections.{CollectionView}
use Rattle.line_collect.specs.Orders.{AnswersUntilRecovery, TakesAll, event_by, events_by}
use Rattle.line_collect.specs.Refusals.{incarnation_to_send, is_misnamed, is_stale, is_tape_full}
use Rattle.line_collect.specs.Refusals.{refusal_of_report}
use Rattle.line_collect.proofs.EventLemmas.{to_send_agrees}
use Rattle.line_collect.proofs.OrderLemmas.{all_grown, report_grown, taken_of, with_more, with_one}

-- a cause that does not refuse does not hold, nor do those after it
passed_over : (b : Bool) (code : ℕ) (rest : Option ℕ) → cond b (Some code) rest ≡ None
    → (b ≡ false) × (rest ≡ None)
passed_over true code rest unrefused = absurd (cc unrefused)
passed_over false code rest unrefused = (refl, unrefused)

-- what is not stale is of the present incarnation
of_present : (history : List Process) (p inc : ℕ) → is_stale history p inc ≡ false
    → inc ≡ incarnation_at history p
of_present history p inc present =
    eqb-true inc (incarnation_at history p) (not-false (inc == incarnation_at history p) present)

-- an event that a report tells is that one
told_is : (b : Bool) (event told : Event) → cond b (Some event) None ≡ Some told → event ≡ told
told_is true event told same = cc same
told_is false event told same = absurd (cc same)

no_other : (b : Bool) (event told : Event) → (event ≡ told → ⊥)
    → cond b (Some event) None ≡ Some told → ⊥
no_other b event told apart same = apart (told_is b event told same)

-- a send that is taken has the present incarnation of its process
sent_now : (old : CollectionView) (report : Report) (p : ℕ) → refusal_of_report old report ≡ None
    → (to inc : ℕ) (body : List ℕ) → event_by p report ≡ Some (Send to inc body)
    → inc ≡ incarnation_at old.history p
sent_now old (reports.Send by own there bytes) p unrefused to inc body same = elim (cases_eq by p) [
  | inl here ↦
      let first = passed_over (is_stale old.history by own) 47 _ unrefused in
      let is : Some (Send there own bytes) ≡ Some (Send to inc body) = ap
      (λ b. cond b (Some (Send there own bytes)) None) (sym (eq-eqb by p here)) ∙ same in
      let equal : inc ≡ own = cc is in
      equal ∙ of_present old.history by own first.0 ∙ ap (incarnation_at old.history) here
  | inr apart ↦
      let none : None ≡ Some (Send to inc body) = ap
      (λ b. cond b (Some (Send there own bytes)) None) (sym (ne_eqb by p apart)) ∙ same in
      absurd (cc none)
]
sent_now old (reports.Receive by own message) p unrefused to inc body same =
    absurd (no_other (by == p) (Recv message) (Send to inc body) (λ e. cc e) same)
sent_now old (reports.Check by own state round) p unrefused to inc body same =
    absurd (no_other (by == p) (Check state round) (Send to inc body) (λ e. cc e) same)
sent_now old (reports.Mark by own sender round) p unrefused to inc body same =
    absurd (no_other (by == p) (Mark sender round) (Send to inc body) (λ e. cc e) same)
sent_now old (reports.Damage by check) p unrefused to inc body same = absurd (cc same)
sent_now old (reports.Bar by check) p unrefused to inc body same = absurd (cc same)
sent_now old (reports.Plan failed) p unrefused to inc body same = absurd (cc same)
sent_now old reports.Live p unrefused to inc body same = absurd (cc same)
sent_now old (reports.Recover failed) p unrefused to inc body same = absurd (cc same)
sent_now old reports.Forget p unrefused to inc body same = absurd (cc same)
sent_now old reports.History p unrefused to inc body same = absurd (cc same)
sent_now old (reports.Bundle failed) p unrefused to inc body same = absurd (cc same)
sent_now old (reports.Refused code) p unrefused to inc body same = absurd (cc same)

-- where the first event, if there is one, is no send of another incarnation, nor are the others
one_reads : (present : ℕ) (one : Option Event) (more : List Event)
    → ((to inc : ℕ) (body : List ℕ) → one ≡ Some (Send to inc body) → inc ≡ present)
    → ((k : ℕ) → get_or (incarnations_sent more) k present ≡ present)
    → (k : ℕ) → get_or (incarnations_sent (cons_option one more)) k present ≡ present
one_reads present None more is rest k = rest k
one_reads present (Some (Send to inc body)) more is rest zero = is to inc body refl
one_reads present (Some (Send to inc body)) more is rest (suc k) = rest k
one_reads present (Some (Recv message)) more is rest k = rest k
one_reads present (Some (Check state round)) more is rest k = rest k
one_reads present (Some (Mark sender round)) more is rest k = rest k

same_incarnation : (process : Process) (one : Option Event)
    → (with_one process one).incarnation ≡ process.incarnation
same_incarnation process None = refl
same_incarnation process (Some event) = refl

-- each further send has the present incarnation
all_read : (old new : CollectionView) (these : List Report) (p present : ℕ) → TakesAll old these new
    → p < length old.history → incarnation_at old.history p ≡ present → (k : ℕ)
    → get_or (incarnations_sent (events_by p these)) k present ≡ present
all_read old new [] p present takes within is k = refl
all_read old new (report ∷ others) p present (stays, (records, mid, answers, more)) within is k =
    let grown = report_grown old mid report records stays answers.1 in
    let kept : incarnation_at mid.history p
    ≡ present = ap (λ (process : Process). process.incarnation) (grown.each p within) ∙
    same_incarnation (process_at old.history p) (event_by p report) ∙ is in
    one_reads present (event_by p report) (events_by p others)
    (λ to inc body same. sent_now old report p answers.0 to inc body same ∙ is)
    (all_read mid new others p present more (omega (arith, within, grown.count)) kept) k

-- under which incarnation a process sent a message of that number, or sends it, stays the same
pub names_stay : (old new : CollectionView) (these : List Report) (p : ℕ) → TakesAll old these new
    → p < length old.history → (k : ℕ)
    → incarnation_to_send new.history p k ≡ incarnation_to_send old.history p k
names_stay old new these p takes within k =
    let present : ℕ = incarnation_at old.history p in
    let before : List ℕ = incarnations_sent (tape_at old.history p) in
    let since : List ℕ = incarnations_sent (events_by p these) in
    let grown = all_grown old new these takes in
    let process_is : process_at new.history p
    ≡ with_more (process_at old.history p) (events_by p these) = grown.each p within in
    let reads : incarnation_to_send new.history p k ≡ get_or (before ++ since) k present =
    ap (λ (process : Process). get_or (incarnations_sent process.tape) k process.incarnation)
    process_is
    ∙ ap (λ (xs : List ℕ). get_or xs k present)
    (filter_map-append incarnation_of (tape_at old.history p) (events_by p these)) in
    elim (cases_lt k (length before)) [
      | inl early ↦ reads ∙ get_or_append_left before since present k early
      | inr late ↦
          reads ∙ get_or-append_right before since (length before) k present refl late ∙ all_read
          old new these p present takes within refl (k - length before)
          ∙ sym (get_or_past before k present late)
    ]

-- a message whose receipt is taken has the incarnation under which its sender sent it, or sends it
named_so : (old new : CollectionView) (by inc : ℕ) (message : MsgName) (records : List Record)
    → AnswersReport old (reports.Receive by inc message) (Given records) new
    → message.inc ≡ incarnation_to_send old.history message.from message.number
named_so old new by inc message records answers =
    let stale = passed_over (is_stale old.history by inc) 47 _ answers.0 in
    let full = passed_over (is_tape_full old.history by) 3 _ stale.1 in
    let misnamed = passed_over (is_misnamed old.history message) 38 _ full.1 in
    eqb-true message.inc (incarnation_to_send old.history message.from message.number) (not-false
    (message.inc == incarnation_to_send old.history message.from message.number) misnamed.0)

pub never_received : (old mid new : CollectionView) (these : List Report) (by inc : ℕ)
    (message : MsgName) (records : List Record) → message.from < length old.history
    → (Holds (tape_at old.history message.from) message.inc message.number → ⊥)
    → message.inc ≢ incarnation_at old.history message.from
    → AnswersUntilRecovery old these mid
    → AnswersReport mid (reports.Receive by inc message) (Given records) new → ⊥
never_received old mid new these by inc message records within unheld apart answers last =
    let taken = taken_of old mid these answers in
    let named = named_so mid new by inc message records last ∙ names_stay old mid taken.0
    message.from taken.1 within message.number in
    elim (to_send_agrees old.history message named)
    [ inl held ↦ unheld held | inr later ↦ apart later.1 ]

-- so has one whose receipt a report tells
told_receipt : (old new : CollectionView) (report : Report) (records : List Record) (q : ℕ)
    (message : MsgName) → AnswersReport old report (Given records) new
    → event_by q report ≡ Some (Recv message)
    → message.inc ≡ incarnation_to_send old.history message.from message.number
told_receipt old new (reports.Send by own to body) records q message answers same =
    absurd (no_other (by == q) (Send to own body) (Recv message) (λ e. cc e) same)
told_receipt old new (reports.Receive by own received) records q message answers same =
    let told : Recv received
    ≡ Recv message = told_is (by == q) (Recv received) (Recv message) same in
    let is : received ≡ message = cc told in
    subst (λ (m : MsgName). m.inc ≡ incarnation_to_send old.history m.from m.number) is
    (named_so old new by own received records answers)
told_receipt old new (reports.Check by own state round) records q message answers same =
    absurd (no_other (by == q) (Check state round) (Recv message) (λ e. cc e) same)
told_receipt old new (reports.Mark by own sender round) records q message answers same =
    absurd (no_other (by == q) (Mark sender round) (Recv message) (λ e. cc e) same)
told_receipt old new (reports.Damage by check) records q message answers same = absurd (cc same)
told_receipt old new (reports.Bar by check) records q message answers same = absurd (cc same)
told_receipt old new (reports.Plan failed) records q message answers same = absurd (cc same)
told_receipt old new reports.Live records q message answers same = absurd (cc same)
told_receipt old new (reports.Recover failed) records q message answers same = absurd (cc same)
told_receipt old new reports.Forget records q message answers same = absurd (cc same)
told_receipt old new reports.History records q message answers same = absurd (cc same)
told_receipt old new (reports.Bundle failed) records q message answers same = absurd (cc same)
told_receipt old new (reports.Refused code) records q message answers same = absurd (cc same)

first_or_later : (one : Option Event) (more : List Event) (event : Event)
    → Contains (cons_option one more) event → (one ≡ Some event) ⊎ Contains more event
first_or_later None more event c = inr c
first_or_later (Some first) more event c =
    elim (cons_cases first more event c) [ inl same ↦ inl (ap Some same) | inr later ↦ inr later ]

-- and one whose receipt one of several reports tells, as of before them
pub receipts_named : (old new : CollectionView) (these : List Report) (q : ℕ) (message : MsgName)
    → TakesAll old these new → message.from < length old.history
    → Contains (events_by q these) (Recv message)
    → message.inc ≡ incarnation_to_send old.history message.from message.number
receipts_named old new [] q message takes within c = absurd (contains_nothing (Recv message) c)
receipts_named old new (report ∷ others) q message (stays, (records, mid, answers, more)) within c =
    let grown = report_grown old mid report records stays answers.1 in
    elim (first_or_later (event_by q report) (events_by q others) (Recv message) c) [
      | inl told ↦ told_receipt old mid report records q message answers told
      | inr later ↦
          receipts_named mid new others q message more (omega (arith, within, grown.count)) later
          ∙ names_stay old mid (report ∷ []) message.from
          (stays, (records, mid, answers, refl)) within message.number
    ]
