-- What refuses an event, and when a message is misnamed.
use Rattle.std.proofs.Common.{◌≡◌, ◌≢◌, ℕ, ◌<◌, Bool, true, false, cond, List, length, inl, inr}
use Rattle.std.proofs.Common.{Some, None, refl, sym, ap, ◌∙◌}
use Rattle.std.specs.Prelude.{not, nat_lt}
use Rattle.std.proofs.lemmas.Bool.{cases_lt, eq-eqb, ne_eqb, le-ltb, lt-ltb, false≢true}
use Rattle.std.proofs.lemmas.List.{get_or_past}
use Rattle.std.proofs.lemmas.Option.{slice_get-get_or, slice_get_within, same_Some}
use Rattle.line_catalogue.specs.Agreement.{Agrees, AgreesNext, EventAgrees, IsSentAsNow, NameAgrees}
use Rattle.line_catalogue.proofs.AgreementLemmas.{Agrees-last, Agrees-more, NameAgrees-before}
use Rattle.line_names.specs.declared.messages.MsgName.{MsgName}
use Rattle.line_tape.specs.declared.events.Event.{Event}
use Rattle.line_tape.specs.declared.events.Event.TheVariants.{Send, Recv, Check, Mark}
use Rattle.line_tape.specs.declared.limits.TheConstants.{MOST_EVENTS, MOST_STATE}
use Rattle.line_tape.specs.Event.{HasLongState, incarnations_sent}
use Rattle.line_tape.specs.History.{Process, incarnation_at, tape_at}
use Rattle.line_collect.specs.declared.refusals.CollectError.TheVariants as errors
use Rattle.line_collect.specs.Refusals.{incarnation_to_send, is_misnamed, is_tape_full}
use Rattle.line_collect.specs.Refusals.{report_error_code}
use Rattle.line_collect.specs.Writing.{refusal_of_event}

-- a message that agrees has the incarnation under which its sender sends it
agreed_to_send : (history : List Process) (m : MsgName) → NameAgrees history m
    → m.inc ≡ incarnation_to_send history m.from m.number
agreed_to_send history m (inl held) =
    let sent : List ℕ = incarnations_sent (tape_at history m.from) in
    let within : m.number < length sent = slice_get_within sent m.number m.inc held in
    same_Some _ _ (sym held ∙ slice_get-get_or sent m.number (incarnation_at history m.from) within)
agreed_to_send history m (inr (past, is)) = is ∙ sym (get_or_past
    (incarnations_sent (tape_at history m.from)) m.number (incarnation_at history m.from) past)

pub to_send_agrees : (history : List Process) (m : MsgName)
    → m.inc ≡ incarnation_to_send history m.from m.number → NameAgrees history m
to_send_agrees history m is =
    let sent : List ℕ = incarnations_sent (tape_at history m.from) in
    elim (cases_lt m.number (length sent)) [
      | inl within ↦ inl
          (slice_get-get_or sent m.number (incarnation_at history m.from) within ∙ ap Some (sym is))
      | inr past ↦ inr (past, is ∙ get_or_past sent m.number (incarnation_at history m.from) past)
    ]

-- a state that is not long
short_state : (state : List ℕ) → (MOST_STATE < length state → ⊥)
    → nat_lt MOST_STATE (length state) ≡ false
short_state state short = le-ltb MOST_STATE (length state)
    (elim (cases_lt MOST_STATE (length state)) [ inl more ↦ absurd (short more) | inr le ↦ le ])

module _ (history : List Process) (p : ℕ) (within : p < length history)
    (agrees : Agrees history) where
  -- what agrees with the history may come next
  next_agrees : (event : Event) → IsSentAsNow history p event → EventAgrees history event
      → AgreesNext history p event
  next_agrees event now new =
      record { agrees = Agrees-more history p event within now new agrees; present = now }

  -- a receipt that may come next is not misnamed
  named : (m : MsgName) → AgreesNext history p (Recv m) → is_misnamed history m ≡ false
  named m next =
      let own : NameAgrees history m = NameAgrees-before history p (Recv m) within refl m
      (Agrees-last history p (Recv m) within next.agrees) in
      ap not (eq-eqb m.inc (incarnation_to_send history m.from m.number)
      (agreed_to_send history m own))

  misnamed : (m : MsgName) → (AgreesNext history p (Recv m) → ⊥) → is_misnamed history m ≡ true
  misnamed m none = ap not (ne_eqb m.inc (incarnation_to_send history m.from m.number)
      (λ same. none (next_agrees (Recv m) tt (to_send_agrees history m same))))

  -- nor is one that it cannot be that it may not
  not_misnamed : (m : MsgName) → ((AgreesNext history p (Recv m) → ⊥) → ⊥) → (b : Bool)
      → is_misnamed history m ≡ b → is_misnamed history m ≡ false
  not_misnamed m allowed false e = e
  not_misnamed m allowed true e = absurd (allowed (λ next. false≢true (sym (named m next) ∙ e)))

  -- where a tape has room, and what comes is short and may come, nothing refuses it
  pub unrefused_event : (event : Event) → (HasLongState event → ⊥) → length (tape_at history p) ≢
      MOST_EVENTS → ((AgreesNext history p event → ⊥) → ⊥) → refusal_of_event history p event ≡ None
  unrefused_event (Send to inc body) short room next =
      ap (λ b. cond b (Some 3) None) (ne_eqb _ _ room)
  unrefused_event (Recv m) short room next = ap
      (λ b. cond b (Some 3) (cond (is_misnamed history m) (Some 38) None)) (ne_eqb _ _ room) ∙ ap
      (λ b. cond b (Some 38) None) (not_misnamed m next (is_misnamed history m) refl)
  unrefused_event (Check state round) short room next = ap
      (λ b. cond b (Some 5) (cond (is_tape_full history p) (Some 3) None))
      (short_state state short) ∙ ap (λ b. cond b (Some 3) None) (ne_eqb _ _ room)
  unrefused_event (Mark from round) short room next =
      ap (λ b. cond b (Some 3) None) (ne_eqb _ _ room)

  -- what is long is refused first
  pub long_event : (event : Event) → HasLongState event
      → refusal_of_event history p event ≡ Some (report_error_code errors.StateTooLong)
  long_event (Send to inc body) long = absurd long
  long_event (Recv m) long = absurd long
  long_event (Check state round) long = ap (λ b. cond b (Some 5)
      (cond (is_tape_full history p) (Some 3) None)) (lt-ltb MOST_STATE (length state) long)
  long_event (Mark from round) long = absurd long

  -- then what comes to a full tape
  pub full_event : (event : Event) → (HasLongState event → ⊥) → length (tape_at history p)
      ≡ MOST_EVENTS → refusal_of_event history p event ≡ Some (report_error_code errors.TapeFull)
  full_event (Send to inc body) short full = ap (λ b. cond b (Some 3) None) (eq-eqb _ _ full)
  full_event (Recv m) short full =
      ap (λ b. cond b (Some 3) (cond (is_misnamed history m) (Some 38) None)) (eq-eqb _ _ full)
  full_event (Check state round) short full = ap
      (λ b. cond b (Some 5) (cond (is_tape_full history p) (Some 3) None))
      (short_state state short) ∙ ap (λ b. cond b (Some 3) None) (eq-eqb _ _ full)
  full_event (Mark from round) short full = ap (λ b. cond b (Some 3) None) (eq-eqb _ _ full)

  -- then what is misnamed
  pub misnamed_event : (event : Event) → (HasLongState event → ⊥)
      → length (tape_at history p) ≢ MOST_EVENTS → IsSentAsNow history p event
      → (AgreesNext history p event → ⊥)
      → refusal_of_event history p event ≡ Some (report_error_code errors.NamesDisagree)
  misnamed_event (Send to inc body) short room now none =
      absurd (none (next_agrees (Send to inc body) now tt))
  misnamed_event (Recv m) short room now none = ap (λ b. cond b (Some 3) (cond (is_misnamed history
      m) (Some 38) None)) (ne_eqb _ _ room) ∙ ap (λ b. cond b (Some 38) None) (misnamed m none)
  misnamed_event (Check state round) short room now none =
      absurd (none (next_agrees (Check state round) tt tt))
  misnamed_event (Mark from round) short room now none =
      absurd (none (next_agrees (Mark from round) tt tt))
