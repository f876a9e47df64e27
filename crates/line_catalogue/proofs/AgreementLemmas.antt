-- A history that agrees, as it grows by an event.
use Rattle.std.proofs.Common.{◌≡◌, ◌≢◌, ℕ, ◌<◌, ◌≤◌, List, [], ◌∷◌, ◌++◌, length, get_or, ◌⊎◌, inl}
use Rattle.std.proofs.Common.{inr, Option, Some, None, refl, sym, ap, ◌∙◌, subst, arith}
use Rattle.std.specs.List.{All, cons_option, slice_get}
use Rattle.std.specs.Prelude.{replicate}
use Rattle.std.proofs.lemmas.Bool.{cases_eq, cases_lt}
use Rattle.std.proofs.lemmas.List.{length_push, get_or_push, get_or-set_same, get_or-set_other}
use Rattle.std.proofs.lemmas.List.{append-nil}
use Rattle.std.proofs.lemmas.List.Elements.{All-nil, All-push, All-weaker, filter_map-append}
use Rattle.std.proofs.lemmas.Option.{slice_get-get_or, same_Some, none-some}
use Rattle.line_names.specs.declared.messages.MsgName.{MsgName}
use Rattle.line_tape.specs.declared.events.Event.{Event}
use Rattle.line_tape.specs.declared.events.Event.TheVariants.{Send, Recv, Check, Mark}
use Rattle.line_tape.specs.Event.{incarnation_of, incarnations_sent, sends, Holds}
use Rattle.line_tape.specs.History.{Process, fresh, process_at, tape_at, incarnation_at, with_event}
use Rattle.line_tape.proofs.FrontLemmas.{slice_get-append_left}
use Rattle.line_tape.proofs.LineLemmas.{tape_at-past}
use Rattle.line_catalogue.specs.Agreement.{NameAgrees, EventAgrees, Agrees, IsSentAsNow}
use Rattle.line_tape.proofs.EventLemmas.{tape_start}

-- a name that agrees with a process
abbrev pub ProcessAgrees : Process → ℕ → ℕ → Type 0
ProcessAgrees process inc number =
    Holds process.tape inc number ⊎ ((sends process.tape ≤ number) × (inc ≡ process.incarnation))

-- one send more, if there is one, which has the present incarnation
sent-more : (sent : List ℕ) (more : Option ℕ) (inc number present : ℕ)
    → ((i : ℕ) → more ≡ Some i → i ≡ present)
    → (slice_get sent number ≡ Some inc) ⊎ ((length sent ≤ number) × (inc ≡ present))
    → (slice_get (sent ++ cons_option more []) number ≡ Some inc)
    ⊎ ((length (sent ++ cons_option more []) ≤ number) × (inc ≡ present))
sent-more sent None inc number present now agrees =
    subst (λ (xs : List ℕ). (slice_get xs number ≡ Some inc)
    ⊎ ((length xs ≤ number) × (inc ≡ present))) (sym (append-nil sent)) agrees
sent-more sent (Some i) inc number present now (inl held) =
    inl (slice_get-append_left sent (i ∷ []) number inc held)
sent-more sent (Some i) inc number present now (inr (past, is)) =
    elim (cases_lt (length sent) number) [
      | inl behind ↦ inr (omega (arith, length_push sent i), is)
      | inr here ↦
          let at : length sent ≡ number = omega arith in
          let read : slice_get (sent ++ i ∷ []) number ≡ Some (get_or (sent ++ i ∷ []) number i) =
          slice_get-get_or (sent ++ i ∷ []) number i (omega (arith, length_push sent i)) in
          inl (read ∙ ap Some (get_or_push sent i i number at ∙ now i refl ∙ sym is))
    ]

-- the sends of a tape with one more event
sent-push : (tape : List Event) (event : Event) → incarnations_sent (tape ++ event ∷ [])
    ≡ incarnations_sent tape ++ cons_option (incarnation_of event) []
sent-push tape event = filter_map-append incarnation_of tape (event ∷ [])

-- a process with one more event
abbrev pub grown : Process → Event → Process
grown process event = record process { tape = process.tape ++ event ∷ [] }

-- a name that agrees goes on to do so
grown-agrees : (process : Process) (event : Event) (inc number : ℕ)
    → ((i : ℕ) → incarnation_of event ≡ Some i → i ≡ process.incarnation)
    → ProcessAgrees process inc number → ProcessAgrees (grown process event) inc number
grown-agrees process event inc number now agrees =
    subst (λ (xs : List ℕ). (slice_get xs number ≡ Some inc)
    ⊎ ((length xs ≤ number) × (inc ≡ process.incarnation))) (sym (sent-push process.tape event))
    (sent-more (incarnations_sent process.tape)
    (incarnation_of event) inc number process.incarnation now agrees)

-- and did so before an event that is no send
agreed-before : (process : Process) (event : Event) (inc number : ℕ) → incarnation_of event ≡ None
    → ProcessAgrees (grown process event) inc number → ProcessAgrees process inc number
agreed-before process event inc number none agrees =
    let same : incarnations_sent (process.tape ++ event ∷ [])
    ≡ incarnations_sent process.tape = sent-push process.tape event ∙ ap
    (λ (o : Option ℕ). incarnations_sent process.tape ++ cons_option o []) none ∙ append-nil
    (incarnations_sent process.tape) in
    subst (λ (xs : List ℕ). (slice_get xs number ≡ Some inc)
    ⊎ ((length xs ≤ number) × (inc ≡ process.incarnation))) same agrees

-- a send as now has the present incarnation
sent-as_now : (history : List Process) (p : ℕ) (event : Event) → IsSentAsNow history p event
    → (i : ℕ) → incarnation_of event ≡ Some i → i ≡ incarnation_at history p
sent-as_now history p (Send to inc body) now i e = sym (same_Some _ _ e) ∙ now
sent-as_now history p (Recv message) now i e = absurd (none-some i e)
sent-as_now history p (Check state round) now i e = absurd (none-some i e)
sent-as_now history p (Mark from round) now i e = absurd (none-some i e)

module _ (history : List Process) (p : ℕ) (event : Event) (within : p < length history) where
  -- the process that the event came to
  pub process-here : (q : ℕ) → q ≡ p
      → process_at (with_event history p event) q ≡ grown (process_at history q) event
  process-here q here =
      subst (λ (v : ℕ). process_at (with_event history p event) v
      ≡ grown (process_at history v) event) (sym here)
      (get_or-set_same history p (grown (process_at history p) event) fresh within)

  -- the other ones
  pub process-other : (q : ℕ) → q ≢ p
      → process_at (with_event history p event) q ≡ process_at history q
  process-other q apart =
      get_or-set_other history p q (grown (process_at history p) event) fresh apart

  -- the tape that it came to
  pub tape-here : (q : ℕ) → q ≡ p
      → tape_at (with_event history p event) q ≡ tape_at history q ++ event ∷ []
  tape-here q here = ap (λ (process : Process). process.tape) (process-here q here)

  -- the other ones
  pub tape-other : (q : ℕ) → q ≢ p → tape_at (with_event history p event) q ≡ tape_at history q
  tape-other q apart = ap (λ (process : Process). process.tape) (process-other q apart)

  -- a name that agrees goes on to do so
  pub NameAgrees-more : IsSentAsNow history p event → (message : MsgName)
      → NameAgrees history message → NameAgrees (with_event history p event) message
  NameAgrees-more now message agrees = elim (cases_eq message.from p) [
    | inl here ↦
        let present : (i : ℕ) → incarnation_of event ≡ Some i
        → i ≡ (process_at history message.from).incarnation =
        λ i e. sent-as_now history p event now i e ∙ ap (incarnation_at history) (sym here) in
        subst (λ (process : Process). ProcessAgrees process message.inc message.number)
        (sym (process-here message.from here)) (grown-agrees
        (process_at history message.from) event message.inc message.number present agrees)
    | inr apart ↦ subst (λ (process : Process). ProcessAgrees process message.inc message.number)
        (sym (process-other message.from apart)) agrees
  ]

  -- and did so before an event that is no send
  pub NameAgrees-before : incarnation_of event ≡ None → (message : MsgName)
      → NameAgrees (with_event history p event) message → NameAgrees history message
  NameAgrees-before none message agrees = elim (cases_eq message.from p) [
    | inl here ↦ agreed-before
        (process_at history message.from) event message.inc message.number none
        (subst (λ (process : Process). ProcessAgrees process message.inc message.number)
        (process-here message.from here) agrees)
    | inr apart ↦ subst (λ (process : Process). ProcessAgrees process message.inc message.number)
        (process-other message.from apart) agrees
  ]

  -- so do the events
  EventAgrees-more : IsSentAsNow history p event → (e : Event) → EventAgrees history e
      → EventAgrees (with_event history p event) e
  EventAgrees-more now (Send to inc body) agrees = tt
  EventAgrees-more now (Recv message) agrees = NameAgrees-more now message agrees
  EventAgrees-more now (Check state round) agrees = tt
  EventAgrees-more now (Mark from round) agrees = tt

  -- an agreeing history does so with an event that agrees with it
  pub Agrees-more : IsSentAsNow history p event → EventAgrees history event → Agrees history
      → Agrees (with_event history p event)
  Agrees-more now new agrees = record {
    each = λ q.
        let before : All (EventAgrees (with_event history p event)) (tape_at history q) = All-weaker
        (EventAgrees history) (EventAgrees (with_event history p event)) (EventAgrees-more now)
        (tape_at history q) (agrees.each q) in
        elim (cases_eq q p) [
          | inl here ↦ subst (All (EventAgrees (with_event history p event)))
              (sym (tape-here q here)) (All-push (EventAgrees (with_event history p event))
              (tape_at history q) event before (EventAgrees-more now event new))
          | inr apart ↦ subst (All (EventAgrees (with_event history p event)))
              (sym (tape-other q apart)) before
        ];
  }

  -- the event agrees with a history that agrees with it
  pub Agrees-last : Agrees (with_event history p event)
      → EventAgrees (with_event history p event) event
  Agrees-last agrees =
      let all : All (EventAgrees (with_event history p event))
      (tape_at history p ++ event ∷ []) = subst (All (EventAgrees (with_event history p event)))
      (tape-here p refl) (agrees.each p) in
      let last : get_or (tape_at history p ++ event ∷ []) (length (tape_at history p)) event
      ≡ event = get_or_push (tape_at history p) event event (length (tape_at history p)) refl in
      subst (EventAgrees (with_event history p event)) last (all (length (tape_at history p)) event
      (omega (arith, length_push (tape_at history p) event)))

-- it is enough to look at the processes that there are
pub Agrees-below : (history : List Process) →
    ((q : ℕ) → q < length history → All (EventAgrees history) (tape_at history q)) → Agrees history
Agrees-below history below = record {
  each = λ q. elim (cases_lt q (length history)) [
    | inl within ↦ below q within
    | inr past ↦ subst (All (EventAgrees history)) (sym (tape_at-past history q past))
        (All-nil (EventAgrees history))
  ];
}

-- processes that have done nothing agree: their tapes are empty
pub Agrees-fresh : (n : ℕ) → Agrees (replicate n fresh)
Agrees-fresh n = record {
  each = λ q. subst (All (EventAgrees (replicate n fresh))) (sym (tape_start n q))
      (All-nil (EventAgrees (replicate n fresh)));
}
