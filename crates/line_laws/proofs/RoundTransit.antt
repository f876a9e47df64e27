-- What is in transit depends on what stands before the line alone; and what is in transit at the
-- line of a round once its last check is in.
use Rattle.std.proofs.Common.{◌≡◌, ℕ, ◌<◌, false, not, List, [], ◌∷◌, ◌++◌, length, Some, refl, sym}
use Rattle.std.proofs.Common.{ap, ◌∙◌, arith, inl, inr}
use Rattle.std.specs.List.{filter, list_any}
use Rattle.std.proofs.lemmas.Bool.{eq-eqb, cases_eq}
use Rattle.std.proofs.lemmas.List.{append-nil, take_all, length-set}
use Rattle.std.proofs.lemmas.List.Elements.{filter_map-append}
use Rattle.line_names.specs.declared.messages.MsgName.{MsgName}
use Rattle.line_names.specs.declared.choices.Choice.{Choice}
use Rattle.line_names.specs.declared.choices.Choice.TheVariants.{Check as AtCheck, Now}
use Rattle.line_names.specs.Lines.{choice_at}
use Rattle.line_names.specs.Names.{is_name}
use Rattle.line_tape.specs.declared.events.Event.{Event}
use Rattle.line_tape.specs.declared.events.Event.TheVariants.{Check}
use Rattle.line_tape.specs.declared.items.Item.TheVariants.{Marker}
use Rattle.line_tape.specs.Fit.{items_sent}
use Rattle.line_tape.specs.Front.{front}
use Rattle.line_tape.specs.History.{Process, tape_at, with_event}
use Rattle.line_tape.specs.Line.{events_before}
use Rattle.line_tape.specs.Rounds.{has_check_of, check_index, round_line}
use Rattle.line_tape.specs.Transit.{has_received, received_name, names_received, in_transit_between}
use Rattle.line_laws.proofs.CompletionLemmas.{check_of_new}
use Rattle.line_laws.proofs.LinkLemmas.{between_is}
use Rattle.line_tape.proofs.EventLemmas.{tape_same, tape_other}
use Rattle.line_laws.proofs.RoundLemmas.{front_of_check, sent_check}
use Rattle.line_laws.proofs.RoundLines.{round_choice}
use Rattle.line_laws.proofs.SentLemmas.{messages, item_message}

module _ (a b : List Process) (la lb : List Choice) (p q : ℕ) where
  -- where the sender sends the same messages before both lines and the receiver receives the same,
  -- the same is in transit
  pub transit_alike : messages (items_sent p q 0 (events_before a la p))
      ≡ messages (items_sent p q 0 (events_before b lb p))
      → names_received (events_before a la q) ≡ names_received (events_before b lb q)
      → in_transit_between a la p q ≡ in_transit_between b lb p q
  transit_alike sends receives =
      between_is a la p q 0 (events_before a la p)
      ∙ ap (λ (names : List MsgName). filter (λ (m : MsgName). not (list_any (is_name m) names))
      (messages (items_sent p q 0 (events_before a la p)))) receives
      ∙ ap (filter (λ (m : MsgName). not (has_received (events_before b lb q) m))) sends
      ∙ sym (between_is b lb p q 0 (events_before b lb p))

  -- as where the same stands before both lines
  pub transit_by_fronts : events_before a la p ≡ events_before b lb p → events_before a la q
      ≡ events_before b lb q → in_transit_between a la p q ≡ in_transit_between b lb p q
  transit_by_fronts from to = transit_alike
      (ap (λ (es : List Event). messages (items_sent p q 0 es)) from) (ap names_received to)

-- a check of a round sends no message and receives none
pub check_sends_none : (p q : ℕ) (tape : List Event) (state : List ℕ) (r : ℕ) → messages
    (items_sent p q 0 (tape ++ Check state (Some r) ∷ [])) ≡ messages (items_sent p q 0 tape)
check_sends_none p q tape state r =
    ap messages (sent_check p q 0 tape state r) ∙ filter_map-append item_message
    (items_sent p q 0 tape) (Marker r ∷ []) ∙ append-nil (messages (items_sent p q 0 tape))

pub check_receives_none : (tape : List Event) (state : List ℕ) (r : ℕ)
    → names_received (tape ++ Check state (Some r) ∷ []) ≡ names_received tape
check_receives_none tape state r = filter_map-append received_name tape
    (Check state (Some r) ∷ []) ∙ append-nil (names_received tape)

module _ (history : List Process) (at : ℕ) (state : List ℕ) (r : ℕ) (line : List Choice)
    (h : at < length history) (none : has_check_of r (tape_at history at) ≡ false)
    (now : choice_at line at ≡ Now)
    (others : (q : ℕ) → q < length history → (q ≡ at → ⊥)
    → choice_at line q ≡ AtCheck (check_index r (tape_at history q))) where
  abbrev event : Event
  event = Check state (Some r)

  abbrev new : List Process
  new = with_event history at event

  within : (p : ℕ) → p < length history → p < length new
  within p l =
      let same : length new ≡ length history = length-set history at _ in omega (arith, l, same)

  -- before its new check stands the whole tape
  before_new : events_before new (round_line new r) at ≡ tape_at history at ++ event ∷ []
  before_new =
      let tape : List Event = tape_at history at in
      ap (front (tape_at new at)) (round_choice new r at (within at h))
      ∙ ap (λ (es : List Event). front es (AtCheck (check_index r es)))
      (tape_same history at event at h refl)
      ∙ ap (λ c. front (tape ++ event ∷ []) (AtCheck c))
      (check_of_new tape event r none (eq-eqb r r refl))
      ∙ front_of_check (tape ++ event ∷ []) tape [] state r refl

  before_now : events_before history line at ≡ tape_at history at
  before_now = ap (front (tape_at history at)) now ∙ take_all (length (tape_at history at))
      (tape_at history at) (omega arith)

  -- and before another check what stood there
  before_other : (q : ℕ) → q < length history → (q ≡ at → ⊥)
      → events_before new (round_line new r) q ≡ events_before history line q
  before_other q l other =
      ap (front (tape_at new q)) (round_choice new r q (within q l))
      ∙ ap (λ (es : List Event). front es (AtCheck (check_index r es)))
      (tape_other history at event q other)
      ∙ ap (front (tape_at history q)) (sym (others q l other))

  sends_alike : (p q : ℕ) → p < length history → messages (items_sent p q 0 (events_before new
      (round_line new r) p)) ≡ messages (items_sent p q 0 (events_before history line p))
  sends_alike p q l = elim (cases_eq p at) [
    | inl same ↦
        let sent : List Event → List MsgName = λ es. messages (items_sent p q 0 es) in
        ap (λ v. sent (events_before new (round_line new r) v)) same ∙ ap sent before_new ∙
        check_sends_none p q (tape_at history at) state r
        ∙ ap sent (sym before_now) ∙ ap (λ v. sent (events_before history line v)) (sym same)
    | inr other ↦ ap (λ (es : List Event). messages (items_sent p q 0 es)) (before_other p l other)
  ]

  receives_alike : (q : ℕ) → q < length history → names_received
      (events_before new (round_line new r) q) ≡ names_received (events_before history line q)
  receives_alike q l = elim (cases_eq q at) [
    | inl same ↦
        ap (λ v. names_received (events_before new (round_line new r) v)) same ∙ ap names_received
        before_new ∙ check_receives_none (tape_at history at) state r
        ∙ ap names_received (sym before_now) ∙ ap
        (λ v. names_received (events_before history line v)) (sym same)
    | inr other ↦ ap names_received (before_other q l other)
  ]

  -- what is in transit at the line of the round after the check is in transit now, its process
  -- standing where it is
  pub round_transit : (p q : ℕ) → p < length history → q < length history
      → in_transit_between (with_event history at (Check state (Some r))) (round_line (with_event
      history at (Check state (Some r))) r) p q ≡ in_transit_between history line p q
  round_transit p q lp lq = transit_alike new history (round_line new r) line p q
      (sends_alike p q lp) (receives_alike q lq)
