-- What is gathered of workers whose tapes fit, agrees.
use Rattle.std.proofs.Common.{◌≡◌, ◌∙◌, ◌++◌, ℕ, List, Some, sym, ap, inl, inr, subst}
use Rattle.std.specs.Prelude.{slice_get, Contains}
use Rattle.std.proofs.lemmas.Bool.{cases_lt}
use Rattle.std.proofs.lemmas.List.Elements.{filter_map-append, All-weaker, All-contains_itself}
use Rattle.std.proofs.lemmas.List.Elements.{Contains-append_left}
use Rattle.line_names.specs.declared.messages.MsgName.{MsgName}
use Rattle.line_tape.specs.declared.events.Event.{Event}
use Rattle.line_tape.specs.declared.events.Event.TheVariants.{Send, Recv, Check, Mark}
use Rattle.line_tape.specs.Event.{sends, incarnations_sent, incarnation_of, Holds}
use Rattle.line_tape.specs.Fit.{IsFitFifo}
use Rattle.line_tape.specs.History.{Process, tape_at}
use Rattle.line_tape.proofs.ListLemmas.{slice_get_front}
use Rattle.line_laws.proofs.OrderLemmas.{ordered_fit}
use Rattle.line_catalogue.specs.Agreement.{NameAgrees, EventAgrees, Agrees}
use Rattle.line_posts.specs.Gathering.{IsBetween}

name_agrees : (gathered own : List Process) → IsBetween gathered own → (m : MsgName)
    → Holds (tape_at own m.from) m.inc m.number → NameAgrees gathered m
name_agrees gathered own b m held =
    let p = m.from in
    let (lost, joins) = b.begins p in
    let is = sym joins in
    let joined : slice_get
    (incarnations_sent (tape_at gathered p) ++ incarnations_sent lost) m.number ≡ Some m.inc =
    ap (λ (t : List ℕ). slice_get t m.number) (sym (filter_map-append incarnation_of (tape_at
    gathered p) lost)) ∙ (ap (λ t. slice_get (incarnations_sent t) m.number) (sym is) ∙ held) in
    elim (cases_lt m.number (sends (tape_at gathered p))) [
      | inl lt ↦ inl (slice_get_front (incarnations_sent (tape_at gathered p))
          (incarnations_sent lost) m.number m.inc lt joined)
      | inr ge ↦ inr (ge, b.present p m.number m.inc ge held ∙ sym (b.incarnation p))
    ]

event_agrees : (gathered own : List Process) → IsFitFifo own → IsBetween gathered own
    → (q : ℕ) (e : Event) → Contains (tape_at gathered q) e → EventAgrees gathered e
event_agrees gathered own fit b q (Send to inc body) here = tt
event_agrees gathered own fit b q (Recv m) here =
    let (lost, joins) = b.begins q in
    let is = sym joins in
    let there : Contains (tape_at own q) (Recv m) = subst (λ t. Contains t (Recv m)) (sym is)
    (Contains-append_left (tape_at gathered q) lost (Recv m) here) in
    name_agrees gathered own b m (((ordered_fit own fit).held q m there).held)
event_agrees gathered own fit b q (Check state round) here = tt
event_agrees gathered own fit b q (Mark from round) here = tt

pub gathered_agree : (gathered own : List Process) → IsFitFifo own → IsBetween gathered own
    → Agrees gathered
gathered_agree gathered own fit b = record {
  each = λ q. All-weaker (Contains (tape_at gathered q)) (EventAgrees gathered) (event_agrees
      gathered own fit b q) (tape_at gathered q) (All-contains_itself (tape_at gathered q));
}
