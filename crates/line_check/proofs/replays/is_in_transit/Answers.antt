-- A message that is sent before the line is in transit where its addressee has not received it.
use Rattle.std.proofs.Common.{◌≡◌, ℕ, Bool, true, false, Some, sym, ap, ◌∙◌, subst, inl, inr}
use Rattle.std.specs.Prelude.{not}
use Rattle.std.specs.List.{Contains}
use Rattle.std.proofs.lemmas.Bool.{cases_Bool, false≢true}
use Rattle.std.proofs.lemmas.Option.{same_Some}
use Rattle.line_tape.specs.declared.events.Event.TheVariants.{Recv}
use Rattle.line_tape.specs.Line.{events_before}
use Rattle.line_tape.specs.Transit.{addressee}
use Rattle.line_tape.proofs.TransitLemmas.{has_received-iff}
use Rattle.line_check.proofs.replays.is_in_transit.Goals as goal

not-both : (b : Bool) → not b ≡ true → b ≡ true → ⊥
not-both true h k = false≢true h
not-both false h k = false≢true k

pub returns-in-Some : goal.returns-in-Some
returns-in-Some c =
    let to_is : addressee c.args.history.now.processes c.args.message.now
    ≡ Some c.in-Some.to = sym c.addressee.ensures ∙ c.in-Some.is in
    let iff = has_received-iff (events_before c.args.history.now.processes c.args.line.now
    c.in-Some.to) c.args.message.now in (
      λ h. record {
        sent = c.is_sent_before.ensures.0 c.if-not-is_sent_before.false;
        unreceived = λ q q_is received.
            let same : q ≡ c.in-Some.to = same_Some _ _ (sym q_is ∙ to_is) in
            let there : Contains
            (events_before c.args.history.now.processes c.args.line.now c.in-Some.to)
            (Recv c.args.message.now) = subst
            (λ (to : ℕ). Contains (events_before c.args.history.now.processes c.args.line.now
            to) (Recv c.args.message.now)) same received in
            not-both c.is_received.result h (c.is_received.ensures ∙ iff.1 there);
      },
      λ transit. elim (cases_Bool c.is_received.result) [
        | inl e ↦ absurd
            (transit.unreceived c.in-Some.to to_is (iff.0 (sym c.is_received.ensures ∙ e)))
        | inr e ↦ ap not e
      ],
    )
