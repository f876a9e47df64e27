-- One event more.
use Rattle.std.proofs.Common.{◌≡◌, ◌+◌, ◌<◌, ℕ, List, Some, length, drop, sym, ap, ◌∙◌, subst}
use Rattle.std.proofs.Common.{arith, inl, inr}
use Rattle.std.specs.List.{Contains, slice_get}
use Rattle.std.proofs.lemmas.Bool.{cases_lt}
use Rattle.std.proofs.lemmas.List.{get_or-drop, length-drop}
use Rattle.std.proofs.lemmas.Option.{same_Some, slice_get-get_or}
use Rattle.line_tape.specs.declared.events.Event.{Event}
use Rattle.line_tape.specs.declared.events.Event.TheVariants.{Recv}
use Rattle.line_tape.specs.Front.{front}
use Rattle.line_tape.specs.History.{Process, tape_at}
use Rattle.line_tape.specs.Line.{events_before}
use Rattle.line_catalogue.proofs.olds.note_receipts.Goals as goal

pub loop-i-preserved : goal.loop-i-preserved
loop-i-preserved c = record {
  kept = λ p member. c.note_receipt.ensures.kept p (c.loop-i.invariant.kept p member);
  noted = λ j m up low is old. elim (cases_lt j c.loop-i.i) [
    | inl earlier ↦ c.note_receipt.ensures.kept m.from
        (c.loop-i.invariant.noted j m up earlier is old)
    | inr here ↦
        let same : j ≡ c.loop-i.i = omega (arith, low, here) in
        c.note_receipt.ensures.noted m
        (same_Some _ _ (sym c.at-in-loop-i.ensures ∙ ap (slice_get c.front-events.result)
        (sym same) ∙ is)) old
  ];
}

pub returns-clause-noted : goal.returns-clause-noted
returns-clause-noted c = λ m among old.
    let history : List Process = c.args.history.now.processes in
    let events : List Event = c.front-events.result in
    let kept : ℕ = c.args.receiver.place in
    let fronts : events
    ≡ events_before history c.args.line.now c.args.receiver.p = c.front-events.ensures ∙ ap
    (λ (es : List Event). front es c.at.result) c.tape.ensures.events ∙ ap
    (front (tape_at history c.args.receiver.p)) c.at.ensures in
    let own : Contains (drop kept events) (Recv m) = subst
    (λ (es : List Event). Contains (drop kept es) (Recv m)) (sym fronts) among in
    let j : ℕ = kept + own.0 in
    let within : j < length events = omega (arith, own.1, length-drop kept events) in
    let at : slice_get events j ≡ Some (Recv m) = slice_get-get_or events j (Recv m) within ∙ ap
    Some (sym (get_or-drop kept events own.0 (Recv m)) ∙ own.2) in
    c.loop-i.invariant.noted j m (omega arith) (omega (arith, within)) at old
