-- One event more.
use Rattle.std.proofs.Common.{◌≡◌, ◌+◌, ◌<◌, ℕ, List, Some, length, drop, sym, ap, ◌∙◌, subst}
use Rattle.std.proofs.Common.{arith, inl, inr}
use Rattle.std.specs.List.{Contains, slice_get}
use Rattle.std.proofs.lemmas.Bool.{cases_lt}
use Rattle.std.proofs.lemmas.List.{get_or-drop, length-drop}
use Rattle.std.proofs.lemmas.Option.{same_Some, slice_get-get_or}
use Rattle.line_tape.specs.declared.events.Event.{Event}
use Rattle.line_tape.specs.Front.{front}
use Rattle.line_tape.specs.History.{Process, tape_at}
use Rattle.line_tape.specs.Line.{events_before}
use Rattle.line_tape.specs.Shown.{event_of_ref}
use Rattle.line_tape.proofs.ListLemmas.{contains_at}
use Rattle.line_catalogue.specs.Known.{IsReceiptMarked}
use Rattle.line_catalogue.proofs.KnownLemmas.{noted-more}
use Rattle.line_catalogue.proofs.known.mark_receipts.Goals as goal

pub loop-i-preserved : goal.loop-i-preserved
loop-i-preserved c =
    let history : List Process = c.args.history.now.processes in
    let bases : List ℕ = c.args.bases.now in
    let starts : List ℕ = c.args.starts.now in
    let event : Event = event_of_ref c.at-in-loop-i.result in
    let fronts : c.front-events.result
    ≡ events_before history c.args.line.now c.args.receiver.p = c.front-events.ensures ∙ ap
    (λ (es : List Event). front es c.at.result) c.tape.ensures.events ∙ ap
    (front (tape_at history c.args.receiver.p)) c.at.ensures in
    let among : Contains (events_before history c.args.line.now c.args.receiver.p) event = subst
    (λ (es : List Event). Contains es event) fronts
    (contains_at c.front-events.result c.loop-i.i event c.at-in-loop-i.ensures) in
    record {
      known = λ known. c.mark_receipt.ensures.known c.args.line.now among
          (c.loop-i.invariant.known known);
      kept = λ i marked. c.mark_receipt.ensures.kept i (c.loop-i.invariant.kept i marked);
      noted = λ j e up low is. elim (cases_lt j c.loop-i.i) [
        | inl earlier ↦ noted-more history bases starts c.loop-i.marks c.mark_receipt.new.marks
            c.args.receiver.p e c.mark_receipt.ensures.kept
            (c.loop-i.invariant.noted j e up earlier is)
        | inr here ↦
            let same : j ≡ c.loop-i.i = omega (arith, low, here) in
            let one : event ≡ e = same_Some _ _ (sym c.at-in-loop-i.ensures ∙ ap
            (slice_get c.front-events.result) (sym same) ∙ is) in
            subst (IsReceiptMarked history bases starts c.mark_receipt.new.marks c.args.receiver.p)
            one c.mark_receipt.ensures.noted
      ];
    }

pub returns-clause-noted : goal.returns-clause-noted
returns-clause-noted c = λ e among.
    let history : List Process = c.args.history.now.processes in
    let events : List Event = c.front-events.result in
    let kept : ℕ = c.args.receiver.place in
    let fronts : events
    ≡ events_before history c.args.line.now c.args.receiver.p = c.front-events.ensures ∙ ap
    (λ (es : List Event). front es c.at.result) c.tape.ensures.events ∙ ap
    (front (tape_at history c.args.receiver.p)) c.at.ensures in
    let own : Contains (drop kept events) e = subst (λ (es : List Event). Contains (drop kept es) e)
    (sym fronts) among in
    let j : ℕ = kept + own.0 in
    let within : j < length events = omega (arith, own.1, length-drop kept events) in
    let at : slice_get events j ≡ Some e = slice_get-get_or events j e within ∙ ap Some
    (sym (get_or-drop kept events own.0 e) ∙ own.2) in
    c.loop-i.invariant.noted j e (omega arith) (omega (arith, within)) at
