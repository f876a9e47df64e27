-- The receipt is noted, and all else stays.
use Rattle.std.proofs.Common.{◌≡◌, ◌<◌, ◌≤◌, ◌-◌, ◌++◌, ◌∷◌, [], List, length, refl, sym, ap, ◌∙◌}
use Rattle.std.proofs.Common.{subst, arith}
use Rattle.std.specs.Prelude.{min}
use Rattle.line_tape.specs.declared.events.Event.{Event}
use Rattle.line_tape.specs.declared.events.Event.TheVariants.{Recv}
use Rattle.line_tape.specs.declared.limits.TheConstants.{MOST_EVENTS}
use Rattle.line_names.specs.declared.messages.MsgName.{MsgName}
use Rattle.line_tape.specs.History.{IsTape}
use Rattle.line_tape.specs.Kept.{AreCheckRows, AreSettled}
use Rattle.line_tape.specs.Transit.{names_received, received_name}
use Rattle.line_tape.specs.Views.{TapeView}
use Rattle.line_tape.proofs.IndexLemmas.{AreSettled-push, IsTape-push, counted-push, lower}
use Rattle.line_tape.proofs.RowLemmas.{AreRows-other, receipts_le, told-some}
use Rattle.line_tape.proofs.tapes.Tape.append_receipt.Goals as goal
use Rattle.line_tape.proofs.tapes.Tape.append_receipt.Goals.{then-beside, else-beside}

pub note-requires-clause-few : goal.note-requires-clause-few
note-requires-clause-few c =
    let seen : c.self.inside.log.events
    ≡ c.args.self.now.events = ap (λ (t : TapeView). t.events) c.self.view_is in
    omega (
      arith,
      ap (λ (names : List MsgName). length names) c.self.invariant.received,
      receipts_le
          c.self.inside.log.events,
      ap (λ (xs : List Event). length xs) seen,
      c.requires.few,
    )

pub invariant_of-self : goal.invariant_of-self
invariant_of-self c =
    let items : List Event = c.self.inside.log.events in
    let event : Event = Recv c.args.message.now in
    let seen : items ≡ c.args.self.now.events = ap (λ (t : TapeView). t.events) c.self.view_is in
    let few : length items < MOST_EVENTS = omega
    (arith, ap (λ (xs : List Event). length xs) seen, c.requires.few) in
    let pushed : c.append_receipt.new.self.events
    ≡ items ++ event ∷ [] = c.append_receipt.ensures.events in
    let left : (c.if-beside.spare ≤ c.self.inside.spare - 1)
    × (min 1 c.if-beside.spare ≤ c.note.new.self.senders) = elim c.if-beside.branch [
      | then-beside w ↦ (
        omega arith,
        omega (
          arith,
          c.has_room_for_senders-beside.ensures.0
              w.if-beside.true,
        ),
      )
      | else-beside w ↦ (omega arith, omega arith)
    ] in
    record {
      tape = subst IsTape (sym pushed) (IsTape-push items event few tt c.self.invariant.tape);
      checked = subst
          (λ (xs : List Event). AreCheckRows xs c.self.inside.checks.items
          c.self.inside.incarnations.items c.self.inside.addressees.items) (sym pushed)
          (AreRows-other items event c.self.inside.checks.items c.self.inside.incarnations.items
          c.self.inside.addressees.items refl refl refl c.self.invariant.checked);
      received = c.note.ensures.names ∙ ap
          (λ (names : List MsgName). names ++ c.args.message.now ∷ []) c.self.invariant.received ∙
          sym (told-some received_name items event c.args.message.now refl) ∙ ap names_received
          (sym pushed);
      unchanged = subst (λ (xs : List Event). AreSettled xs c.self.inside.settled) (sym pushed)
          (AreSettled-push items event c.self.inside.settled c.self.invariant.unchanged);
      counted = lower _ _ _ left.0 (counted-push _ _ _ _ _ _ _ _ _ c.self.invariant.counted
          c.append_receipt.ensures.room c.note.ensures.room (omega arith) (omega arith));
      one_more = omega (
        arith,
        c.self.invariant.one_more,
        c.append_receipt.ensures.bodies,
        c.append_receipt.ensures.states,
        left.0,
        left.1,
      );
    }
