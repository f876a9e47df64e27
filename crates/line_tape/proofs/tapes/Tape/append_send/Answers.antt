-- The rows of the checks stay, and an incarnation and an addressee come.
use Rattle.std.proofs.Common.{◌≡◌, ◌<◌, ◌≤◌, ◌-◌, ◌++◌, ◌∷◌, [], List, length, refl, sym, ap, ◌∙◌}
use Rattle.std.proofs.Common.{subst, arith}
use Rattle.std.specs.Prelude.{min}
use Rattle.line_tape.specs.declared.events.Event.{Event}
use Rattle.line_tape.specs.declared.events.Event.TheVariants.{Send}
use Rattle.line_tape.specs.declared.limits.TheConstants.{MOST_EVENTS}
use Rattle.line_tape.specs.History.{IsTape}
use Rattle.line_tape.specs.Kept.{AreCheckRows, AreSettled}
use Rattle.line_tape.specs.Transit.{names_received, received_name}
use Rattle.line_tape.specs.Views.{TapeView}
use Rattle.line_tape.proofs.IndexLemmas.{AreSettled-push, IsTape-push, counted-push, lower}
use Rattle.line_tape.proofs.IndexLemmas.{room_left}
use Rattle.line_tape.proofs.RowLemmas.{AreRows-send, told-none}
use Rattle.line_tape.proofs.tapes.Tape.append_send.Goals as goal
use Rattle.line_tape.proofs.tapes.Tape.append_send.Goals.{then-beside, else-beside}

pub invariant_of-self : goal.invariant_of-self
invariant_of-self c =
    let items : List Event = c.self.inside.log.events in
    let event : Event = Send c.args.to c.args.inc c.args.body.now in
    let seen : items ≡ c.args.self.now.events = ap (λ (t : TapeView). t.events) c.self.view_is in
    let few : length items < MOST_EVENTS = omega
    (arith, ap (λ (xs : List Event). length xs) seen, c.requires.few) in
    let pushed : c.append_send-beside.new.self.events
    ≡ items ++ event ∷ [] = c.append_send-beside.ensures.events in
    let sent : c.push_reserved.new.self.items
    ≡ c.self.inside.incarnations.items ++ c.args.inc ∷ [] = c.push_reserved.ensures.items in
    let named : c.push_reserved-2.new.self.items
    ≡ c.self.inside.addressees.items ++ c.args.to ∷ [] = c.push_reserved-2.ensures.items in
    let checked : AreCheckRows
    (items ++ event ∷ []) c.self.inside.checks.items c.push_reserved.new.self.items
    c.push_reserved-2.new.self.items = rw (sent, named)
    (AreRows-send items event c.self.inside.checks.items c.self.inside.incarnations.items
    c.self.inside.addressees.items c.args.inc c.args.to refl refl refl c.self.invariant.checked)
    in
    let left : (c.if-beside.spare ≤ c.self.inside.spare - 1)
    × (min 1 c.if-beside.spare ≤ c.append_send-beside.new.self.bodies) = elim c.if-beside.branch [
      | then-beside w ↦ (
        omega arith,
        omega (
          arith,
          c.append_send-beside.ensures.further.0
              w.if-beside.true,
        ),
      )
      | else-beside w ↦ (omega arith, omega arith)
    ] in
    record {
      tape = subst IsTape (sym pushed)
          (IsTape-push items event few c.requires.short c.self.invariant.tape);
      checked = subst (λ (xs : List Event). AreCheckRows xs c.self.inside.checks.items
          c.push_reserved.new.self.items c.push_reserved-2.new.self.items) (sym pushed) (checked);
      received = c.self.invariant.received ∙ sym
          (told-none received_name items event refl) ∙ ap names_received (sym pushed);
      unchanged = subst (λ (xs : List Event). AreSettled xs c.self.inside.settled) (sym pushed)
          (AreSettled-push items event c.self.inside.settled c.self.invariant.unchanged);
      counted = lower _ _ _ left.0
          (counted-push _ _ _ _ _ _ _ _ _ c.self.invariant.counted c.append_send-beside.ensures.room
          (omega arith)
          (room_left _ _ _ _ (omega arith, omega (arith, c.push_reserved.ensures.len)))
          (room_left _ _ _ _ (omega arith, omega (arith, c.push_reserved-2.ensures.len))));
      one_more = omega
          (arith, c.self.invariant.one_more, c.append_send-beside.ensures.states, left.0, left.1);
    }
