-- The receipt of a marker leaves all else.
use Rattle.std.proofs.Common.{◌≡◌, ◌<◌, ◌++◌, ◌∷◌, [], List, length, refl, sym, ap, ◌∙◌, subst}
use Rattle.std.proofs.Common.{arith}
use Rattle.line_tape.specs.declared.events.Event.{Event}
use Rattle.line_tape.specs.declared.events.Event.TheVariants.{Mark}
use Rattle.line_tape.specs.declared.limits.TheConstants.{MOST_EVENTS}
use Rattle.line_tape.specs.History.{IsTape}
use Rattle.line_tape.specs.Kept.{AreCheckRows, AreSettled}
use Rattle.line_tape.specs.Transit.{names_received, received_name}
use Rattle.line_tape.specs.Views.{TapeView}
use Rattle.line_tape.proofs.IndexLemmas.{AreSettled-push, IsTape-push, counted-push}
use Rattle.line_tape.proofs.RowLemmas.{AreRows-other, told-none}
use Rattle.line_tape.proofs.tapes.Tape.append_mark.Goals as goal

pub invariant_of-self : goal.invariant_of-self
invariant_of-self c =
    let items : List Event = c.self.inside.log.events in
    let event : Event = Mark c.args.from c.args.round in
    let seen : items ≡ c.args.self.now.events = ap (λ (t : TapeView). t.events) c.self.view_is in
    let few : length items < MOST_EVENTS = omega
    (arith, ap (λ (xs : List Event). length xs) seen, c.requires.few) in
    let pushed : c.append_mark.new.self.events
    ≡ items ++ event ∷ [] = c.append_mark.ensures.events in
    record {
      tape = subst IsTape (sym pushed) (IsTape-push items event few tt c.self.invariant.tape);
      checked = subst
          (λ (xs : List Event). AreCheckRows xs c.self.inside.checks.items
          c.self.inside.incarnations.items c.self.inside.addressees.items) (sym pushed)
          (AreRows-other items event c.self.inside.checks.items c.self.inside.incarnations.items
          c.self.inside.addressees.items refl refl refl c.self.invariant.checked);
      received = c.self.invariant.received ∙ sym
          (told-none received_name items event refl) ∙ ap names_received (sym pushed);
      unchanged = subst (λ (xs : List Event). AreSettled xs c.self.inside.settled) (sym pushed)
          (AreSettled-push items event c.self.inside.settled c.self.invariant.unchanged);
      counted = counted-push _ _ _ _ _ _ _ _ _ c.self.invariant.counted c.append_mark.ensures.room
          (omega arith) (omega arith) (omega arith);
      one_more = omega (
        arith,
        c.self.invariant.one_more,
        c.append_mark.ensures.bodies,
        c.append_mark.ensures.states,
      );
    }
