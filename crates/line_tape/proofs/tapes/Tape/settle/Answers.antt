-- The events that are settled, and the places of their checks, are right as they are.
use Rattle.std.proofs.Common.{◌≡◌, ℕ, suc, List, length, take, sym, ap, ◌∙◌, subst, arith}
use Rattle.std.specs.List.{filter_map}
use Rattle.line_tape.specs.declared.events.Event.{Event}
use Rattle.line_tape.specs.Event.{checks}
use Rattle.line_tape.specs.Front.{check_place}
use Rattle.line_tape.specs.History.{IsTape}
use Rattle.line_tape.specs.Kept.{AreCheckRows, AreSettled, HaveCheckPlaces}
use Rattle.line_tape.specs.Restart.{restarted_event}
use Rattle.line_tape.specs.Transit.{names_received}
use Rattle.line_tape.proofs.CutLemmas.{IsTape-restarted, checks_left}
use Rattle.line_tape.proofs.IndexLemmas.{AreRows-restarted, settled_left, settled_places}
use Rattle.line_tape.proofs.IndexLemmas.{settled_within}
use Rattle.line_tape.proofs.StayLemmas.{names_restarted}
use Rattle.line_tape.proofs.tapes.Tape.settle.Goals as goal

pub place_checks-requires-clause-within : goal.place_checks-requires-clause-within
place_checks-requires-clause-within c =
    let left : c.events.result ≡ filter_map restarted_event c.self.inside.log.events =
    c.events.ensures ∙ c.settle.ensures.events in
    omega (
      arith,
      ap
          (λ (xs : List Event). length xs) left,
      settled_within c.self.inside.log.events
          c.self.inside.checks.items c.self.inside.incarnations.items c.self.inside.addressees.items
          c.self.invariant.checked c.self.inside.settled c.self.invariant.unchanged,
    )

pub place_checks-requires-clause-count : goal.place_checks-requires-clause-count
place_checks-requires-clause-count c =
    let left : c.events.result ≡ filter_map restarted_event c.self.inside.log.events =
    c.events.ensures ∙ c.settle.ensures.events in
    c.self.invariant.checked.count ∙ sym (checks_left c.self.inside.log.events) ∙ ap checks
    (sym left)

pub place_checks-requires-clause-places : goal.place_checks-requires-clause-places
place_checks-requires-clause-places c = λ index d early.
    let left : c.events.result ≡ filter_map restarted_event c.self.inside.log.events =
    c.events.ensures ∙ c.settle.ensures.events in
    settled_places c.self.inside.log.events c.self.inside.checks.items
    c.self.inside.incarnations.items c.self.inside.addressees.items c.self.invariant.checked
    c.self.inside.settled c.self.invariant.unchanged index d
    (omega (arith, ap (λ (xs : List Event). checks (take c.self.inside.settled xs)) left))
    ∙ ap (λ (xs : List Event). check_place xs (suc index)) (sym left)

pub invariant_of-self : goal.invariant_of-self
invariant_of-self c =
    let items : List Event = c.self.inside.log.events in
    let left : c.settle.new.self.events
    ≡ filter_map restarted_event items = c.settle.ensures.events in
    let many : c.len.result ≡ length c.settle.new.self.events = omega (arith, c.len.ensures) in
    let placed : HaveCheckPlaces
    (filter_map restarted_event items) c.self.inside.checks.items c.place_checks.new.rows.items
    = subst (λ (xs : List Event). HaveCheckPlaces xs c.self.inside.checks.items
    c.place_checks.new.rows.items) (c.events.ensures ∙ left) c.place_checks.ensures.rows in
    record {
      tape = subst IsTape (sym left) (IsTape-restarted items c.self.invariant.tape);
      checked = subst
          (λ (xs : List Event). AreCheckRows xs c.place_checks.new.rows.items
          c.self.inside.incarnations.items c.self.inside.addressees.items) (sym left)
          (AreRows-restarted items c.self.inside.checks.items c.self.inside.incarnations.items
          c.self.inside.addressees.items c.self.invariant.checked c.place_checks.new.rows.items
          placed);
      received =
          c.self.invariant.received ∙ sym (names_restarted items) ∙ ap names_received (sym left);
      unchanged = subst (λ (n : ℕ). AreSettled c.settle.new.self.events n) (sym many)
          (subst (λ (xs : List Event). AreSettled xs (length xs)) (sym left) (settled_left items));
      counted = omega (arith, c.self.invariant.counted, c.settle.ensures.room);
      one_more = omega (
        arith,
        c.self.invariant.one_more,
        c.settle.ensures.bodies,
        c.settle.ensures.states,
        c.place_checks.ensures.len,
        c.place_checks.ensures.capacity,
      );
    }

pub returns-clause-limits : goal.returns-clause-limits
returns-clause-limits c = subst IsTape (sym c.settle.ensures.events)
    (IsTape-restarted c.self.inside.log.events c.self.invariant.tape)

pub place_checks-requires-clause-few : goal.place_checks-requires-clause-few
place_checks-requires-clause-few c =
    let left : c.events.result ≡ filter_map restarted_event c.self.inside.log.events =
    c.events.ensures ∙ c.settle.ensures.events in
    omega (
      arith,
      ap (λ (xs : List Event). length xs) left,
      (IsTape-restarted c.self.inside.log.events c.self.invariant.tape).few,
    )

pub overflow_cast-self : goal.overflow_cast-self
overflow_cast-self c =
    omega (
      arith,
      ap (λ (xs : List Event). length xs) c.settle.ensures.events,
      (IsTape-restarted c.self.inside.log.events c.self.invariant.tape).few,
      c.len.ensures,
    )
