-- The row of a check leads to the event of that check.
use Rattle.std.proofs.Common.{◌≡◌, ◌≤◌, ◌<◌, ◌-◌, length, List, Some, ap, sym, ◌∙◌, subst, arith}
use Rattle.std.specs.List.{slice_get}
use Rattle.std.proofs.lemmas.Option.{same_Some}
use Rattle.line_tape.specs.declared.events.Event.{Event}
use Rattle.line_tape.specs.Views.{TapeView}
use Rattle.line_tape.specs.Event.{checks, state_of, stored_state}
use Rattle.line_tape.specs.Shown.{event_of_ref}
use Rattle.line_tape.proofs.ShownLemmas.{shown_is}
use Rattle.line_tape.proofs.RowLemmas.{row_within, row_state}
use Rattle.line_tape.proofs.tapes.Tape.state.Goals as goal

pub at-requires : goal.at-requires
at-requires c =
    let seen : c.self.inside.log.events
    ≡ c.args.self.now.events = ap (λ (t : TapeView). t.events) c.self.view_is in
    let within : c.index.result.now.place - 1 < length c.self.inside.log.events = row_within
    c.self.inside.log.events c.self.inside.checks.items c.self.inside.incarnations.items
    c.self.inside.addressees.items c.args.check c.index.result.now c.if-check-eq0.false
    (subst (λ (xs : List Event). c.args.check ≤ checks xs) (sym seen) c.requires)
    c.self.invariant.checked c.index.ensures in
    omega (arith, ap (λ (xs : List Event). length xs) c.events.ensures)

pub unreachable-requires : goal.unreachable-requires
unreachable-requires c =
    let seen : c.self.inside.log.events
    ≡ c.args.self.now.events = ap (λ (t : TapeView). t.events) c.self.view_is in
    let stored : state_of (event_of_ref c.at.result)
    ≡ Some (stored_state c.self.inside.log.events c.args.check) = row_state
    c.self.inside.log.events c.self.inside.checks.items c.self.inside.incarnations.items
    c.self.inside.addressees.items c.args.check c.index.result.now
    (event_of_ref c.at.result) c.if-check-eq0.false
    (subst (λ (xs : List Event). c.args.check ≤ checks xs) (sym seen) c.requires)
    c.self.invariant.checked c.index.ensures
    (shown_is c.self.inside.log.events (c.index.result.now.place - 1) (event_of_ref c.at.result)
    (ap (λ (xs : List Event). slice_get xs (c.index.result.now.place - 1))
    (sym c.events.ensures) ∙ c.at.ensures)) in
    cc (stored, c.in-None.ensures)

pub returns : goal.returns
returns c =
    let seen : c.self.inside.log.events
    ≡ c.args.self.now.events = ap (λ (t : TapeView). t.events) c.self.view_is in
    let stored : state_of (event_of_ref c.at.result)
    ≡ Some (stored_state c.self.inside.log.events c.args.check) = row_state
    c.self.inside.log.events c.self.inside.checks.items c.self.inside.incarnations.items
    c.self.inside.addressees.items c.args.check c.index.result.now
    (event_of_ref c.at.result) c.if-check-eq0.false
    (subst (λ (xs : List Event). c.args.check ≤ checks xs) (sym seen) c.requires)
    c.self.invariant.checked c.index.ensures
    (shown_is c.self.inside.log.events (c.index.result.now.place - 1) (event_of_ref c.at.result)
    (ap (λ (xs : List Event). slice_get xs (c.index.result.now.place - 1))
    (sym c.events.ensures) ∙ c.at.ensures)) in
    same_Some _ _ (sym c.in-Some.ensures ∙ stored) ∙ ap
    (λ (xs : List Event). stored_state xs c.args.check) seen
