-- The send is kept behind the others, with its bytes behind theirs.
use Rattle.std.proofs.Common.{◌≡◌, ◌<◌, ℕ, List, [], ◌∷◌, ◌++◌, length, map, sym, ap, arith, rules}
use Rattle.std.proofs.lemmas.List.{length-map}
use Rattle.line_tape.specs.declared.events.Event.TheVariants.{Send}
use Rattle.line_tape.specs.declared.logs.KeptEvent.{KeptEvent}
use Rattle.line_tape.specs.declared.limits.TheConstants.{MOST_EVENTS}
use Rattle.line_tape.specs.Laid.{event_from_kept}
use Rattle.line_tape.specs.Views.{LogView}
use Rattle.line_tape.proofs.LaidLemmas.{IsLog, Reaches, laid-reaches, send-added}
use Rattle.line_tape.proofs.logs.Log.append_send.Goals as goal

pub overflow_cast-kept : goal.overflow_cast-kept
overflow_cast-kept c =
    let few : length c.self.inside.events.items < MOST_EVENTS = omega (
      arith,
      length-map c.self.inside.events.items
          (event_from_kept c.self.inside.bodies.items c.self.inside.states.items),
      ap
          (λ (l : LogView). length l.events) c.self.view_is,
      c.requires.few,
    ) in
    let far : Reaches c.self.inside.events.items 0 0 (length c.self.inside.bodies.items)
    (length c.self.inside.states.items) = laid-reaches c.self.inside.events.items 0 0
    (length c.self.inside.bodies.items) (length c.self.inside.states.items) c.self.invariant in
    omega (arith, few, far.few, c.len.ensures, c.self.inside.bodies.ok.0)

whole : (c : goal.After-len-2)
    → IsLog c.push_reserved.new.self.items c.extend_from_slice.new.self.items
    c.self.inside.states.items
    (c.args.self.now.events ++ Send c.args.to c.args.inc c.args.body.now ∷ [])
whole c =
    let events : List KeptEvent = c.self.inside.events.items in
    let bodies : List ℕ = c.self.inside.bodies.items in
    let states : List (List ℕ) = c.self.inside.states.items in
    let seen : c.args.self.now.events ≡ map (event_from_kept bodies states) events = sym
    (ap (λ (l : LogView). l.events) c.self.view_is) in
    let start : c.len.result
    ≡ length bodies = omega (arith, c.len.ensures, c.self.inside.bodies.ok.0) in
    let pushed : c.extend_from_slice.new.self.items ≡ bodies ++ c.args.body.now = search rules in
    rw (c.push_reserved.ensures.items, pushed, start, seen) (send-added events bodies states
    c.self.invariant c.args.to c.args.inc c.args.body.now c.requires.short)

pub invariant_of-self : goal.invariant_of-self
invariant_of-self c = (whole c).laid

pub returns-clause-events : goal.returns-clause-events
returns-clause-events c = (whole c).shows
