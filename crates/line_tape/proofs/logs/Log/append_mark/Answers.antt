-- The receipt of the marker is kept behind the others.
use Rattle.std.proofs.Common.{◌≡◌, ℕ, List, [], ◌∷◌, ◌++◌, map, sym, ap}
use Rattle.line_tape.specs.declared.events.Event.TheVariants.{Mark}
use Rattle.line_tape.specs.declared.logs.KeptEvent.{KeptEvent}
use Rattle.line_tape.specs.Laid.{event_from_kept}
use Rattle.line_tape.specs.Views.{LogView}
use Rattle.line_tape.proofs.LaidLemmas.{IsLog, mark-added}
use Rattle.line_tape.proofs.logs.Log.append_mark.Goals as goal

whole : (c : goal.After-push_reserved)
    → IsLog c.push_reserved.new.self.items c.self.inside.bodies.items c.self.inside.states.items
    (c.args.self.now.events ++ Mark c.args.from c.args.round ∷ [])
whole c =
    let events : List KeptEvent = c.self.inside.events.items in
    let bodies : List ℕ = c.self.inside.bodies.items in
    let states : List (List ℕ) = c.self.inside.states.items in
    let seen : c.args.self.now.events ≡ map (event_from_kept bodies states) events = sym
    (ap (λ (l : LogView). l.events) c.self.view_is) in
    rw (c.push_reserved.ensures.items, seen)
    (mark-added events bodies states c.self.invariant c.args.from c.args.round)

pub invariant_of-self : goal.invariant_of-self
invariant_of-self c = (whole c).laid

pub returns-clause-events : goal.returns-clause-events
returns-clause-events c = (whole c).shows
