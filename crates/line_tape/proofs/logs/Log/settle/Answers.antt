-- What a restart leaves of what is kept is kept of what it leaves.
use Rattle.std.proofs.Common.{List, length, map, take, sym, ap, ◌∙◌, subst}
use Rattle.std.specs.List.{All, filter_map}
use Rattle.line_tape.specs.declared.events.Event.{Event}
use Rattle.line_tape.specs.declared.logs.KeptEvent.{KeptEvent}
use Rattle.line_tape.specs.Kept.{IsSettled}
use Rattle.line_tape.specs.Laid.{IsLaid, event_from_kept}
use Rattle.line_tape.specs.Restart.{restarted_event}
use Rattle.line_tape.specs.Views.{LogView}
use Rattle.line_tape.proofs.LaidLemmas.{events-restarted, laid-restarted, settled-kept}
use Rattle.line_tape.proofs.logs.Log.settle.Goals as goal

pub restart_events-requires-clause-settled : goal.restart_events-requires-clause-settled
restart_events-requires-clause-settled c =
    settled-kept c.self.inside.bodies.items c.self.inside.states.items c.self.inside.events.items
    c.args.settled (subst (λ (es : List Event). All IsSettled (take c.args.settled es))
    (sym (ap (λ (l : LogView). l.events) c.self.view_is)) c.requires.settled)

pub invariant_of-self : goal.invariant_of-self
invariant_of-self c =
    subst (λ (es : List KeptEvent). IsLaid es 0 0 (length c.self.inside.bodies.items)
    (length c.self.inside.states.items)) (sym c.restart_events.ensures.items)
    (laid-restarted c.self.inside.events.items 0 0 (length c.self.inside.bodies.items)
    (length c.self.inside.states.items) c.self.invariant)

pub returns-clause-events : goal.returns-clause-events
returns-clause-events c =
    ap (λ (es : List KeptEvent). map (event_from_kept c.self.inside.bodies.items
    c.self.inside.states.items) es) c.restart_events.ensures.items
    ∙ events-restarted c.self.inside.bodies.items c.self.inside.states.items
    c.self.inside.events.items
    ∙ ap (λ (l : LogView). filter_map restarted_event l.events) c.self.view_is
