use Rattle.std.proofs.Common.{List, drop, map, ap, ◌∙◌}
use Rattle.std.proofs.lemmas.List.{take_rest}
use Rattle.line_tape.specs.declared.logs.KeptEvent.{KeptEvent}
use Rattle.line_tape.specs.Laid.{event_from_kept}
use Rattle.line_tape.proofs.LaidLemmas.{events_behind}
use Rattle.line_tape.proofs.logs.Events.behind.Goals as goal

pub returns : goal.returns
returns c =
    ap (λ (events : List KeptEvent). map (event_from_kept c.self.inside.bodies.now
    c.self.inside.states.now) events) (take_rest c.self.inside.events.now c.args.start)
    ∙ events_behind c.self.inside.bodies.now c.self.inside.states.now c.self.inside.events.now
    c.args.start
    ∙ ap (drop c.args.start) c.self.view_is
