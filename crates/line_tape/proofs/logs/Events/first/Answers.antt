use Rattle.std.proofs.Common.{take, ap, ◌∙◌}
use Rattle.line_tape.proofs.LaidLemmas.{events_of_first}
use Rattle.line_tape.proofs.logs.Events.first.Goals as goal

pub returns : goal.returns
returns c =
    events_of_first c.self.inside.bodies.now c.self.inside.states.now c.self.inside.events.now
    c.args.end ∙ ap (take c.args.end) c.self.view_is
