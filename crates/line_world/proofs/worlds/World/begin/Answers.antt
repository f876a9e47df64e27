-- The kind of links says how a round is begun.
use Rattle.std.proofs.Common.{sym, ap, ◌∙◌}
use Rattle.line_world.specs.Machine.{Machine}
use Rattle.line_world.specs.Protocols.{mode_of}
use Rattle.line_world.proofs.worlds.World.begin.Goals as goal

pub begin_markers-requires-clause-fifo : goal.begin_markers-requires-clause-fifo
begin_markers-requires-clause-fifo c =
    sym (ap (λ (v : Machine). v.mode) c.self.view_is) ∙ ap mode_of c.in-Markers.is

pub begin_colours-requires-clause-unordered : goal.begin_colours-requires-clause-unordered
begin_colours-requires-clause-unordered c =
    sym (ap (λ (v : Machine). v.mode) c.self.view_is) ∙ ap mode_of c.in-Colours.is
