-- Links that keep no order have colours.
use Rattle.std.proofs.Common.{sym, ap, ◌∙◌}
use Rattle.line_world.specs.Machine.{Machine}
use Rattle.line_world.specs.Protocols.{mode_of}
use Rattle.line_world.proofs.worlds.World.turn_refusal.Goals as goal

pub may_turn-requires-clause-mode : goal.may_turn-requires-clause-mode
may_turn-requires-clause-mode c =
    ap (λ (m : Machine). m.mode) (sym c.self.view_is) ∙ ap mode_of c.in-Colours.is
