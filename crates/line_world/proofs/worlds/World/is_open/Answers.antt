-- A round is kept as open just where the last one begun is open.
use Rattle.std.proofs.Common.{◌≡◌, sym, ap, ◌∙◌}
use Rattle.std.specs.Option.{is_some}
use Rattle.line_moves.proofs.OpeningLemmas.{open_told, some_turning}
use Rattle.line_world.specs.declared.protocols.Protocol.{Protocol}
use Rattle.line_world.specs.declared.worlds.World.TheInside.{Inside}
use Rattle.line_world.specs.Machine.{Machine, is_open}
use Rattle.line_world.specs.Protocols.{mode_of, open_round_of}
use Rattle.line_world.proofs.KnownFacts.{shown, IsKept}
use Rattle.line_world.proofs.worlds.World.is_open.Goals as goal

kept_open : (w : Inside) (machine : Machine) → shown w ≡ machine → IsKept w → (protocol : Protocol)
    → w.protocol ≡ protocol → is_some (open_round_of protocol) ≡ is_open machine
kept_open w machine view kept protocol e =
    ap (λ (p : Protocol). is_some (open_round_of p)) (sym e)
    ∙ open_told (mode_of w.protocol) w.catalogue.processes w.last_round
    (open_round_of w.protocol) kept.1.opening kept.1.unfinished
    ∙ ap is_open view

pub returns-in-Markers : goal.returns-in-Markers
returns-in-Markers c = c.is_some.ensures ∙ kept_open c.self.inside c.args.self.now c.self.view_is
    c.self.invariant _ c.in-Markers.is

pub returns-in-Colours : goal.returns-in-Colours
returns-in-Colours c = c.is_some-in-Colours.ensures ∙ some_turning c.in-Colours.turning ∙ kept_open
    c.self.inside c.args.self.now c.self.view_is c.self.invariant _ c.in-Colours.is
