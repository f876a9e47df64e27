-- The queue is what the link holds.
use Rattle.std.proofs.Common.{List, ap, ◌∙◌}
use Rattle.std.specs.Prelude.{slice_get}
use Rattle.line_tape.specs.declared.items.Item.{Item}
use Rattle.line_world.proofs.KnownFacts.{shows}
use Rattle.line_world.proofs.worlds.World.link_item.Goals as goal

pub returns : goal.returns
returns c = c.item.ensures ∙ ap (λ (items : List Item). slice_get items c.args.i)
    (shows c.self.inside c.args.self.now c.self.view_is c.self.invariant c.args.from c.args.to
    c.requires.from c.requires.to c.requires.other)
