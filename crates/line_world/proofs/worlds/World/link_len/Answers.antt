-- The queue is what the link holds.
use Rattle.std.proofs.Common.{List, length, ap, ◌∙◌}
use Rattle.line_tape.specs.declared.items.Item.{Item}
use Rattle.line_world.proofs.KnownFacts.{shows}
use Rattle.line_world.proofs.worlds.World.link_len.Goals as goal

pub returns : goal.returns
returns c = c.len.ensures ∙ ap (λ (items : List Item). length items)
    (shows c.self.inside c.args.self.now c.self.view_is c.self.invariant c.args.from c.args.to
    c.requires.from c.requires.to c.requires.other)
