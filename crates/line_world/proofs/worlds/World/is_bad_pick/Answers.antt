-- The queue is what the link holds.
use Rattle.std.proofs.Common.{◌≡◌, ℕ, List, length, sym, ap, ◌∙◌}
use Rattle.std.specs.Prelude.{nat_le}
use Rattle.line_tape.specs.declared.items.Item.{Item}
use Rattle.line_tape.specs.declared.modes.Mode.{Mode}
use Rattle.line_tape.specs.declared.modes.Mode.TheVariants.{Fifo, Unordered}
use Rattle.line_world.specs.Machine.{Machine, items_on}
use Rattle.line_world.specs.Protocols.{mode_of}
use Rattle.line_world.specs.Refusals.{is_bad_pick}
use Rattle.line_world.proofs.KnownFacts.{shows}
use Rattle.line_world.proofs.worlds.World.is_bad_pick.Goals as goal

pub returns-in-Markers : goal.returns-in-Markers
returns-in-Markers c =
    let machine : Machine = c.args.self.now in
    let fifo : machine.mode
    ≡ Fifo = ap (λ (v : Machine). v.mode) (sym c.self.view_is) ∙ ap mode_of c.in-Markers.is in
    sym (ap (λ (v : Mode). is_bad_pick v (items_on machine c.args.from c.args.to) c.args.pick) fifo)

pub returns-in-Colours : goal.returns-in-Colours
returns-in-Colours c =
    let machine : Machine = c.args.self.now in
    let unordered : machine.mode ≡ Unordered = ap (λ (v : Machine). v.mode)
    (sym c.self.view_is) ∙ ap mode_of c.in-Colours.is in
    let held = shows c.self.inside c.args.self.now c.self.view_is c.self.invariant c.args.from
    c.args.to c.requires.from c.requires.to c.requires.other in
    ap (λ (k : ℕ). nat_le k c.args.pick)
    (c.len.ensures ∙ ap (λ (items : List Item). length items) held)
    ∙ sym (ap (λ (v : Mode). is_bad_pick v (items_on machine c.args.from c.args.to) c.args.pick)
    unordered)
