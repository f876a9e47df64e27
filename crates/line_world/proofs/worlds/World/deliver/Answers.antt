-- The queue is what the link holds, and it has an item at the place that is picked.
use Rattle.std.proofs.Common.{◌≡◌, List, Some, sym, ap, ◌∙◌}
use Rattle.std.specs.Prelude.{slice_get}
use Rattle.line_tape.specs.declared.items.Item.{Item}
use Rattle.line_world.specs.Machine.{items_on}
use Rattle.line_world.proofs.KnownFacts.{at_each, shows}
use Rattle.line_world.proofs.StepLemmas.{may_deliver}
use Rattle.line_world.proofs.worlds.World.deliver.Goals.{After-item}
use Rattle.line_world.proofs.worlds.World.deliver.Goals as goal

held : (c : After-item)
    → slice_get (items_on c.args.self.now c.args.from c.args.to) c.args.pick ≡ c.item.result
held c =
    let may = may_deliver c.args.self.now c.args.from c.args.to c.args.pick c.args.state.now
    (sym c.link_refusal.ensures ∙ c.in_default.is) in
    ap (λ (xs : List Item). slice_get xs c.args.pick)
    (sym (shows c.self.inside c.args.self.now c.self.view_is c.self.invariant c.args.from
    c.args.to may.named.from_within may.named.to_within may.apart))
    ∙ sym c.item.ensures

pub deliver_message-requires-clause-picked : goal.deliver_message-requires-clause-picked
deliver_message-requires-clause-picked c = held (goal.at.deliver_message-requires-clause-picked
    c).After-item ∙ c.in-Some-Message.is ∙ ap (λ (i : Item). Some i) c.in-Some-Message.field-0-is

pub deliver_marker-requires-clause-picked : goal.deliver_marker-requires-clause-picked
deliver_marker-requires-clause-picked c = held (goal.at.deliver_marker-requires-clause-picked
    c).After-item ∙ c.in-Some-Marker.is ∙ ap (λ (i : Item). Some i) c.in-Some-Marker.field-0-is

pub unreachable-requires : goal.unreachable-requires
unreachable-requires c =
    let may = may_deliver c.args.self.now c.args.from c.args.to c.args.pick c.args.state.now
    (sym c.link_refusal.ensures ∙ c.in_default.is) in
    at_each (items_on c.args.self.now c.args.from c.args.to) c.args.pick may.within
    (held (goal.at.unreachable-requires c).After-item ∙ c.in-None.is)
