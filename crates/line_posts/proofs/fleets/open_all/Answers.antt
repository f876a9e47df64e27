use Rattle.std.proofs.Common.{refl, ap, length}
use Rattle.line_posts.specs.Ends.{in_ends, in_rows, out_rows}
use Rattle.line_posts.proofs.FleetLemmas.{opened_of}
use Rattle.line_posts.proofs.fleets.open_all.Goals as goal

pub returns : goal.returns
returns c = λ floor capacity h.
    opened_of c.args.history.now.processes floor capacity
    (out_rows c.args.prepared.rings.outs.items) (in_rows c.args.prepared.rings.ins.items)
    (out_rows c.args.prepared.lines.outs.items)
    (in_rows c.args.prepared.lines.ins.items) c.make_posts-posts.result.items
    (length c.args.history.now.processes) (in_ends c.take_first-lines.result.items)
    (in_rows c.take_first-lines.new.items.items)
    refl h.rings h.lines (c.make_posts-posts.ensures floor h.journals)
    (ap in_rows c.take_first-lines.ensures) h.slots h.line_slots
