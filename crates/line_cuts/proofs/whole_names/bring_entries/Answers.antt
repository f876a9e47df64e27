-- Each is brought back in its place.
use Rattle.std.proofs.Common.{◌<◌, length, subst, sym, arith}
use Rattle.line_cuts.specs.Cuts.{whole_entry}
use Rattle.line_cuts.specs.Numbers.{IsNumberedEntry}
use Rattle.line_cuts.proofs.MappedItems.{mapped_end, mapped_next, mapped_read, mapped_start}
use Rattle.line_cuts.proofs.whole_names.bring_entries.Goals as goal

pub loop-i-init : goal.loop-i-init
loop-i-init c = mapped_start (whole_entry c.args.floor.now) c.args.entries.now

pub whole_entry-entry-requires : goal.whole_entry-entry-requires
whole_entry-entry-requires c =
    let within : c.loop-i.i < length c.args.entries.now.items = omega
    (arith, c.loop-i-test.true, c.args.entries.now.ok.0, c.len-i-end.ensures) in
    subst (IsNumberedEntry c.args.floor.now)
    (sym (mapped_read
    (whole_entry c.args.floor.now) c.args.entries.now c.loop-i.i c.loop-i.entries
    c.index.result.now c.index.result.now c.loop-i.invariant within c.index.ensures))
    (c.requires c.loop-i.i c.index.result.now within)

pub loop-i-preserved : goal.loop-i-preserved
loop-i-preserved c =
    let within : c.loop-i.i < length c.args.entries.now.items = omega
    (arith, c.loop-i-test.true, c.args.entries.now.ok.0, c.len-i-end.ensures) in
    mapped_next (whole_entry c.args.floor.now) c.args.entries.now c.loop-i.i c.loop-i.entries
    c.index.result.now c.index.result.now c.whole_entry-entry.result c.loop-i.invariant within
    c.index.ensures c.whole_entry-entry.ensures

pub returns : goal.returns
returns c = mapped_end
    (whole_entry c.args.floor.now) c.args.entries.now c.loop-i.i c.loop-i.entries c.loop-i.invariant
    (omega (arith, c.loop-i-test.false, c.args.entries.now.ok.0, c.len-i-end.ensures))
