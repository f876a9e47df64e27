-- Each is brought back in its place.
use Rattle.std.proofs.Common.{◌<◌, length, subst, sym, arith}
use Rattle.line_cuts.specs.Cuts.{whole_name}
use Rattle.line_cuts.specs.Numbers.{IsNumbered}
use Rattle.line_cuts.proofs.MappedItems.{mapped_end, mapped_next, mapped_read, mapped_start}
use Rattle.line_cuts.proofs.whole_names.bring_names.Goals as goal

pub loop-i-init : goal.loop-i-init
loop-i-init c = mapped_start (whole_name c.args.floor.now) c.args.names.now

pub whole_name-name-requires : goal.whole_name-name-requires
whole_name-name-requires c =
    let within : c.loop-i.i < length c.args.names.now.items = omega
    (arith, c.loop-i-test.true, c.args.names.now.ok.0, c.len-i-end.ensures) in
    subst (IsNumbered c.args.floor.now)
    (sym (mapped_read
    (whole_name c.args.floor.now) c.args.names.now c.loop-i.i c.loop-i.names c.index.result.now
    c.index.result.now c.loop-i.invariant within c.index.ensures))
    (c.requires c.loop-i.i c.index.result.now within)

pub loop-i-preserved : goal.loop-i-preserved
loop-i-preserved c =
    let within : c.loop-i.i < length c.args.names.now.items = omega
    (arith, c.loop-i-test.true, c.args.names.now.ok.0, c.len-i-end.ensures) in
    mapped_next (whole_name c.args.floor.now) c.args.names.now c.loop-i.i c.loop-i.names
    c.index.result.now c.index.result.now c.whole_name-name.result c.loop-i.invariant within
    c.index.ensures c.whole_name-name.ensures

pub returns : goal.returns
returns c = mapped_end
    (whole_name c.args.floor.now) c.args.names.now c.loop-i.i c.loop-i.names c.loop-i.invariant
    (omega (arith, c.loop-i-test.false, c.args.names.now.ok.0, c.len-i-end.ensures))
