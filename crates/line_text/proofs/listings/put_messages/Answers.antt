use Rattle.std.proofs.Common.{◌<◌, ◌≤◌, length, arith}
use Rattle.line_devices.proofs.OutputLemmas.{out_all, out_front, out_more, out_none}
use Rattle.line_fields.proofs.OutletLemmas.{item_left, no_item_left}
use Rattle.line_text.specs.Rounds.{channel_record}
use Rattle.line_text.proofs.listings.put_messages.Goals as goal

pub loop-i-init : goal.loop-i-init
loop-i-init g c = out_none _ _ _ _

pub loop-i-preserved : goal.loop-i-preserved
loop-i-preserved g c =
    let lt : c.loop-i.i < length c.args.messages.now = omega arith in
    let next = item_left (channel_record c.args.floor.now c.args.round c.args.link.now.0
    c.args.link.now.1) c.args.messages.now c.loop-i.i _ lt c.index-messages-i.is in
    out_more _ _ next c.loop-i.invariant c.in_ok-put_channel_message.ensures

pub returns-in_err-put_channel_message : goal.returns-in_err-put_channel_message
returns-in_err-put_channel_message g c =
    let lt : c.loop-i.i < length c.args.messages.now = omega arith in
    let next = item_left (channel_record c.args.floor.now c.args.round c.args.link.now.0
    c.args.link.now.1) c.args.messages.now c.loop-i.i _ lt c.index-messages-i.is in
    out_front _ _ _ _ _ next c.loop-i.invariant c.in_err-put_channel_message.ensures
    c.from_residual.ensures.1

pub returns : goal.returns
returns g c =
    let le : length c.args.messages.now ≤ c.loop-i.i = omega arith in
    out_all tt (no_item_left (channel_record c.args.floor.now c.args.round c.args.link.now.0
    c.args.link.now.1) c.args.messages.now c.loop-i.i le) c.loop-i.invariant
