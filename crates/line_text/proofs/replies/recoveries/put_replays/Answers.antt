use Rattle.std.proofs.Common.{◌<◌, ◌≤◌, length, arith}
use Rattle.line_devices.proofs.OutputLemmas.{out_all, out_front, out_more, out_none}
use Rattle.line_fields.proofs.OutletLemmas.{item_left, no_item_left}
use Rattle.line_text.specs.Replies.{replay_record}
use Rattle.line_text.proofs.replies.recoveries.put_replays.Goals as goal

pub loop-i-init : goal.loop-i-init
loop-i-init g c = out_none _ _ _ _

pub loop-i-preserved : goal.loop-i-preserved
loop-i-preserved g c =
    let lt : c.loop-i.i < length c.args.replays.now = omega arith in
    let next = item_left replay_record c.args.replays.now c.loop-i.i _ lt c.index-replays-i.is in
    out_more _ _ next c.loop-i.invariant (rw c.numbers_of.ensures at c.in_ok-put_numbers.ensures)

pub returns-in_err-put_numbers : goal.returns-in_err-put_numbers
returns-in_err-put_numbers g c =
    let lt : c.loop-i.i < length c.args.replays.now = omega arith in
    let next = item_left replay_record c.args.replays.now c.loop-i.i _ lt c.index-replays-i.is in
    out_front _ _ _ _ _ next c.loop-i.invariant
    (rw c.numbers_of.ensures at c.in_err-put_numbers.ensures) c.from_residual.ensures.1

pub returns : goal.returns
returns g c =
    let le : length c.args.replays.now ≤ c.loop-i.i = omega arith in
    out_all tt (no_item_left replay_record c.args.replays.now c.loop-i.i le) c.loop-i.invariant
