use Rattle.std.proofs.Common.{◌<◌, ◌≤◌, refl, arith}
use Rattle.line_text.specs.Rounds.{channels_from, channels_records, round_record, round_records}
use Rattle.line_devices.proofs.OutputLemmas.{out_all, out_front, out_more, out_none}
use Rattle.line_fields.specs.Texts.{record_text, records_text}
use Rattle.line_fields.proofs.OutletLemmas.{next_number, no_number}
use Rattle.line_text.proofs.listings.put_whole_round.Goals as goal

pub returns-in_err-put_round : goal.returns-in_err-put_round
returns-in_err-put_round g c =
    out_front _ _ _ (record_text (round_record c.args.floor.now c.args.n c.args.round.now))
    (records_text (channels_records c.args.floor.now c.args.n c.args.round.now)) refl
    (out_none _ _ _ (records_text (round_records c.args.floor.now c.args.n c.args.round.now)))
    c.in_err-put_round.ensures c.from_residual.ensures.1

pub loop-value-init : goal.loop-value-init
loop-value-init g c =
    out_more (record_text (round_record c.args.floor.now c.args.n c.args.round.now))
    (records_text (channels_records c.args.floor.now c.args.n c.args.round.now)) refl
    (out_none _ _ _ (records_text (round_records c.args.floor.now c.args.n c.args.round.now)))
    c.in_ok-put_round.ensures

pub loop-value-preserved : goal.loop-value-preserved
loop-value-preserved g c =
    let lt : c.loop-value.value < c.args.n = omega arith in
    let next = next_number
    (channels_from c.args.floor.now c.args.n c.args.round.now) c.args.n c.loop-value.value lt in
    out_more _ _ next c.loop-value.invariant
    (rw c.in-Ok.ensures.1 at c.in_ok-put_channels_from.ensures)

pub returns-in_err-put_channels_from : goal.returns-in_err-put_channels_from
returns-in_err-put_channels_from g c =
    let lt : c.loop-value.value < c.args.n = omega arith in
    let next = next_number
    (channels_from c.args.floor.now c.args.n c.args.round.now) c.args.n c.loop-value.value lt in
    out_front _ _ _ _ _ next c.loop-value.invariant (rw c.in-Ok.ensures.1 at
    c.in_err-put_channels_from.ensures) c.from_residual-in_err-put_channels_from.ensures.1

pub returns : goal.returns
returns g c =
    let le : c.args.n ≤ c.loop-value.value = omega arith in
    out_all tt (no_number (channels_from c.args.floor.now c.args.n c.args.round.now) c.args.n
    c.loop-value.value le) c.loop-value.invariant
