use Rattle.std.proofs.Common.{◌<◌, ◌≤◌, refl, length, arith}
use Rattle.std.specs.List.{flat_map}
use Rattle.line_text.specs.Rounds.{round_records, rounds_record, rounds_records}
use Rattle.line_devices.proofs.OutputLemmas.{out_all, out_front, out_more, out_none}
use Rattle.line_fields.specs.Texts.{record_text, records_text}
use Rattle.line_fields.proofs.OutletLemmas.{next_item, no_item}
use Rattle.line_text.proofs.listings.put_rounds.Goals as goal

pub returns-in_err-put_numbers : goal.returns-in_err-put_numbers
returns-in_err-put_numbers g c =
    out_front _ _ _ (record_text (rounds_record (length c.args.rounds.now)))
    (records_text (flat_map (round_records c.args.floor.now c.args.n) c.args.rounds.now)) refl
    (out_none _ _ _ (records_text (rounds_records c.args.floor.now c.args.n c.args.rounds.now)))
    c.in_err-put_numbers.ensures c.from_residual.ensures.1

pub loop-i-init : goal.loop-i-init
loop-i-init g c =
    out_more (record_text (rounds_record (length c.args.rounds.now)))
    (records_text (flat_map (round_records c.args.floor.now c.args.n) c.args.rounds.now)) refl
    (out_none _ _ _ (records_text (rounds_records c.args.floor.now c.args.n c.args.rounds.now)))
    c.in_ok-put_numbers.ensures

pub loop-i-preserved : goal.loop-i-preserved
loop-i-preserved g c =
    let lt : c.loop-i.i < length c.args.rounds.now = omega arith in
    let next = next_item (round_records c.args.floor.now c.args.n) c.args.rounds.now c.loop-i.i _ lt
    c.index-rounds-i.is in
    out_more _ _ next c.loop-i.invariant c.in_ok-put_whole_round.ensures

pub returns-in_err-put_whole_round : goal.returns-in_err-put_whole_round
returns-in_err-put_whole_round g c =
    let lt : c.loop-i.i < length c.args.rounds.now = omega arith in
    let next = next_item (round_records c.args.floor.now c.args.n) c.args.rounds.now c.loop-i.i _ lt
    c.index-rounds-i.is in
    out_front _ _ _ _ _ next c.loop-i.invariant c.in_err-put_whole_round.ensures
    c.from_residual-in_err-put_whole_round.ensures.1

pub returns : goal.returns
returns g c =
    let le : length c.args.rounds.now ≤ c.loop-i.i = omega arith in
    out_all tt (no_item (round_records c.args.floor.now c.args.n) c.args.rounds.now c.loop-i.i le)
    c.loop-i.invariant
