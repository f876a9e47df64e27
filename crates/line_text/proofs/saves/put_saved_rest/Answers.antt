use Rattle.std.proofs.Common.{◌<◌, ◌≤◌, length, arith}
use Rattle.line_devices.proofs.OutputLemmas.{out_front, out_more, out_none}
use Rattle.line_claims.proofs.WriteLemmas.{out_last}
use Rattle.line_fields.specs.Texts.{record_text}
use Rattle.line_claims.specs.Saved.{saved_end_record}
use Rattle.line_text.proofs.SaveLemmas.{next_round, no_round}
use Rattle.line_text.proofs.saves.put_saved_rest.Goals as goal

pub loop-i-init : goal.loop-i-init
loop-i-init g c = out_none _ _ _ _

pub loop-i-preserved : goal.loop-i-preserved
loop-i-preserved g c =
    let lt : c.loop-i.i < length c.args.rounds.now = omega arith in
    let next = next_round c.args.rounds.now c.args.last c.loop-i.i _ _ _ lt c.index-rounds-i.is
    c.number.ensures c.checks.ensures.value in
    out_more _ _ next c.loop-i.invariant c.in_ok-put_saved_round.ensures

pub returns-in_err-put_saved_round : goal.returns-in_err-put_saved_round
returns-in_err-put_saved_round g c =
    let lt : c.loop-i.i < length c.args.rounds.now = omega arith in
    let next = next_round c.args.rounds.now c.args.last c.loop-i.i _ _ _ lt c.index-rounds-i.is
    c.number.ensures c.checks.ensures.value in
    out_front _ _ _ _ _ next c.loop-i.invariant c.in_err-put_saved_round.ensures
    c.from_residual.ensures.1

pub returns : goal.returns
returns g c =
    let le : length c.args.rounds.now ≤ c.loop-i.i = omega arith in
    out_last (record_text (saved_end_record c.args.last)) (no_round c.args.rounds.now c.args.last
    c.loop-i.i le) c.loop-i.invariant c.put_saved_end.ensures
