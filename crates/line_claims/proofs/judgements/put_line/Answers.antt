use Rattle.std.proofs.Common.{◌<◌, ◌≤◌, ◌∷◌, [], ap, arith, length}
use Rattle.line_devices.proofs.OutputLemmas.{out_front, out_more, out_none}
use Rattle.line_claims.proofs.WriteLemmas.{before_choices, next_choice, no_choice, out_last}
use Rattle.line_claims.proofs.judgements.put_line.Goals as goal

pub returns-in_err-begin_record : goal.returns-in_err-begin_record
returns-in_err-begin_record g c =
    out_front _ _ _ _ _ (before_choices c.args.line.now)
    (out_none _ _ _ _) c.in_err-begin_record.ensures c.from_residual.ensures.1

pub loop-i-init : goal.loop-i-init
loop-i-init g c =
    out_more _ _ (before_choices c.args.line.now) (out_none _ _ _ _) c.in_ok-begin_record.ensures

pub loop-i-preserved : goal.loop-i-preserved
loop-i-preserved g c =
    let lt : c.loop-i.i < length c.args.line.now = omega
    (arith, ap length c.choices-choices.ensures.value) in
    out_more _ _ (next_choice c.args.line.now c.loop-i.i _ lt) c.loop-i.invariant
    (rw (c.choice_field-field.ensures, c.choices-choices.ensures.value) at
    c.in_ok-add_field.ensures)

pub returns-in_err-add_field : goal.returns-in_err-add_field
returns-in_err-add_field g c =
    let lt : c.loop-i.i < length c.args.line.now = omega
    (arith, ap length c.choices-choices.ensures.value) in
    out_front _ _ _ _ _ (next_choice c.args.line.now c.loop-i.i _ lt) c.loop-i.invariant
    (rw (c.choice_field-field.ensures, c.choices-choices.ensures.value) at
    c.in_err-add_field.ensures) c.from_residual-in_err-add_field.ensures.1

pub returns : goal.returns
returns g c =
    let le : length c.args.line.now ≤ c.loop-i.i = omega
    (arith, ap length c.choices-choices.ensures.value) in
    out_last (10 ∷ [])
    (no_choice c.args.line.now c.loop-i.i le) c.loop-i.invariant c.close_record.ensures
