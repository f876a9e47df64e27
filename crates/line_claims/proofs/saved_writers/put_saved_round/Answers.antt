use Rattle.std.proofs.Common.{◌<◌, ◌≤◌, ◌∷◌, [], arith, length}
use Rattle.line_devices.proofs.OutputLemmas.{out_front, out_more, out_none}
use Rattle.line_claims.proofs.SavedWriteLemmas.{before_checks, next_check_behind, no_check_behind}
use Rattle.line_claims.proofs.WriteLemmas.{out_last}
use Rattle.line_claims.proofs.saved_writers.put_saved_round.Goals as goal

pub returns-in_err-begin_record : goal.returns-in_err-begin_record
returns-in_err-begin_record g c =
    out_front _ _ _ _ _ (before_checks c.args.number c.args.checks.now)
    (out_none _ _ _ _) c.in_err-begin_record.ensures c.from_residual.ensures.1

pub loop-i-init : goal.loop-i-init
loop-i-init g c = out_more _ _ (before_checks c.args.number c.args.checks.now)
    (out_none _ _ _ _) c.in_ok-begin_record.ensures

pub loop-i-preserved : goal.loop-i-preserved
loop-i-preserved g c =
    let lt : c.loop-i.i < length c.args.checks.now = omega arith in
    out_more _ _ (next_check_behind c.args.checks.now c.loop-i.i _ lt) c.loop-i.invariant
    c.in_ok-add_field.ensures

pub returns-in_err-add_field : goal.returns-in_err-add_field
returns-in_err-add_field g c =
    let lt : c.loop-i.i < length c.args.checks.now = omega arith in
    out_front _ _ _ _ _ (next_check_behind c.args.checks.now c.loop-i.i _ lt) c.loop-i.invariant
    c.in_err-add_field.ensures c.from_residual-in_err-add_field.ensures.1

pub returns : goal.returns
returns g c =
    let le : length c.args.checks.now ≤ c.loop-i.i = omega arith in
    out_last (10 ∷ [])
    (no_check_behind c.args.checks.now c.loop-i.i le) c.loop-i.invariant c.close_record.ensures
