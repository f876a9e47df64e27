-- The parts are written one after another.
use Rattle.std.proofs.Common.{List, ℕ, length}
use Rattle.line_devices.proofs.OutputLemmas.{out_front, out_more, out_none}
use Rattle.line_fields.proofs.OutletLemmas.{one_text}
use Rattle.line_fields.specs.Texts.{record_text}
use Rattle.line_tape.specs.History.{Process}
use Rattle.line_claims.specs.Claims.{Claim}
use Rattle.line_claims.specs.Records.{end_record, floors_at, in_order, line_claim}
use Rattle.line_claims.proofs.WriteLemmas.{claim_next, front_first, out_last}
use Rattle.line_claims.proofs.answers.put_check_text_from.Goals as goal

pub returns-in_err-put_history_from : goal.returns-in_err-put_history_from
returns-in_err-put_history_from g c =
    let history : List Process = c.args.history.now.processes in
    let floors : List (ℕ × ℕ) = floors_at
    (length history) c.args.floor.now.checks.now c.args.floor.now.sends.now in
    let claim : Claim = line_claim (in_order history c.args.claim.now.marks.now)
    c.args.claim.now.failed.now c.args.claim.now.line.now c.args.claim.now.certificate.now in
    out_front _ _ _ _ _ (front_first 4 floors history claim)
    (out_none _ _ _ _) c.in_err-put_history_from.ensures.put c.from_residual.ensures.1

pub returns-in_err-put_claim : goal.returns-in_err-put_claim
returns-in_err-put_claim g c =
    let history : List Process = c.args.history.now.processes in
    let floors : List (ℕ × ℕ) = floors_at
    (length history) c.args.floor.now.checks.now c.args.floor.now.sends.now in
    let claim : Claim = line_claim (in_order history c.args.claim.now.marks.now)
    c.args.claim.now.failed.now c.args.claim.now.line.now c.args.claim.now.certificate.now in
    let front = out_more _ _ (front_first 4 floors history claim)
    (out_none _ _ _ _) c.in_ok-put_history_from.ensures.put in
    out_front _ _ _ _ _ (claim_next (length history) claim) front c.in_err-put_claim.ensures
    c.from_residual-in_err-put_claim.ensures.1

pub returns : goal.returns
returns g c =
    let history : List Process = c.args.history.now.processes in
    let floors : List (ℕ × ℕ) = floors_at
    (length history) c.args.floor.now.checks.now c.args.floor.now.sends.now in
    let claim : Claim = line_claim (in_order history c.args.claim.now.marks.now)
    c.args.claim.now.failed.now c.args.claim.now.line.now c.args.claim.now.certificate.now in
    let front = out_more _ _ (front_first 4 floors history claim)
    (out_none _ _ _ _) c.in_ok-put_history_from.ensures.put in
    let told = out_more _ _ (claim_next (length history) claim) front c.in_ok-put_claim.ensures in
    out_last (record_text end_record) (one_text end_record) told c.put_numbers.ensures
