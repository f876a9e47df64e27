-- The parts are written one after another.
use Rattle.std.proofs.Common.{List, [], length}
use Rattle.line_devices.proofs.OutputLemmas.{out_front, out_more, out_none}
use Rattle.line_fields.proofs.OutletLemmas.{one_text}
use Rattle.line_fields.specs.Texts.{record_text}
use Rattle.line_tape.specs.History.{Process}
use Rattle.line_claims.specs.Claims.{Claim}
use Rattle.line_claims.specs.Records.{end_record, in_order, whole_claim}
use Rattle.line_claims.proofs.WriteLemmas.{claim_next, front_first, out_last, replays_next}
use Rattle.line_claims.proofs.WriteLemmas.{starts_next}
use Rattle.line_claims.proofs.answers.put_answer.Goals as goal

pub returns-in_err-put_history : goal.returns-in_err-put_history
returns-in_err-put_history g c =
    let history : List Process = c.args.history.now.processes in
    let claim : Claim = whole_claim history (in_order history c.args.claim.now.marks.now)
    c.args.claim.now.failed.now c.args.claim.now.line.now c.args.claim.now.certificate.now in
    out_front _ _ _ _ _ (front_first 3 [] history claim)
    (out_none _ _ _ _) c.in_err-put_history.ensures.put c.from_residual.ensures.1

pub returns-in_err-put_claim : goal.returns-in_err-put_claim
returns-in_err-put_claim g c =
    let history : List Process = c.args.history.now.processes in
    let claim : Claim = whole_claim history (in_order history c.args.claim.now.marks.now)
    c.args.claim.now.failed.now c.args.claim.now.line.now c.args.claim.now.certificate.now in
    let front = out_more _ _ (front_first 3 [] history claim)
    (out_none _ _ _ _) c.in_ok-put_history.ensures.put in
    out_front _ _ _ _ _ (claim_next (length history) claim) front c.in_err-put_claim.ensures
    c.from_residual-in_err-put_claim.ensures.1

pub returns-in_err-put_starts : goal.returns-in_err-put_starts
returns-in_err-put_starts g c =
    let history : List Process = c.args.history.now.processes in
    let claim : Claim = whole_claim history (in_order history c.args.claim.now.marks.now)
    c.args.claim.now.failed.now c.args.claim.now.line.now c.args.claim.now.certificate.now in
    let front = out_more _ _ (front_first 3 [] history claim)
    (out_none _ _ _ _) c.in_ok-put_history.ensures.put in
    let told = out_more _ _ (claim_next (length history) claim) front c.in_ok-put_claim.ensures in
    out_front _ _ _ _ _ (starts_next claim) told c.in_err-put_starts.ensures
    c.from_residual-in_err-put_starts.ensures.1

pub returns-in_err-put_replays : goal.returns-in_err-put_replays
returns-in_err-put_replays g c =
    let history : List Process = c.args.history.now.processes in
    let claim : Claim = whole_claim history (in_order history c.args.claim.now.marks.now)
    c.args.claim.now.failed.now c.args.claim.now.line.now c.args.claim.now.certificate.now in
    let front = out_more _ _ (front_first 3 [] history claim)
    (out_none _ _ _ _) c.in_ok-put_history.ensures.put in
    let told = out_more _ _ (claim_next (length history) claim) front c.in_ok-put_claim.ensures in
    let starts = out_more _ _ (starts_next claim) told c.in_ok-put_starts.ensures in
    out_front _ _ _ _ _ (replays_next claim) starts c.in_err-put_replays.ensures
    c.from_residual-in_err-put_replays.ensures.1

pub returns : goal.returns
returns g c =
    let history : List Process = c.args.history.now.processes in
    let claim : Claim = whole_claim history (in_order history c.args.claim.now.marks.now)
    c.args.claim.now.failed.now c.args.claim.now.line.now c.args.claim.now.certificate.now in
    let front = out_more _ _ (front_first 3 [] history claim)
    (out_none _ _ _ _) c.in_ok-put_history.ensures.put in
    let told = out_more _ _ (claim_next (length history) claim) front c.in_ok-put_claim.ensures in
    let starts = out_more _ _ (starts_next claim) told c.in_ok-put_starts.ensures in
    let replays = out_more _ _ (replays_next claim) starts c.in_ok-put_replays.ensures in
    out_last (record_text end_record) (one_text end_record) replays c.put_numbers.ensures
