use Rattle.line_claims.specs.Texts.{check_view}
use Rattle.line_claims.proofs.PlaceLemmas.{claim_closed, floors_open}
use Rattle.line_claims.proofs.readers.close_check.Goals as goal

pub returns-in_ok-close_tapes-in-Tapes : goal.returns-in_ok-close_tapes-in-Tapes
returns-in_ok-close_tapes-in-Tapes c = rw (c.in-Tapes.is, c.in_ok-close_tapes-in-Tapes.ensures)
    (claim_closed c.close_claim-in-Tapes.result _ _ (c.close_claim-in-Tapes.ensures _ _ _))

pub returns-in-Floors : goal.returns-in-Floors
returns-in-Floors c = rw (c.in-Floors.is, c.fault_at.ensures)
    (floors_open _ _ c.args.begun.now.tapes (check_view c.args.begun.now.text) _)
