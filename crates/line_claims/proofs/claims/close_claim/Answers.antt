use Rattle.line_claims.proofs.ReadingLemmas.{claim_open}
use Rattle.line_claims.proofs.claims.close_claim.Goals as goal

pub returns-in_default : goal.returns-in_default
returns-in_default c = λ version n claim. rw c.fault_at.ensures
    (claim_open _ version n claim _ c.in_default.not-Nothing)
