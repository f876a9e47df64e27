use Rattle.line_claims.proofs.FaultLemmas.{certificate_text_faults, told_codes}
use Rattle.line_claims.proofs.texts.read_certificate.Goals as goal

pub returns-in-Err-clause-codes : goal.returns-in-Err-clause-codes
returns-in-Err-clause-codes c =
    rw c.told.ensures (told_codes _ _ (certificate_text_faults _ _ _) c.in-Err.ensures)
