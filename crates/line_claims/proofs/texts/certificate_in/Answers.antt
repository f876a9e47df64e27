use Rattle.std.proofs.Common.{◌∙◌}
use Rattle.std.proofs.lemmas.Result.{err_from_is_err_and}
use Rattle.line_claims.proofs.PlaceLemmas.{certificate_begun}
use Rattle.line_claims.proofs.texts.certificate_in.Goals as goal

pub returns-in_err-take_claim : goal.returns-in_err-take_claim
returns-in_err-take_claim c =
    let passed_on = err_from_is_err_and c.from_residual-in_err-take_claim.result
    c.from_residual-in_err-take_claim.ensures.1 in
    rw (
      passed_on.1,
      passed_on.2,
      certificate_begun _ _ _ _ _ c.in_ok-records.ensures.records
          c.in_ok-claim.ensures.exact,
    ) c.in_err-take_claim.ensures

pub returns : goal.returns
returns c = certificate_begun _ _ _ _ _ c.in_ok-records.ensures.records c.in_ok-claim.ensures.exact
    ∙ c.in_ok-take_claim.ensures
