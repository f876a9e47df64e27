use Rattle.std.proofs.lemmas.Result.{err_from_is_err_and}
use Rattle.line_claims.proofs.PlaceLemmas.{check_begun, check_headless}
use Rattle.line_claims.proofs.readers.begin_check.Goals as goal

pub returns-in_err-version-clause-exact : goal.returns-in_err-version-clause-exact
returns-in_err-version-clause-exact c =
    let passed_on = err_from_is_err_and c.from_residual.result c.from_residual.ensures.1 in
    rw (c.requires, passed_on.1, passed_on.2)
    (λ rest. check_headless _ _ (c.in_err-version.ensures.exact rest))

pub returns-clause-exact : goal.returns-clause-exact
returns-clause-exact c = rw (c.requires, c.first_stage.ensures)
    (λ rest. check_begun _ _ _ rest _ (c.in_ok-version.ensures.exact rest)
    c.in_ok-history.ensures.exact c.new.ensures.items c.in_ok-claim.ensures.exact)
