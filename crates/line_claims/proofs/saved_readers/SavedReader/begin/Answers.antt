use Rattle.std.proofs.Common.{ap, arith, eq-eqb, ne_eqb, refl}
use Rattle.std.proofs.lemmas.Result.{err_from_is_err_and}
use Rattle.line_claims.specs.SavedReadings.{rounds_view}
use Rattle.line_claims.proofs.SavedLemmas.{saved_begun, saved_early, saved_headless}
use Rattle.line_claims.proofs.saved_readers.SavedReader.begin.Goals as goal

pub returns-in_err-version-clause-exact : goal.returns-in_err-version-clause-exact
returns-in_err-version-clause-exact c =
    let p = err_from_is_err_and c.from_residual.result c.from_residual.ensures.1 in
    rw (p.1, p.2) (λ rest. saved_headless _ _ (c.in_err-version.ensures.exact rest))

pub returns-then-version-ne-LAST_CHECK_VERSION-clause-exact :
    goal.returns-then-version-ne-LAST_CHECK_VERSION-clause-exact
returns-then-version-ne-LAST_CHECK_VERSION-clause-exact c = rw c.fault_at.ensures (λ rest.
    saved_early _ _ _ (c.in_ok-version.ensures.exact rest) (ne_eqb _ _ (λ e. omega (arith, e))))

pub returns-clause-exact : goal.returns-clause-exact
returns-clause-exact c = λ rest.
    saved_begun _ _ _ rest _ (c.in_ok-version.ensures.exact rest)
    (eq-eqb _ _ (omega arith)) c.in_ok-history.ensures.exact c.new-floors.ensures.items
    c.in_ok-marks.ensures (ap rounds_view c.new-rounds.ensures.items) refl
