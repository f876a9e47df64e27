use Rattle.std.proofs.Common.{◌∙◌, sym}
use Rattle.line_claims.proofs.ReadingLemmas.{one_missing, one_read, one_refused}
use Rattle.line_claims.proofs.claims.take_failed.Goals as goal

pub returns-then-not-is_named-clause-exact : goal.returns-then-not-is_named-clause-exact
returns-then-not-is_named-clause-exact c = λ version rest. rw c.fault_at.ensures
    (one_missing _ _ _ _ rest _ (sym c.is_named.ensures ∙ c.if-not-is_named.true))

pub returns-in-Ok-clause-exact : goal.returns-in-Ok-clause-exact
returns-in-Ok-clause-exact c = λ version rest. one_read _ _ _ _ _ rest _
    (sym c.is_named.ensures ∙ c.if-not-is_named.false) (sym c.failed_of.ensures ∙ c.in-Ok.is)

pub returns-in-Err-clause-exact : goal.returns-in-Err-clause-exact
returns-in-Err-clause-exact c = λ version rest. rw c.fault_at-in-Err.ensures
    (one_refused _ _ _ _ rest _ _ (sym c.is_named.ensures ∙ c.if-not-is_named.false)
    (sym c.failed_of.ensures ∙ c.in-Err.is))
