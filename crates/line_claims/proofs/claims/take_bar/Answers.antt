use Rattle.std.proofs.Common.{◌∙◌, sym}
use Rattle.line_claims.proofs.ReadingLemmas.{goes_by, then_end, then_more, then_refused}
use Rattle.line_claims.proofs.claims.take_bar.Goals as goal

pub returns-then-not-is_bar-clause-exact : goal.returns-then-not-is_bar-clause-exact
returns-then-not-is_bar-clause-exact c = goes_by c.take_failed.result _ _ _ _
    (λ rest. then_end _ _ _ _ _ rest _ (sym c.is_bar.ensures ∙ c.if-not-is_bar.true))
    (c.take_failed.ensures.exact c.args.version)

pub returns-in-Ok-clause-exact : goal.returns-in-Ok-clause-exact
returns-in-Ok-clause-exact c = λ rest. then_more _ _ _ _ _ _ rest _
    (sym c.is_bar.ensures ∙ c.if-not-is_bar.false) c.in-Ok.ensures.ok

pub returns-in-Err-clause-exact : goal.returns-in-Err-clause-exact
returns-in-Err-clause-exact c = λ rest. rw c.fault_at.ensures (then_refused _ _ _ _ _ rest _ _
    (sym c.is_bar.ensures ∙ c.if-not-is_bar.false) c.in-Err.ensures.err)
