use Rattle.std.proofs.Common.{◌∙◌, sym}
use Rattle.line_claims.proofs.ReadingLemmas.{goes_by, then_end, then_fault, then_more}
use Rattle.line_claims.proofs.claims.take_entry.Goals as goal

pub returns-then-not-is_named-clause-exact : goal.returns-then-not-is_named-clause-exact
returns-then-not-is_named-clause-exact c = goes_by c.take_answer.result _ _ _ _ (λ rest. then_end _
    _ _ _ _ rest _ (sym c.is_named.ensures ∙ c.if-not-is_named.true)) c.take_answer.ensures.exact

pub returns-in-Ok-clause-exact : goal.returns-in-Ok-clause-exact
returns-in-Ok-clause-exact c = λ rest. then_more _ _ _ _ _ _ rest _
    (sym c.is_named.ensures ∙ c.if-not-is_named.false) c.in-Ok.ensures

pub returns-in-Err-clause-exact : goal.returns-in-Err-clause-exact
returns-in-Err-clause-exact c = λ rest. rw c.error_at.ensures (then_fault _ _ _ _ _ rest _ _
    (sym c.is_named.ensures ∙ c.if-not-is_named.false) c.in-Err.ensures)
