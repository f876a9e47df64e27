use Rattle.std.proofs.Common.{◌∙◌, sym}
use Rattle.line_claims.proofs.ReadingLemmas.{floor_fault, floor_missing, floor_taken}
use Rattle.line_claims.proofs.histories.take_floor.Goals as goal

pub returns-then-not-is_named-clause-exact : goal.returns-then-not-is_named-clause-exact
returns-then-not-is_named-clause-exact c = λ others rest. rw c.fault_at.ensures
    (floor_missing others _ _ _ rest (sym c.is_named.ensures ∙ c.if-not-is_named.true))

pub returns-in-Ok-clause-exact : goal.returns-in-Ok-clause-exact
returns-in-Ok-clause-exact c = λ others rest. floor_taken others _ _ _ _ rest
    (sym c.is_named.ensures ∙ c.if-not-is_named.false) c.in-Ok.ensures.exact

pub returns-in-Err-clause-exact : goal.returns-in-Err-clause-exact
returns-in-Err-clause-exact c = λ others rest. rw c.error_at.ensures (floor_fault others _ _ _ rest
    _ (sym c.is_named.ensures ∙ c.if-not-is_named.false) c.in-Err.ensures.exact)
