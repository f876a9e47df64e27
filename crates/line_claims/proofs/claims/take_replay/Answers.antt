use Rattle.std.proofs.Common.{◌∙◌, sym}
use Rattle.line_claims.proofs.ReadingLemmas.{goes_by, then_end, then_fault, then_more}
use Rattle.line_claims.proofs.claims.take_replay.Goals as goal

pub returns-then-not-is_replay-clause-exact : goal.returns-then-not-is_replay-clause-exact
returns-then-not-is_replay-clause-exact c = goes_by c.take_end.result _ _ _ _
    (λ rest. then_end _ _ _ _ _ rest _ (sym c.is_replay.ensures ∙ c.if-not-is_replay.true))
    (c.take_end.ensures.exact c.args.version c.args.n)

pub returns-in-Ok-clause-exact : goal.returns-in-Ok-clause-exact
returns-in-Ok-clause-exact c = λ rest. then_more _ _ _ _ _ _ rest _
    (sym c.is_replay.ensures ∙ c.if-not-is_replay.false) c.in-Ok.ensures

pub returns-in-Err-clause-exact : goal.returns-in-Err-clause-exact
returns-in-Err-clause-exact c = λ rest. rw c.error_at.ensures (then_fault _ _ _ _ _ rest _ _
    (sym c.is_replay.ensures ∙ c.if-not-is_replay.false) c.in-Err.ensures)
