use Rattle.std.proofs.Common.{◌∙◌, sym}
use Rattle.line_claims.proofs.ReadingLemmas.{alone_ends, answer_goes_on, goes_by}
use Rattle.line_claims.proofs.claims.take_answer.Goals as goal

pub returns-then-is_line_alone-clause-exact : goal.returns-then-is_line_alone-clause-exact
returns-then-is_line_alone-clause-exact c = goes_by c.take_end.result _ _ _ _
    (λ rest. alone_ends c.args.version c.args.n _ _ _ rest (sym (c.is_line_alone.ensures rest) ∙
    c.if-is_line_alone.true)) (c.take_end.ensures.exact c.args.version c.args.n)

pub returns-clause-exact : goal.returns-clause-exact
returns-clause-exact c = goes_by c.take_start.result _ _ _ _
    (λ rest. answer_goes_on c.args.version c.args.n _ _ _ rest
    (sym (c.is_line_alone.ensures rest) ∙ c.if-is_line_alone.false)) c.take_start.ensures.exact
