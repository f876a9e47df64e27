use Rattle.std.proofs.Common.{ap, sym, ◌∙◌, ◌++◌, arith}
use Rattle.std.proofs.lemmas.Fmt.{decimal_digit}
use Rattle.line_fields.proofs.DigitLemmas.{decimal_pair}
use Rattle.line_fields.proofs.lines.push_small.Goals as goal

pub returns-then-value-lt10-clause-text : goal.returns-then-value-lt10-clause-text
returns-then-value-lt10-clause-text c = rw c.push_reserved.ensures.items
    (ap (λ ds. c.args.out.now.items ++ ds) (sym (decimal_digit c.args.value c.if-value-lt10.true)))

pub returns-else-value-lt10-clause-text : goal.returns-else-value-lt10-clause-text
returns-else-value-lt10-clause-text c =
    c.push_pair.ensures.text ∙ ap (λ ds. c.args.out.now.items ++ ds)
    (sym (decimal_pair c.args.value (omega (arith, c.if-value-lt10.false)) c.requires.small))
