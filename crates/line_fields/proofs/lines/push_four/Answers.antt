use Rattle.std.proofs.Common.{ap, sym, ◌∙◌, ◌++◌, ◌/◌, ◌%◌, append_assoc, arith}
use Rattle.std.specs.Prelude.{decimal}
use Rattle.line_fields.specs.Writers.{two_digits}
use Rattle.line_fields.proofs.DigitLemmas.{decimal_hundreds}
use Rattle.line_fields.proofs.lines.push_four.Goals as goal

pub returns-else-value-lt100-clause-text : goal.returns-else-value-lt100-clause-text
returns-else-value-lt100-clause-text c =
    rw (c.push_pair.ensures.text, c.push_small-else-value-lt100.ensures.text)
    (append_assoc c.args.out.now.items (decimal (c.args.value / 100))
    (two_digits (c.args.value % 100)) ∙ ap (λ ds. c.args.out.now.items ++ ds)
    (sym (decimal_hundreds c.args.value (omega (arith, c.if-value-lt100.false))
    (omega (arith, c.requires.small)))))
