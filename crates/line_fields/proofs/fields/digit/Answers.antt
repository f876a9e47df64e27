use Rattle.std.proofs.Common.{◌∙◌, sym}
use Rattle.line_fields.proofs.DigitLemmas.{digit_at, entry_none, entry_some}
use Rattle.line_fields.proofs.fields.digit.Goals as goal

pub returns-then-value : goal.returns-then-value
returns-then-value c = entry_none _ c.if-value.true ∙ sym (digit_at c.args.byte c.ranges.byte.fits)

pub returns : goal.returns
returns c = entry_some _ c.if-value.false ∙ sym (digit_at c.args.byte c.ranges.byte.fits)
