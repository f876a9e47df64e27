use Rattle.std.proofs.Common.{arith, w8, take}
use Rattle.std.proofs.lemmas.Simd.{chunk-fits, length-chunk}
use Rattle.line_fields.proofs.LaneLemmas.{four_are, values_are}
use Rattle.line_fields.proofs.digits.first_four.Goals as goal

pub returns-clause-digits : goal.returns-clause-digits
returns-clause-digits c =
    let long = length-chunk 0 8 c.args.text.now (omega arith) in
    four_are (take 8 c.args.text.now) _ long (values_are 8 (take 8 c.args.text.now) long
    (chunk-fits w8 0 8 c.args.text.now c.type_inv.text)) c.if-lanes-ne0.false
