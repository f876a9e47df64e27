use Rattle.std.proofs.Common.{arith, w8, take}
use Rattle.std.proofs.lemmas.Simd.{chunk-fits, length-chunk}
use Rattle.line_fields.proofs.LaneLemmas.{eight_are, values_are}
use Rattle.line_fields.proofs.digits.first_eight.Goals as goal

pub returns-clause-digits : goal.returns-clause-digits
returns-clause-digits c =
    let long = length-chunk 0 16 c.args.text.now (omega arith) in
    eight_are (take 16 c.args.text.now) _ long (values_are 16 (take 16 c.args.text.now) long
    (chunk-fits w8 0 16 c.args.text.now c.type_inv.text)) c.if-lanes-ne0.false
