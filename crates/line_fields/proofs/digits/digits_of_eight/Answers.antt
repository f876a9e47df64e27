use Rattle.std.proofs.Common.{arith, w8, take}
use Rattle.std.proofs.lemmas.Simd.{chunk-fits, length-chunk}
use Rattle.line_fields.proofs.SpellLemmas.{spelled}
use Rattle.line_fields.proofs.digits.digits_of_eight.Goals as goal

pub returns : goal.returns
returns c =
    spelled (take 8 c.args.bytes.now)
    (length-chunk 0 8 c.args.bytes.now (omega (arith, c.requires)))
    (chunk-fits w8 0 8 c.args.bytes.now c.type_inv.bytes)
