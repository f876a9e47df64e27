use Rattle.std.proofs.Common.{◌≡◌, ◌-◌, ◌&&◌, ◌∙◌, ℕ, ap, arith, drop, length, refl, sym}
use Rattle.std.proofs.lemmas.Bool.{eqb-false}
use Rattle.line_fields.specs.Bytes.{is_input_text}
use Rattle.line_fields.proofs.TextLemmas.{common_front, empty_is_plain, plain_last, plain_more}
use Rattle.line_fields.proofs.bytes.is_plain.Goals as goal

pub loop-rest-preserved : goal.loop-rest-preserved
loop-rest-preserved c = common_front c.loop-rest.rest.now 4096
    (sym c.are_common.ensures ∙ c.if-are_common.true) ∙ c.loop-rest.invariant

pub returns-then-is_empty : goal.returns-then-is_empty
returns-then-is_empty c = sym (empty_is_plain c.loop-rest.rest.now
    (sym c.is_empty.ensures ∙ c.if-is_empty.true)) ∙ c.loop-rest.invariant

pub loop-i-preserved : goal.loop-i-preserved
loop-i-preserved c =
    plain_more c.loop-rest.rest.now c.loop-i.i c.loop-i.allowed _ (omega arith) c.loop-i.invariant
    (λ rest. rw c.is_common.ensures refl)

pub returns : goal.returns
returns c =
    let xs = c.loop-rest.rest.now in
    let some = eqb-false (length xs) 0 (sym c.is_empty.ensures ∙ c.if-is_empty.false) in
    let at : c.loop-i.i ≡ length xs - 1 = omega (arith, some) in
    sym
    (sym c.loop-rest.invariant ∙ c.loop-i.invariant ∙ ap
    (λ (i : ℕ). c.loop-i.allowed && is_input_text (drop i xs)) at
    ∙ plain_last xs (length xs - 1) c.loop-i.allowed c.is_common-2.result
    (omega (arith, some)) c.is_common-2.ensures)
