use Rattle.std.proofs.Common.{◌<◌, ◌≤◌, sym, ◌∙◌, arith}
use Rattle.line_devices.proofs.OutputLemmas.{out_all, out_front, out_left, out_more, out_none}
use Rattle.line_claims.proofs.PartLemmas.{next_damaged, next_sound, no_check}
use Rattle.line_claims.proofs.marks.put_damages_of.Goals.{then-has+in_ok-put_numbers, else-has}
use Rattle.line_claims.proofs.marks.put_damages_of.Goals as goal

pub loop-before-init : goal.loop-before-init
loop-before-init g c = out_none _ _ _ _

pub loop-before-preserved : goal.loop-before-preserved
loop-before-preserved g c =
    let lt : c.loop-before.before < c.args.last = omega arith in
    elim c.if-has.branch [
      | then-has+in_ok-put_numbers w ↦ rw (w.writer-is, w.sink-is)
          (out_more _ _
          (next_damaged c.args.marks.now c.args.p c.args.last c.loop-before.before lt
          (sym c.has.ensures ∙ w.if-has.true)) c.loop-before.invariant
          (rw c.get-place.ensures.value at w.in_ok-put_numbers.ensures))
      | else-has w ↦ rw (w.writer-is, w.sink-is)
          (out_left _ _ _ _ _ _ _ _ _ (next_sound c.args.marks.now c.args.p c.args.last
          c.loop-before.before lt (sym c.has.ensures ∙ w.if-has.false)) c.loop-before.invariant)
    ]

pub returns-in_err-put_numbers : goal.returns-in_err-put_numbers
returns-in_err-put_numbers g c =
    let lt : c.loop-before.before < c.args.last = omega arith in
    out_front _ _ _ _ _
    (next_damaged c.args.marks.now c.args.p c.args.last c.loop-before.before lt
    (sym c.has.ensures ∙ c.if-has.true)) c.loop-before.invariant
    (rw c.get-place.ensures.value at c.in_err-put_numbers.ensures) c.from_residual.ensures.1

pub returns : goal.returns
returns g c =
    let le : c.args.last ≤ c.loop-before.before = omega arith in
    out_all tt (no_check c.args.marks.now c.args.p c.args.last c.loop-before.before le)
    c.loop-before.invariant
