use Rattle.std.proofs.Common.{◌<◌, ◌≤◌, ◌∷◌, [], ap, sym, ◌∙◌, arith}
use Rattle.line_devices.proofs.OutputLemmas.{out_front, out_left, out_more, out_none}
use Rattle.line_names.specs.Sets.{is_member}
use Rattle.line_claims.proofs.WriteLemmas.{before_members, next_member, next_other, no_member}
use Rattle.line_claims.proofs.WriteLemmas.{out_last}
use Rattle.line_claims.proofs.judgements.put_failed.Goals.{then-has+in_ok-add_field, else-has}
use Rattle.line_claims.proofs.judgements.put_failed.Goals as goal

pub returns-in_err-begin_record : goal.returns-in_err-begin_record
returns-in_err-begin_record g c =
    out_front _ _ _ _ _ (before_members c.args.failed.now c.args.n)
    (out_none _ _ _ _) c.in_err-begin_record.ensures c.from_residual.ensures.1

pub loop-value-init : goal.loop-value-init
loop-value-init g c = out_more _ _ (before_members c.args.failed.now c.args.n)
    (out_none _ _ _ _) c.in_ok-begin_record.ensures

pub loop-value-preserved : goal.loop-value-preserved
loop-value-preserved g c =
    let lt : c.loop-value.value < c.args.n = omega arith in
    let there = ap (is_member c.args.failed.now) (sym c.in-Ok.ensures.1) ∙ sym c.has.ensures in
    elim c.if-has.branch [
      | then-has+in_ok-add_field w ↦ rw (w.writer-is, w.sink-is)
          (out_more _ _ (next_member c.args.failed.now c.args.n c.loop-value.value lt
          (there ∙ w.if-has.true)) c.loop-value.invariant w.in_ok-add_field.ensures)
      | else-has w ↦ rw (w.writer-is, w.sink-is)
          (out_left _ _ _ _ _ _ _ _ _ (next_other c.args.failed.now c.args.n c.loop-value.value lt
          (there ∙ w.if-has.false)) c.loop-value.invariant)
    ]

pub returns-in_err-add_field : goal.returns-in_err-add_field
returns-in_err-add_field g c =
    let lt : c.loop-value.value < c.args.n = omega arith in
    let there = ap (is_member c.args.failed.now) (sym c.in-Ok.ensures.1) ∙ sym c.has.ensures in
    out_front _ _ _ _ _
    (next_member c.args.failed.now c.args.n c.loop-value.value lt (there ∙ c.if-has.true))
    c.loop-value.invariant c.in_err-add_field.ensures c.from_residual-in_err-add_field.ensures.1

pub returns : goal.returns
returns g c =
    let le : c.args.n ≤ c.loop-value.value = omega arith in
    out_last (10 ∷ []) (no_member c.args.failed.now c.args.n c.loop-value.value le)
    c.loop-value.invariant c.close_record.ensures
