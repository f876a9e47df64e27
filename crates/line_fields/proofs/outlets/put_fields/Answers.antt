use Rattle.std.proofs.Common.{◌++◌, ◌∷◌, ◌∙◌, [], List, ℕ, ap, arith}
use Rattle.std.specs.List.{flat_map}
use Rattle.line_devices.proofs.OutputLemmas.{out_front, out_more, out_none, outputs_front}
use Rattle.line_devices.proofs.OutputLemmas.{outputs_on}
use Rattle.line_fields.specs.declared.outlets.Field.{Field}
use Rattle.line_fields.specs.Outlets.{field_text}
use Rattle.line_fields.proofs.OutletLemmas.{end_left, join_ends, parts_left}
use Rattle.line_fields.proofs.outlets.put_fields.Goals as goal

abbrev part : Field → List ℕ
part field = 44 ∷ field_text field

pub returns-in_err-begin_record : goal.returns-in_err-begin_record
returns-in_err-begin_record g c =
    outputs_front _ _ _ _ c.args.name.now (flat_map part c.args.fields.now ++ 10 ∷ []) _
    (join_ends field_text c.args.name.now c.args.fields.now (10 ∷ []))
    c.in_err-begin_record.ensures c.from_residual.ensures.1

pub loop-i-init : goal.loop-i-init
loop-i-init g c = out_more c.args.name.now _ (join_ends field_text c.args.name.now c.args.fields.now
    (10 ∷ [])) (out_none _ _ _ _) c.in_ok-begin_record.ensures

pub loop-i-preserved : goal.loop-i-preserved
loop-i-preserved g c = out_more _ _ (parts_left part c.args.fields.now c.loop-i.i _ (10 ∷ [])
    (omega arith)) c.loop-i.invariant c.in_ok-add_field.ensures

pub returns-in_err-add_field : goal.returns-in_err-add_field
returns-in_err-add_field g c =
    out_front _ _ _ _ _ (parts_left part c.args.fields.now c.loop-i.i _ (10 ∷ []) (omega arith))
    c.loop-i.invariant c.in_err-add_field.ensures c.from_residual-in_err-add_field.ensures.1

pub returns : goal.returns
returns g c =
    let before = c.loop-i.invariant in
    outputs_on _ before.done (10 ∷ []) _
    (before.parts ∙ ap (λ (t : List ℕ). before.done ++ t) (end_left part c.args.fields.now
    c.loop-i.i (10 ∷ []) (omega arith))) before.out c.close_record.ensures
