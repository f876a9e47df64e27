use Rattle.std.proofs.Common.{◌++◌, ◌∷◌, [], ◌∙◌, append_assoc, map, refl, sym}
use Rattle.std.specs.Prelude.{decimal}
use Rattle.std.specs.List.{join_with_byte}
use Rattle.line_devices.proofs.OutputLemmas.{outputs_front, outputs_on}
use Rattle.line_fields.specs.Outlets.{field_text}
use Rattle.line_fields.proofs.OutletLemmas.{ending_is}
use Rattle.line_fields.proofs.outlets.put_ending.Goals as goal

pub returns-in_err-begin_record : goal.returns-in_err-begin_record
returns-in_err-begin_record g c =
    outputs_front _ _ _ _ (join_with_byte 44 (c.args.name.now ∷ map decimal c.args.numbers.now))
    ((44 ∷ field_text c.args.last) ++ 10 ∷ []) _
    (ending_is c.args.name.now (map decimal c.args.numbers.now) (field_text c.args.last))
    c.in_err-begin_record.ensures c.from_residual.ensures.1

pub returns-in_err-add_field : goal.returns-in_err-add_field
returns-in_err-add_field g c =
    outputs_front _ _ _ _ (join_with_byte 44 (c.args.name.now ∷ map decimal c.args.numbers.now)
    ++ 44 ∷ field_text c.args.last) (10 ∷ []) _
    (ending_is c.args.name.now (map decimal c.args.numbers.now) (field_text c.args.last) ∙ sym
    (append_assoc (join_with_byte 44 (c.args.name.now ∷ map decimal c.args.numbers.now))
    (44 ∷ field_text c.args.last) (10 ∷ [])))
    (outputs_on _ _ _ _ refl c.in_ok-begin_record.ensures c.in_err-add_field.ensures)
    c.from_residual-in_err-add_field.ensures.1

pub returns : goal.returns
returns g c =
    outputs_on _ (join_with_byte 44 (c.args.name.now ∷ map decimal c.args.numbers.now))
    ((44 ∷ field_text c.args.last) ++ 10 ∷ []) _
    (ending_is c.args.name.now (map decimal c.args.numbers.now) (field_text c.args.last))
    c.in_ok-begin_record.ensures
    (outputs_on _ _ _ _ refl c.in_ok-add_field.ensures c.close_record.ensures)
