-- The record of the round, and those of the floor, are written one after the other.
use Rattle.std.proofs.Common.{refl}
use Rattle.line_devices.proofs.OutputLemmas.{outputs_front, outputs_on}
use Rattle.line_fields.specs.Texts.{record_text, records_text}
use Rattle.line_claims.specs.Records.{floors_records}
use Rattle.line_text.specs.Answers.{floors_before, forgot_record}
use Rattle.line_text.proofs.forgets.put_let_go.Goals as goal

pub returns-in_err-put_fields : goal.returns-in_err-put_fields
returns-in_err-put_fields g c =
    outputs_front _ _ _ _ (record_text (forgot_record c.args.round))
    (records_text (floors_records 0 (floors_before c.args.n c.args.floor.now))) _ refl
    (rw c.number_field.ensures at c.in_err-put_fields.ensures) c.from_residual.ensures.1

pub returns : goal.returns
returns g c =
    outputs_on _ (record_text (forgot_record c.args.round))
    (records_text (floors_records 0 (floors_before c.args.n c.args.floor.now))) _ refl
    (rw c.number_field.ensures at c.in_ok-put_fields.ensures)
    (rw (c.floor_ref.ensures.checks, c.floor_ref.ensures.sends) at c.put_floors.ensures)
