use Rattle.std.proofs.Common.{[], ◌∷◌}
use Rattle.line_fields.specs.Texts.{record_text}
use Rattle.line_devices.proofs.OutputLemmas.{outputs_front, outputs_on}
use Rattle.line_text.specs.Rules.{error_code, fault_record, text_with_end}
use Rattle.line_text.proofs.RecordLemmas.{fault_text}
use Rattle.line_text.proofs.faults.put_fault.Goals as goal

pub returns-in_err-put_ending : goal.returns-in_err-put_ending
returns-in_err-put_ending g c =
    let text = fault_text c.args.error in
    let own = rw (c.as_bytes-name.ensures.value, c.name_of.ensures.name, c.error_code-code.ensures)
    at c.in_err-put_ending.ensures in
    outputs_front _ _ _ _ (record_text (fault_record (error_code c.args.error))) (10 ∷ [])
    (text_with_end (fault_record (error_code c.args.error) ∷ [])) text own
    c.from_residual.ensures.1

pub returns : goal.returns
returns g c =
    let text = fault_text c.args.error in
    let own = rw (c.as_bytes-name.ensures.value, c.name_of.ensures.name, c.error_code-code.ensures)
    at c.in_ok-put_ending.ensures in
    outputs_on _ (record_text (fault_record (error_code c.args.error))) (10 ∷ []) (text_with_end
    (fault_record (error_code c.args.error) ∷ [])) text own c.close_record.ensures
