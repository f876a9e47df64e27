use Rattle.line_claims.specs.Records.{bars_records, damages_records, in_order}
use Rattle.line_devices.proofs.OutputLemmas.{outputs_front, outputs_on}
use Rattle.line_fields.proofs.OutletLemmas.{both_texts}
use Rattle.line_fields.specs.Texts.{records_text}
use Rattle.line_claims.proofs.marks.put_marks.Goals as goal

pub returns-in_err-put_damages : goal.returns-in_err-put_damages
returns-in_err-put_damages g c = outputs_front _ _ _ _
    (records_text
    (damages_records 0 (in_order c.args.history.now.processes c.args.marks.now).damaged))
    (records_text (bars_records 0 (in_order c.args.history.now.processes c.args.marks.now).bars)) _
    (both_texts (damages_records 0 (in_order c.args.history.now.processes c.args.marks.now).damaged)
    (bars_records 0 (in_order c.args.history.now.processes c.args.marks.now).bars))
    c.in_err-put_damages.ensures c.from_residual.ensures.1

pub returns : goal.returns
returns g c = outputs_on _
    (records_text
    (damages_records 0 (in_order c.args.history.now.processes c.args.marks.now).damaged))
    (records_text (bars_records 0 (in_order c.args.history.now.processes c.args.marks.now).bars)) _
    (both_texts (damages_records 0 (in_order c.args.history.now.processes c.args.marks.now).damaged)
    (bars_records 0 (in_order c.args.history.now.processes c.args.marks.now).bars))
    c.in_ok-put_damages.ensures c.put_bars.ensures
