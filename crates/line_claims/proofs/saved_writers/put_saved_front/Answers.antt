use Rattle.std.proofs.Common.{List, length}
use Rattle.line_devices.proofs.OutputLemmas.{outputs_front, outputs_on}
use Rattle.line_fields.proofs.OutletLemmas.{both_texts}
use Rattle.line_fields.specs.Records.{Record}
use Rattle.line_fields.specs.Texts.{records_text}
use Rattle.line_claims.specs.Records.{floors_at, front_records, in_order, marks_records}
use Rattle.line_claims.proofs.saved_writers.put_saved_front.Goals as goal

pub returns-in_err-put_history_from : goal.returns-in_err-put_history_from
returns-in_err-put_history_from g c =
    let front : List Record = front_records 4 (floors_at (length c.args.history.now.processes)
    c.args.floor.now.checks.now c.args.floor.now.sends.now) c.args.history.now.processes in
    let marks : List Record = marks_records
    (in_order c.args.history.now.processes c.args.marks.now) in
    outputs_front _ _ _ _ (records_text front) (records_text marks) _
    (both_texts front marks) c.in_err-put_history_from.ensures.put c.from_residual.ensures.1

pub returns : goal.returns
returns g c =
    let front : List Record = front_records 4 (floors_at (length c.args.history.now.processes)
    c.args.floor.now.checks.now c.args.floor.now.sends.now) c.args.history.now.processes in
    let marks : List Record = marks_records
    (in_order c.args.history.now.processes c.args.marks.now) in
    outputs_on _ (records_text front) (records_text marks) _
    (both_texts front marks) c.in_ok-put_history_from.ensures.put c.put_marks.ensures
