use Rattle.std.proofs.Common.{List, length, refl}
use Rattle.line_devices.proofs.OutputLemmas.{outputs_front, outputs_on}
use Rattle.line_fields.specs.Texts.{record_text, records_text}
use Rattle.line_tape.specs.History.{Process}
use Rattle.line_claims.specs.Records.{history_record, tapes_records}
use Rattle.line_claims.proofs.writers.put_history.Goals as goal

pub returns-in_err-put_numbers-clause-put : goal.returns-in_err-put_numbers-clause-put
returns-in_err-put_numbers-clause-put g c =
    let history : List Process = c.args.history.now.processes in
    outputs_front _ _ _ _ (record_text (history_record c.args.version (length history)))
    (records_text (tapes_records 0 history)) _ refl
    (rw c.n-n.ensures.value at c.in_err-put_numbers.ensures) c.from_residual.ensures.1

pub returns-clause-put : goal.returns-clause-put
returns-clause-put g c =
    let history : List Process = c.args.history.now.processes in
    outputs_on _ (record_text (history_record c.args.version (length history)))
    (records_text (tapes_records 0 history)) _ refl
    (rw c.n-n.ensures.value at c.in_ok-put_numbers.ensures) c.put_tapes.ensures.put
