use Rattle.std.proofs.Common.{◌≡◌, length, take, List, arith, refl}
use Rattle.std.proofs.lemmas.List.{take_all}
use Rattle.std.specs.Prelude.{map}
use Rattle.line_devices.proofs.OutputLemmas.{outputs_front, outputs_on}
use Rattle.line_fields.specs.Texts.{record_text, records_text}
use Rattle.line_tape.specs.declared.events.Event.{Event}
use Rattle.line_tape.specs.History.{Process, process_at, tape_at}
use Rattle.line_claims.specs.Records.{event_record, tape_record}
use Rattle.line_claims.proofs.writers.put_tape_of.Goals as goal

pub returns-in_err-put_numbers-clause-put : goal.returns-in_err-put_numbers-clause-put
returns-in_err-put_numbers-clause-put g c =
    let process : Process = process_at c.args.history.now.processes c.args.p in
    outputs_front _ _ _ _ (record_text (tape_record c.args.p process.incarnation))
    (records_text (map event_record process.tape)) _ refl (rw (
      c.get-place.ensures.value,
      c.incarnation-inc.ensures,
    ) at c.in_err-put_numbers.ensures) c.from_residual.ensures.1

pub returns-clause-put : goal.returns-clause-put
returns-clause-put g c =
    let process : Process = process_at c.args.history.now.processes c.args.p in
    let tape : List Event = tape_at c.args.history.now.processes c.args.p in
    let whole : take (length tape) tape ≡ tape = take_all (length tape) tape (omega arith) in
    outputs_on _ (record_text (tape_record c.args.p process.incarnation))
    (records_text (map event_record process.tape)) _ refl
    (rw (c.get-place.ensures.value, c.incarnation-inc.ensures) at c.in_ok-put_numbers.ensures)
    (rw (c.front-events.ensures, c.tape.ensures.events, whole) at c.put_events.ensures.put)
