use Rattle.std.proofs.Common.{◌++◌, ℕ, List, length, refl}
use Rattle.line_devices.proofs.OutputLemmas.{outputs_front, outputs_on}
use Rattle.line_fields.proofs.OutletLemmas.{both_texts}
use Rattle.line_fields.specs.Records.{Record}
use Rattle.line_fields.specs.Texts.{record_text, records_text}
use Rattle.line_plan.specs.declared.plans.Plan.{Plan}
use Rattle.line_text.specs.Replies.{process_records, pass_records, recovered_record}
use Rattle.line_text.specs.Replies.{replay_records}
use Rattle.line_text.proofs.replies.recoveries.put_recovery.Goals as goal

abbrev head : List ℕ → Plan → Record
head word plan =
    recovered_record word plan.sweeps (length plan.certificate.items) (length plan.replays.items)

abbrev rest : Plan → List Record
rest plan = pass_records plan.certificate.items ++ replay_records plan.replays.items

pub returns-in_err-put_numbers : goal.returns-in_err-put_numbers
returns-in_err-put_numbers g c =
    outputs_front _ _ _ _ (record_text (head c.args.word.now c.args.plan.now))
    (records_text (process_records c.args.plan.now.line c.args.incarnations.now.items
    c.args.states.now.items ++ rest c.args.plan.now)) _ refl
    (rw (c.as_slice-entries.ensures.value, c.as_slice-replays.ensures.value) at
    c.in_err-put_numbers.ensures) c.from_residual.ensures.1

pub returns-in_err-put_lines : goal.returns-in_err-put_lines
returns-in_err-put_lines g c =
    outputs_on _ (record_text (head c.args.word.now c.args.plan.now))
    (records_text (process_records c.args.plan.now.line c.args.incarnations.now.items
    c.args.states.now.items ++ rest c.args.plan.now)) _ refl
    (rw (c.as_slice-entries.ensures.value, c.as_slice-replays.ensures.value) at
    c.in_ok-put_numbers.ensures)
    (outputs_front _ _ _ _
    (records_text (process_records c.args.plan.now.line c.args.incarnations.now.items
    c.args.states.now.items)) (records_text (rest c.args.plan.now)) _
    (both_texts (process_records c.args.plan.now.line c.args.incarnations.now.items
    c.args.states.now.items) (rest c.args.plan.now))
    (rw (c.choices-choices.ensures.value, c.as_slice.ensures.value, c.as_slice-2.ensures.value) at
    c.in_err-put_lines.ensures) c.from_residual-in_err-put_lines.ensures.1)

pub returns-in_err-put_certificate : goal.returns-in_err-put_certificate
returns-in_err-put_certificate g c =
    outputs_on _ (record_text (head c.args.word.now c.args.plan.now))
    (records_text (process_records c.args.plan.now.line c.args.incarnations.now.items
    c.args.states.now.items ++ rest c.args.plan.now)) _ refl
    (rw (c.as_slice-entries.ensures.value, c.as_slice-replays.ensures.value) at
    c.in_ok-put_numbers.ensures)
    (outputs_on _ (records_text (process_records c.args.plan.now.line c.args.incarnations.now.items
    c.args.states.now.items)) (records_text (rest c.args.plan.now)) _
    (both_texts (process_records c.args.plan.now.line c.args.incarnations.now.items
    c.args.states.now.items) (rest c.args.plan.now))
    (rw (c.choices-choices.ensures.value, c.as_slice.ensures.value, c.as_slice-2.ensures.value) at
    c.in_ok-put_lines.ensures)
    (outputs_front _ _ _ _ (records_text (pass_records c.args.plan.now.certificate.items))
    (records_text (replay_records c.args.plan.now.replays.items)) _
    (both_texts (pass_records c.args.plan.now.certificate.items)
    (replay_records c.args.plan.now.replays.items))
    (rw c.as_slice-entries.ensures.value at c.in_err-put_certificate.ensures)
    c.from_residual-in_err-put_certificate.ensures.1))

pub returns : goal.returns
returns g c =
    outputs_on _ (record_text (head c.args.word.now c.args.plan.now))
    (records_text (process_records c.args.plan.now.line c.args.incarnations.now.items
    c.args.states.now.items ++ rest c.args.plan.now)) _ refl
    (rw (c.as_slice-entries.ensures.value, c.as_slice-replays.ensures.value) at
    c.in_ok-put_numbers.ensures)
    (outputs_on _ (records_text (process_records c.args.plan.now.line c.args.incarnations.now.items
    c.args.states.now.items)) (records_text (rest c.args.plan.now)) _
    (both_texts (process_records c.args.plan.now.line c.args.incarnations.now.items
    c.args.states.now.items) (rest c.args.plan.now))
    (rw (c.choices-choices.ensures.value, c.as_slice.ensures.value, c.as_slice-2.ensures.value) at
    c.in_ok-put_lines.ensures)
    (outputs_on _ (records_text (pass_records c.args.plan.now.certificate.items))
    (records_text (replay_records c.args.plan.now.replays.items)) _
    (both_texts (pass_records c.args.plan.now.certificate.items)
    (replay_records c.args.plan.now.replays.items))
    (rw c.as_slice-entries.ensures.value at c.in_ok-put_certificate.ensures)
    (rw c.as_slice-replays.ensures.value at c.put_replays.ensures)))
