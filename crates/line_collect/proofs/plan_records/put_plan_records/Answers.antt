use Rattle.std.proofs.Common.{◌++◌, ℕ, List, length, refl}
use Rattle.line_devices.proofs.OutputLemmas.{outputs_front, outputs_on}
use Rattle.line_fields.proofs.OutletLemmas.{both_texts}
use Rattle.line_fields.specs.Records.{Record}
use Rattle.line_fields.specs.Texts.{record_text, records_text}
use Rattle.line_plan.specs.declared.plans.Plan.{Plan}
use Rattle.line_text.specs.Replies.{pass_records, recovered_record, replay_records}
use Rattle.line_collect.specs.LiveAnswers.{live_going_on_records}
use Rattle.line_collect.specs.Lives.{LiveCollectionView}
use Rattle.line_collect.proofs.plan_records.put_plan_records.Goals as goal

abbrev head : List ℕ → Plan → Record
head word plan =
    recovered_record word plan.sweeps (length plan.certificate.items) (length plan.replays.items)

abbrev lines : LiveCollectionView → Plan → List Record
lines live plan = live_going_on_records live plan.line

abbrev rest : Plan → List Record
rest plan = pass_records plan.certificate.items ++ replay_records plan.replays.items

pub returns-in_err-put_numbers : goal.returns-in_err-put_numbers
returns-in_err-put_numbers g c =
    outputs_front _ _ _ _ (record_text (head c.args.word.now c.args.plan.now))
    (records_text (lines c.args.live.now c.args.plan.now ++ rest c.args.plan.now)) _ refl
    (rw (c.as_slice-entries.ensures.value, c.as_slice-replays.ensures.value) at
    c.in_err-put_numbers.ensures) c.from_residual.ensures.1

pub returns-in_err-put_all_going_on : goal.returns-in_err-put_all_going_on
returns-in_err-put_all_going_on g c =
    outputs_on _ (record_text (head c.args.word.now c.args.plan.now))
    (records_text (lines c.args.live.now c.args.plan.now ++ rest c.args.plan.now)) _ refl
    (rw (c.as_slice-entries.ensures.value, c.as_slice-replays.ensures.value) at
    c.in_ok-put_numbers.ensures)
    (outputs_front _ _ _ _ (records_text (lines c.args.live.now c.args.plan.now))
    (records_text (rest c.args.plan.now)) _
    (both_texts (lines c.args.live.now c.args.plan.now) (rest c.args.plan.now))
    c.in_err-put_all_going_on.ensures c.from_residual-in_err-put_all_going_on.ensures.1)

pub returns-in_err-put_certificate : goal.returns-in_err-put_certificate
returns-in_err-put_certificate g c =
    outputs_on _ (record_text (head c.args.word.now c.args.plan.now))
    (records_text (lines c.args.live.now c.args.plan.now ++ rest c.args.plan.now)) _ refl
    (rw (c.as_slice-entries.ensures.value, c.as_slice-replays.ensures.value) at
    c.in_ok-put_numbers.ensures)
    (outputs_on _ (records_text (lines c.args.live.now c.args.plan.now))
    (records_text (rest c.args.plan.now)) _
    (both_texts (lines c.args.live.now c.args.plan.now) (rest c.args.plan.now))
    c.in_ok-put_all_going_on.ensures
    (outputs_front _ _ _ _ (records_text (pass_records c.args.plan.now.certificate.items))
    (records_text (replay_records c.args.plan.now.replays.items)) _
    (both_texts (pass_records c.args.plan.now.certificate.items)
    (replay_records c.args.plan.now.replays.items))
    (rw c.as_slice-entries.ensures.value at c.in_err-put_certificate.ensures)
    c.from_residual-in_err-put_certificate.ensures.1))

pub returns : goal.returns
returns g c =
    outputs_on _ (record_text (head c.args.word.now c.args.plan.now))
    (records_text (lines c.args.live.now c.args.plan.now ++ rest c.args.plan.now)) _ refl
    (rw (c.as_slice-entries.ensures.value, c.as_slice-replays.ensures.value) at
    c.in_ok-put_numbers.ensures)
    (outputs_on _ (records_text (lines c.args.live.now c.args.plan.now))
    (records_text (rest c.args.plan.now)) _
    (both_texts (lines c.args.live.now c.args.plan.now) (rest c.args.plan.now))
    c.in_ok-put_all_going_on.ensures
    (outputs_on _ (records_text (pass_records c.args.plan.now.certificate.items))
    (records_text (replay_records c.args.plan.now.replays.items)) _
    (both_texts (pass_records c.args.plan.now.certificate.items)
    (replay_records c.args.plan.now.replays.items))
    (rw c.as_slice-entries.ensures.value at c.in_ok-put_certificate.ensures)
    (rw c.as_slice-replays.ensures.value at c.put_replays.ensures)))
