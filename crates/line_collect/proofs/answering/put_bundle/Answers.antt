use Rattle.std.proofs.Common.{◌≡◌, length, refl}
use Rattle.line_text.specs.Answers.{claimed_records, floors_above}
use Rattle.line_claims.specs.Records.{in_order, line_claim, version_of}
use Rattle.line_fields.specs.Texts.{records_text}
use Rattle.line_collect.specs.Answers.{Given}
use Rattle.line_collect.specs.LiveAnswers.{live_bundle_records}
use Rattle.line_collect.proofs.AnswerLemmas.{does_written}
use Rattle.line_collect.proofs.answering.put_bundle.Goals as goal

pub returns-in-Ok : goal.returns-in-Ok
returns-in-Ok g c =
    let history = c.history.result.now.processes in
    let marks = in_order history c.marks.result.now in
    let same : records_text (live_bundle_records c.args.live.now c.args.failed.now c.in-Ok.plan)
    ≡ records_text
    (claimed_records (version_of marks) (floors_above (length history) c.floor.result.now)
    history (line_claim marks c.args.failed.now c.in-Ok.plan.line c.as_slice.result.now)) =
    rw (
      c.history.ensures.value,
      c.marks.ensures,
      c.kept-kept.ensures,
      c.floor.ensures,
      c.as_slice.ensures.value,
    ) refl in
    rw c.outcome_if_written.ensures
    (does_written _ _ _
    (Given (live_bundle_records c.args.live.now c.args.failed.now c.in-Ok.plan)) _ _ _ _ _ _ _ _
    _ (refl, (c.in-Ok.plan, (rw c.kept-kept.ensures at c.in-Ok.ensures), refl, refl)) refl same
    c.put_left_claim-put.ensures)
