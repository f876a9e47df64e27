use Rattle.std.proofs.Common.{◌≡◌, List, length, ap, refl, ◌∙◌, sym}
use Rattle.line_text.specs.Answers.{floors_above, shown_records}
use Rattle.line_fields.specs.Texts.{records_text}
use Rattle.line_tape.specs.History.{Process}
use Rattle.line_collect.specs.Answers.{Given}
use Rattle.line_collect.specs.LiveAnswers.{live_history_records}
use Rattle.line_collect.proofs.AnswerLemmas.{does_written}
use Rattle.line_collect.proofs.answering.put_collected.Goals as goal

pub returns : goal.returns
returns g c =
    let same : records_text (live_history_records c.args.live.now)
    ≡ records_text (shown_records (floors_above (length c.history.result.now.processes)
    c.floor.result.now) c.history.result.now.processes) =
    rw (c.history.ensures.value, c.kept.ensures, c.floor.ensures) refl in
    rw c.outcome_if_written.ensures
    (does_written _ _ _ (Given (live_history_records c.args.live.now)) _ _ _ _ _ _ _ _ _
    (refl, (refl, refl)) refl same c.put_left_history-put.ensures)
