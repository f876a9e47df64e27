-- The law of a step, by whether something was let go.
use Rattle.line_live.proofs.WholeLives.{told_by_whole}
use Rattle.line_live.proofs.life_laws.live_steps_answer_as_whole.Goals as goal

pub returns : goal.returns
returns c live new whole step answer left none is =
    told_by_whole live new whole step answer left none is
