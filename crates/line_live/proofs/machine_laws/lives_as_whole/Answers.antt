-- The law, by the kind of step.
use Rattle.line_live.proofs.StepLives.{step_alike}
use Rattle.line_live.proofs.machine_laws.lives_as_whole.Goals as goal

pub returns : goal.returns
returns c = step_alike
