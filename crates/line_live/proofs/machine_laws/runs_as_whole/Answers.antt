-- The law, step by step.
use Rattle.line_live.proofs.StepLives.{run_alike}
use Rattle.line_live.proofs.machine_laws.runs_as_whole.Goals as goal

pub returns : goal.returns
returns c = run_alike
