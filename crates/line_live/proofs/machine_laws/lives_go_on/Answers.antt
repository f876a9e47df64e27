-- The law, by its lemma.
use Rattle.line_live.proofs.BeginLives.{goes_on_beside}
use Rattle.line_live.proofs.machine_laws.lives_go_on.Goals as goal

pub returns : goal.returns
returns c = goes_on_beside
