-- The law, by its lemma.
use Rattle.line_live.proofs.BeginLives.{begins_beside}
use Rattle.line_live.proofs.machine_laws.lives_begin.Goals as goal

pub returns : goal.returns
returns c = begins_beside
