-- The law of a life, thing by thing; and a step is one that is answered, or refused for what was
-- let
-- go.
use Rattle.line_live.proofs.WholeLives.{life_of_whole, lived_step}
use Rattle.line_live.proofs.life_laws.lives_answer_as_whole.Goals as goal

pub returns-clause-whole : goal.returns-clause-whole
returns-clause-whole c n mode lived live life = life_of_whole n mode lived live life

pub returns-clause-steps : goal.returns-clause-steps
returns-clause-steps c old new step answer takes = lived_step old new step answer takes
