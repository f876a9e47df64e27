-- The law, by what each step leaves of the rounds.
use Rattle.line_world.proofs.SoundFacts.{goes-taken, reaches-taken, sound, Run-parted, Run-stands}
use Rattle.line_world.proofs.SoundFacts.{Stands-start}
use Rattle.line_world.specs.Machine.{start}
use Rattle.line_world.proofs.laws.runs_keep_rounds.Goals as goal

pub returns-clause-sound : goal.returns-clause-sound
returns-clause-sound c = λ n mode steps answers machine run. sound machine
    (Run-stands (start n mode) machine steps answers (Stands-start n mode) run)

pub returns-clause-last : goal.returns-clause-last
returns-clause-last c = λ n mode steps answers old step answer new run takes.
    (goes-taken old new step answer
    (Run-stands (start n mode) old steps answers (Stands-start n mode) run) takes).completes

pub returns-clause-recovered : goal.returns-clause-recovered
returns-clause-recovered c = λ n mode steps answers old step answer new run takes. reaches-taken old
    new step answer (Run-stands (start n mode) old steps answers (Stands-start n mode) run) takes

pub returns-clause-parts : goal.returns-clause-parts
returns-clause-parts c = λ old steps more answers new run. Run-parted old new steps more answers run
