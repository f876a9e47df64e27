-- The law, by its lemmas.
use Rattle.line_live.proofs.LaterLives.{kept_sound, snapshots_left}
use Rattle.line_live.proofs.machine_laws.lives_stay_sound.Goals as goal

pub returns-clause-sound : goal.returns-clause-sound
returns-clause-sound c floor machine may = kept_sound floor machine may

pub returns-clause-snapshots : goal.returns-clause-snapshots
returns-clause-snapshots c floor machine is snapshots =
    snapshots_left floor machine.history is.fit is.is machine.rounds snapshots
