-- The law, by its lemmas.
use Rattle.line_live.proofs.LaterLives.{beside_later, further_later}
use Rattle.line_live.proofs.machine_laws.lives_go_further.Goals as goal

pub returns-clause-beside : goal.returns-clause-beside
returns-clause-beside c floor later machine is may some =
    beside_later floor later machine is may.idle may.last may.is may.stays some

pub returns-clause-further : goal.returns-clause-further
returns-clause-further c floor later machine is may some sends barred snapshots = further_later
    floor later machine is may.idle may.last may.is may.stays some sends barred snapshots
