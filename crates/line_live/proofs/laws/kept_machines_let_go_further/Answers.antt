-- The law, by its lemmas.
use Rattle.line_live.proofs.AlikeLemmas.{kept_beside, kept_further}
use Rattle.line_live.proofs.laws.kept_machines_let_go_further.Goals as goal

pub returns-clause-beside : goal.returns-clause-beside
returns-clause-beside c floor later whole kept beside same idle last there stays some =
    kept_beside floor later whole kept beside same idle last there stays some

pub returns-clause-left : goal.returns-clause-left
returns-clause-left c floor later whole kept beside same idle last there stays some new cut sends
    barred snapshots = kept_further floor later whole kept beside same idle last there stays some
    new cut sends barred snapshots
