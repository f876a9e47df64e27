-- The law, by what stands before each check.
use Rattle.line_laws.proofs.SnapshotLemmas.{event_transit, snapshot_event, snapshot_restarted}
use Rattle.line_laws.proofs.rounds.snapshots_stay.Goals as goal

pub returns-clause-transit : goal.returns-clause-transit
returns-clause-transit c = event_transit

pub returns-clause-event : goal.returns-clause-event
returns-clause-event c = snapshot_event

pub returns-clause-restart : goal.returns-clause-restart
returns-clause-restart c = snapshot_restarted
