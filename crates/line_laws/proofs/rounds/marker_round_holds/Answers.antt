-- The law, by what each tape has before and after its check.
use Rattle.line_laws.proofs.RoundLines.{completed_checked, round_is_line, round_consistent}
use Rattle.line_laws.proofs.RoundLines.{marker_snapshot}
use Rattle.line_laws.proofs.rounds.marker_round_holds.Goals as goal

pub returns-clause-checked : goal.returns-clause-checked
returns-clause-checked c = completed_checked

pub returns-clause-line : goal.returns-clause-line
returns-clause-line c = round_is_line

pub returns-clause-consistent : goal.returns-clause-consistent
returns-clause-consistent c = round_consistent

pub returns-clause-snapshot : goal.returns-clause-snapshot
returns-clause-snapshot c = marker_snapshot
