use Rattle.line_service.proofs.LawLemmas.{none_behind_drop, same_behind_fault}
use Rattle.line_service.proofs.laws.faults_change_nothing.Goals as goal

pub returns-clause-faulted : goal.returns-clause-faulted
returns-clause-faulted c old new one error h = same_behind_fault old new one error h

pub returns-clause-dropped : goal.returns-clause-dropped
returns-clause-dropped c old new one error h = none_behind_drop old new one error h
