use Rattle.line_collect.proofs.LawLemmas.{same_after_fault, same_after_refusal}
use Rattle.line_collect.proofs.laws.faults_and_refusals_change_nothing.Goals as goal

pub returns-clause-faults : goal.returns-clause-faults
returns-clause-faults c old new one error h = same_after_fault old new one error h

pub returns-clause-refusals : goal.returns-clause-refusals
returns-clause-refusals c old new one code h = same_after_refusal old new one code h
