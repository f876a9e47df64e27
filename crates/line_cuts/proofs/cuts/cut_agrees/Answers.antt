use Rattle.line_cuts.proofs.AgreementCuts.{agrees_cut, history_cut, on_checks_cut}
use Rattle.line_cuts.proofs.cuts.cut_agrees.Goals as goal

pub returns-clause-names : goal.returns-clause-names
returns-clause-names c history floor is = agrees_cut floor history is

pub returns-clause-checks : goal.returns-clause-checks
returns-clause-checks c history floor marks is on = on_checks_cut floor history marks is on

pub returns-clause-limits : goal.returns-clause-limits
returns-clause-limits c history floor is = history_cut floor history is
