use Rattle.line_cuts.proofs.FitCuts.{fit_cut, rounds_cut}
use Rattle.line_cuts.proofs.RoundCuts.{completed_cut}
use Rattle.line_cuts.proofs.cuts.cut_rounds.Goals as goal

pub returns-clause-fit : goal.returns-clause-fit
returns-clause-fit c history floor fit old rounds marks = fit_cut floor history fit old rounds marks

pub returns-clause-none : goal.returns-clause-none
returns-clause-none c history floor rounds p = rounds_cut floor history rounds p

pub returns-clause-completed : goal.returns-clause-completed
returns-clause-completed c history floor r old new = completed_cut floor history old r new
