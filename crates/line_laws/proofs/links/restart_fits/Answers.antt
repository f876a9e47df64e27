-- The law, by what is sent and received before the line.
use Rattle.line_laws.proofs.LinkLemmas.{restart_fit, restart_link}
use Rattle.line_laws.proofs.LetterLemmas.{restarted_held}
use Rattle.line_laws.proofs.links.restart_fits.Goals as goal

pub returns-clause-fit : goal.returns-clause-fit
returns-clause-fit c = restart_fit

pub returns-clause-links : goal.returns-clause-links
returns-clause-links c = restart_link

pub returns-clause-agrees : goal.returns-clause-agrees
returns-clause-agrees c = restarted_held
