-- The law, by its two lemmas.
use Rattle.line_laws.proofs.NextLemmas.{stays_fit, link_after}
use Rattle.line_laws.proofs.fits.event_fits.Goals as goal

pub returns-clause-fit : goal.returns-clause-fit
returns-clause-fit c = stays_fit

pub returns-clause-links : goal.returns-clause-links
returns-clause-links c = link_after
