-- The law, by its lemmas.
use Rattle.line_laws.proofs.ColourLemmas.{colour-check, colour-other, colour-least, colour-reached}
use Rattle.line_laws.proofs.ColourLemmas.{message_colour_event, message_colour_sent}
use Rattle.line_laws.proofs.ColourLemmas.{message_colour_below, colour_restarted}
use Rattle.line_laws.proofs.colours.colours_change.Goals as goal

pub returns-clause-check : goal.returns-clause-check
returns-clause-check c = colour-check

pub returns-clause-other : goal.returns-clause-other
returns-clause-other c = colour-other

pub returns-clause-sent : goal.returns-clause-sent
returns-clause-sent c = message_colour_sent

pub returns-clause-message : goal.returns-clause-message
returns-clause-message c = message_colour_event

pub returns-clause-restart : goal.returns-clause-restart
returns-clause-restart c = colour_restarted

pub returns-clause-below : goal.returns-clause-below
returns-clause-below c = message_colour_below

pub returns-clause-at_least : goal.returns-clause-at_least
returns-clause-at_least c = colour-least

pub returns-clause-reached : goal.returns-clause-reached
returns-clause-reached c = colour-reached
