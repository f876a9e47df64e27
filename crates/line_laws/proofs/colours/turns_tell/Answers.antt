-- The law, by its lemmas.
use Rattle.line_laws.proofs.TurnLemmas.{colour_of_turns, colour_of_message, turns_push, turns_idle}
use Rattle.line_laws.proofs.TurnLemmas.{turns_restarted, turn_sends_rise, turn_rounds_rise}
use Rattle.line_laws.proofs.TurnLemmas.{colour_at_turn, greatest_is_last, colour_by_push}
use Rattle.line_laws.proofs.colours.turns_tell.Goals as goal

pub returns-clause-colour : goal.returns-clause-colour
returns-clause-colour c = colour_of_turns

pub returns-clause-message : goal.returns-clause-message
returns-clause-message c = colour_of_message

pub returns-clause-check : goal.returns-clause-check
returns-clause-check c = turns_push

pub returns-clause-other : goal.returns-clause-other
returns-clause-other c = turns_idle

pub returns-clause-restart : goal.returns-clause-restart
returns-clause-restart c = turns_restarted

pub returns-clause-sends : goal.returns-clause-sends
returns-clause-sends c = turn_sends_rise

pub returns-clause-rounds : goal.returns-clause-rounds
returns-clause-rounds c = turn_rounds_rise

pub returns-clause-found : goal.returns-clause-found
returns-clause-found c = colour_at_turn

pub returns-clause-last : goal.returns-clause-last
returns-clause-last c = greatest_is_last

pub returns-clause-push : goal.returns-clause-push
returns-clause-push c = colour_by_push
