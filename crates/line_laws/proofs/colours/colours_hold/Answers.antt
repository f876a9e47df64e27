-- The law, by what events and restarts do to a tape.
use Rattle.line_laws.proofs.ColourLemmas.{rounds_ascend}
use Rattle.line_tape.specs.History.{tape_at}
use Rattle.line_laws.proofs.ColourRounds.{coloured_start, coloured_event, coloured_restarted}
use Rattle.line_laws.proofs.colours.colours_hold.Goals as goal

pub returns-clause-start : goal.returns-clause-start
returns-clause-start c = coloured_start

pub returns-clause-event : goal.returns-clause-event
returns-clause-event c = coloured_event

pub returns-clause-restart : goal.returns-clause-restart
returns-clause-restart c = coloured_restarted

pub returns-clause-ascend : goal.returns-clause-ascend
returns-clause-ascend c = λ history coloured p. rounds_ascend (tape_at history p) (coloured.rise p)
