-- The law, by what the letters of each tape name.
use Rattle.line_tape.specs.Restart.{restarted_history}
use Rattle.line_laws.proofs.LetterLemmas.{open_are, open_restarted, parts, transit_sent}
use Rattle.line_laws.proofs.links.transit_parts.Goals as goal

pub returns-clause-before : goal.returns-clause-before
returns-clause-before c = λ history line. parts history line history (open_are history line)

pub returns-clause-after : goal.returns-clause-after
returns-clause-after c = λ history line e. parts history line (restarted_history history line)
    (open_restarted history line e)

pub returns-clause-held : goal.returns-clause-held
returns-clause-held c = λ history line e. transit_sent history line (restarted_history history line)
    (open_restarted history line e)
