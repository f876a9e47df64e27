-- The law, by the colours before each tape's check.
use Rattle.line_laws.proofs.ColourRounds.{colour_snapshot}
use Rattle.line_laws.proofs.colours.colour_round_holds.Goals as goal

pub returns : goal.returns
returns c = colour_snapshot
