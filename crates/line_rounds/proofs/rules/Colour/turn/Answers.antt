use Rattle.std.proofs.Common.{◌<◌, arith}
use Rattle.line_rounds.specs.Colours.{colour_of}
use Rattle.line_rounds.proofs.ColourLemmas.{colour_of-push}
use Rattle.line_rounds.proofs.rules.Colour.turn.Goals as goal

pub returns-clause-greatest : goal.returns-clause-greatest
returns-clause-greatest c = λ rounds e.
    let below : colour_of rounds < c.args.round = omega
    (arith, c.self.view_is) in colour_of-push rounds c.args.round below
