use Rattle.line_cuts.proofs.TwoCuts.{history_both}
use Rattle.line_cuts.proofs.cuts.cut_twice.Goals as goal

pub returns : goal.returns
returns c floor later history long base some rising =
    history_both floor later history long base some rising
