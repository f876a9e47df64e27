use Rattle.std.proofs.lemmas.Slice.Eq.{slice_eq-Decides}
use Rattle.line_rounds.proofs.NameLemmas.{name-Decides}
use Rattle.line_rounds.proofs.runs.are_equal.Goals as goal

pub returns : goal.returns
returns c = slice_eq-Decides name-Decides c.args.one.now c.args.other.now c.eq.result c.eq.ensures
