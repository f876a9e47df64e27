-- At first there is none.
use Rattle.std.proofs.Common.{sym, ◌∙◌}
use Rattle.std.proofs.lemmas.Bool.{false≢true}
use Rattle.line_catalogue.proofs.strangers.find_strangers.Goals as goal

pub loop-r-init : goal.loop-r-init
loop-r-init c = λ q m member among. absurd (false≢true (sym (c.empty-set.ensures.none q) ∙ member))
