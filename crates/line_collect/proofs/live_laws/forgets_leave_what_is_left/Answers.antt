use Rattle.line_collect.proofs.LeftLemmas.{forgotten_left}
use Rattle.line_collect.proofs.live_laws.forgets_leave_what_is_left.Goals as goal

pub returns : goal.returns
returns c live new whole left forgets = forgotten_left live whole left new forgets
