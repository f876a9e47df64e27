use Rattle.line_collect.proofs.LeftLemmas.{live_plan_is}
use Rattle.line_collect.proofs.live_laws.live_plans_are_of_all.Goals as goal

pub returns : goal.returns
returns c live whole failed plan left is = live_plan_is live whole failed plan left is
