use Rattle.line_collect.proofs.OrderLemmas.{same_histories}
use Rattle.line_collect.proofs.laws.histories_follow_each_process.Goals as goal

pub returns : goal.returns
returns c old new later these others one two same =
    same_histories old new later these others one two same
