use Rattle.line_collect.proofs.CutLemmas.{never_received}
use Rattle.line_collect.proofs.laws.cut_messages_are_not_received.Goals as goal

pub returns : goal.returns
returns c old mid new these by inc message records within unheld apart takes answers =
    never_received old mid new these by inc message records within unheld apart takes answers
