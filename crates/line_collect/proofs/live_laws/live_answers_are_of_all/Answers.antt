use Rattle.line_collect.proofs.AnsweredLemmas.{all_answered}
use Rattle.line_collect.proofs.live_laws.live_answers_are_of_all.Goals as goal

pub returns : goal.returns
returns c n all live answers = all_answered n all live answers
