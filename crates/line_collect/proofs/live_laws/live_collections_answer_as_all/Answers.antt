use Rattle.line_collect.proofs.AllLemmas.{all_done}
use Rattle.line_collect.proofs.live_laws.live_collections_answer_as_all.Goals as goal

pub returns : goal.returns
returns c n done live collects = all_done n done live collects
