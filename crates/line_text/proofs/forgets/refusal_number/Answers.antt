use Rattle.line_text.proofs.ForgetLemmas.{code_of_cause}
use Rattle.line_text.proofs.forgets.refusal_number.Goals as goal

pub returns : goal.returns
returns c = code_of_cause _ _ c.code.ensures.memory c.code.ensures.mode c.code.ensures.open
    c.code.ensures.listed c.code.ensures.lost c.code.ensures.numbers
