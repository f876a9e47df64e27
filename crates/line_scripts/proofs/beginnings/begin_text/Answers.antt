use Rattle.line_scripts.proofs.RunScriptLemmas.{begins_text, text_fails}
use Rattle.line_scripts.proofs.beginnings.begin_text.Goals as goal

pub returns-in-Ok-clause-exact : goal.returns-in-Ok-clause-exact
returns-in-Ok-clause-exact c =
    λ rest. rw c.requires.none (begins_text _ rest _ c.requires.named (c.in-Ok.ensures.exact rest))

pub returns-in-Err-clause-exact : goal.returns-in-Err-clause-exact
returns-in-Err-clause-exact c =
    λ rest. rw c.requires.none (text_fails _ _ rest c.requires.named (c.in-Err.ensures.exact rest))
