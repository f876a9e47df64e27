use Rattle.std.proofs.Common.{◌∙◌, sym}
use Rattle.line_scripts.proofs.RunScriptLemmas.{begins_new, begins_not}
use Rattle.line_scripts.proofs.beginnings.begin_world.Goals as goal

pub returns-in-Ok-clause-exact : goal.returns-in-Ok-clause-exact
returns-in-Ok-clause-exact c = λ rest. rw c.requires.none
    (begins_new _ rest _ _ c.requires.other (sym c.world_of.ensures.exact ∙ c.in-Ok.is))

pub returns-in-Err-clause-exact : goal.returns-in-Err-clause-exact
returns-in-Err-clause-exact c = λ rest. rw (c.requires.none, c.fault_at.ensures)
    (begins_not _ rest _ c.requires.other (sym c.world_of.ensures.exact ∙ c.in-Err.is))
