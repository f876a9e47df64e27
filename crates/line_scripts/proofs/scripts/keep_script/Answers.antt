use Rattle.std.proofs.Common.{[], inl, refl}
use Rattle.line_scripts.proofs.ScriptPlaceLemmas.{reads_whole}
use Rattle.line_scripts.proofs.scripts.keep_script.Goals as goal

pub returns-in-Ok-clause-exact : goal.returns-in-Ok-clause-exact
returns-in-Ok-clause-exact c = reads_whole c.into_script.result _ _ _ c.new-reader.ensures
    (c.in-Ok.ensures [] (inl refl)) c.into_script.ensures.exact
