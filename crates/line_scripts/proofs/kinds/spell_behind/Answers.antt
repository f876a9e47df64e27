use Rattle.std.proofs.Common.{◌∙◌, sym}
use Rattle.line_scripts.proofs.BehindLemmas.{nothing_behind}
use Rattle.line_scripts.proofs.kinds.spell_behind.Goals as goal

pub returns-then-is_empty-clause-exact : goal.returns-then-is_empty-clause-exact
returns-then-is_empty-clause-exact c = nothing_behind c.args.bytes.now.items c.args.text.now
    (sym c.is_empty.ensures ∙ c.if-is_empty.true)
