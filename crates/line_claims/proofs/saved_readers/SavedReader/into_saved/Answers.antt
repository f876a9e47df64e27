use Rattle.std.proofs.Common.{◌∙◌, sym}
use Rattle.line_claims.proofs.SavedLemmas.{part_missing}
use Rattle.line_claims.proofs.saved_readers.SavedReader.into_saved.Goals as goal

pub returns-then-not-is_whole-clause-err : goal.returns-then-not-is_whole-clause-err
returns-then-not-is_whole-clause-err c =
    rw c.code.ensures (part_missing _ _ _ _ _ (sym c.is_whole.ensures ∙ c.if-not-is_whole.true))
