use Rattle.line_claims.proofs.SavedTextLemmas.{nothing_saved}
use Rattle.line_claims.proofs.saved_texts.saved_in.Goals as goal

pub returns-then-not-branch-clause-err : goal.returns-then-not-branch-clause-err
returns-then-not-branch-clause-err c =
    let none = rw c.if-not-branch.true at c.in_ok-next_row.ensures.ok in
    rw c.fault_at.ensures (nothing_saved _ _ c.in_ok-records.ensures.records none.0)
