use Rattle.std.proofs.Common.{sym}
use Rattle.line_scripts.proofs.PieceLemmas.{kept_not, kept_on}
use Rattle.line_scripts.proofs.pieces.take_records.Goals as goal

pub returns-clause-ok : goal.returns-clause-ok
returns-clause-ok c = rw (sym c.open-records.ensures.records) (kept_on _ (
  c.in-Some.n,
  c.in-Some.first,
) c.keep_all.result _ _ _ c.in-Some.ensures.some c.keep_all.ensures)

pub returns-clause-err : goal.returns-clause-err
returns-clause-err c = rw (sym c.open-records.ensures.records) (kept_not _ (
  c.in-Some.n,
  c.in-Some.first,
) c.keep_all.result _ _ _ c.in-Some.ensures.some c.keep_all.ensures)
