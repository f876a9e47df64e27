use Rattle.std.proofs.Common.{inl, inr}
use Rattle.line_service.proofs.FileLemmas.{nothing_spelt}
use Rattle.line_service.proofs.file_reads.open_read.Goals as goal

pub returns-in-Nothing-clause-err : goal.returns-in-Nothing-clause-err
returns-in-Nothing-clause-err c = rw (c.in-Nothing.is, c.code.ensures) (inr (inl nothing_spelt))
