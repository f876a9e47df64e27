use Rattle.std.proofs.Common.{◌≡◌, drop}
use Rattle.line_claims.specs.Entries.{failed_of}
use Rattle.line_claims.proofs.EntryLemmas.{failed_from}
use Rattle.line_claims.proofs.entries.failed_of.Given as goal

abbrev pub invariant-loop-place : goal.invariant-loop-place
invariant-loop-place l = failed_from l.n l.below l.failed (drop l.place l.row) ≡ failed_of l.n l.row
