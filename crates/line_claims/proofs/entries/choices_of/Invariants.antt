use Rattle.std.proofs.Common.{◌≡◌, ◌+◌, length, drop}
use Rattle.line_claims.specs.Numbers.{choices}
use Rattle.line_claims.proofs.EntryLemmas.{line_from}
use Rattle.line_claims.proofs.entries.choices_of.Given as goal

abbrev pub invariant-loop-place : goal.invariant-loop-place
invariant-loop-place l = record {
  long : (length l.line + 1 ≡ l.place);
  so_far : (line_from l.line (drop l.place l.row) ≡ choices (drop 1 l.row));
}
