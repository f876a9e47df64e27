use Rattle.std.proofs.Common.{◌≡◌, ◌≤◌, ◌+◌, ◌++◌, ◌∷◌, ℕ, List, length}
use Rattle.line_fields.specs.Records.{Record}
use Rattle.line_claims.specs.Claims.{claim_view}
use Rattle.line_claims.specs.Stages.{replays_left}
use Rattle.line_claims.proofs.replays.take_replays.Given as goal

abbrev pub invariant-replays : goal.invariant-replays
invariant-replays l = record {
  marks : (l.claim.marks ≡ l.fn.claim.marks);
  count : (l.fn.number ≤ l.number);
  few : (l.number + length l.records ≤ l.fn.number + length l.fn.records);
  read : ((version : ℕ) (rest : List Record) → 3 ≤ version
      → replays_left version l.n (claim_view l.fn.claim) l.fn.number
      (l.fn.row ∷ (l.fn.records ++ rest))
      ≡ replays_left version l.n (claim_view l.claim) l.number (l.row ∷ (l.records ++ rest)));
}

abbrev pub decreases-replays : goal.decreases-replays
decreases-replays l = length l.records
