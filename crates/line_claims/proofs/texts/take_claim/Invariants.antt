use Rattle.std.proofs.Common.{◌≡◌, ◌<◌, ◌+◌, ◌^◌, length}
use Rattle.line_claims.specs.declared.claims.ClaimStage.TheVariants.{Damage}
use Rattle.line_claims.specs.Claims.{claim_view}
use Rattle.line_claims.specs.Stages.{claim_left}
use Rattle.line_claims.proofs.texts.take_claim.Given as goal

abbrev pub invariant-records : goal.invariant-records
invariant-records l = record {
  whole : (length l.claim.marks.damaged ≡ l.n);
  room : (l.number + length l.records + 1 < 2 ^ 64);
  same : (claim_left l.stage l.version l.n (claim_view l.claim) l.number l.records
      ≡ claim_left Damage l.version l.n (claim_view l.fn.claim) 1 l.fn.records);
}

abbrev pub decreases-records : goal.decreases-records
decreases-records l = length l.records
