use Rattle.std.proofs.Common.{◌≡◌, ◌∙◌, ◌+◌, ◌++◌, ◌∷◌, List, ap, arith, length, subst, sym}
use Rattle.std.specs.Prelude.{Result}
use Rattle.line_fields.specs.Records.{Record}
use Rattle.line_claims.specs.declared.faults.TextFault.{TextFault}
use Rattle.line_claims.specs.Claims.{Claim, claim_view}
use Rattle.line_claims.specs.Reads.{FailsText, error_at}
use Rattle.line_claims.specs.Stages.{replays_left}
use Rattle.line_claims.proofs.ReadingLemmas.{replay_fault, replay_taken}
use Rattle.line_claims.proofs.replays.take_replays.Goals as goal

pub returns-in-Err-clause-err : goal.returns-in-Err-clause-err
returns-in-Err-clause-err c = λ version rest known.
    rw c.error_at.ensures (subst (λ (read : Result Claim TextFault). FailsText (error_at
    c.replays.number c.in-Err.error) read) (sym (c.replays.invariant.read version rest known))
    (replay_fault _ _ _ _ _ _ _ known
    (sym c.is_named.ensures ∙ c.replays-test.true) c.in-Err.ensures))

pub replays-preserved : goal.replays-preserved
replays-preserved c =
    let left : c.replays.records ≡ c.next_row.new.row
    ∷ c.next_row.new.self = rw c.if-not-branch.false at c.in_ok-next_row.ensures.ok in
    record {
      marks = c.replays.invariant.marks;
      count = omega (arith, c.replays.invariant.count);
      few = omega (arith, ap length left, c.replays.invariant.few);
      read = λ version rest known.
          c.replays.invariant.read version rest known ∙ replay_taken _ _ _ _ _ _ _ known
          (sym c.is_named.ensures ∙ c.replays-test.true) c.in-Ok.ensures
          ∙ ap (λ (records : List Record). replays_left version c.args.n
          (record (claim_view c.replays.claim) { replays = c.replay_of.new.replays.items })
          (c.replays.number + 1) (records ++ rest)) left;
    }

pub returns-then-not-branch-clause-ok : goal.returns-then-not-branch-clause-ok
returns-then-not-branch-clause-ok c =
    let none = rw c.if-not-branch.true at c.in_ok-next_row.ensures.ok in (
      omega (arith, c.replays.invariant.few),
      λ version rest known.
          c.replays.invariant.read version rest known ∙ replay_taken _ _ _ _ _ _ _ known
          (sym c.is_named.ensures ∙ c.replays-test.true) c.in-Ok.ensures
          ∙ ap (λ (records : List Record). replays_left version c.args.n
          (record (claim_view c.replays.claim) { replays = c.replay_of.new.replays.items })
          (c.replays.number + 1) (records ++ rest)) none.0,
    )
