use Rattle.std.proofs.Common.{◌≡◌, ◌<◌, ◌∙◌, ◌+◌, ◌++◌, ◌∷◌, List, ap, arith, length, subst, sym}
use Rattle.std.specs.Prelude.{Result}
use Rattle.line_fields.specs.Records.{Record}
use Rattle.line_tape.specs.History.{Process}
use Rattle.line_claims.specs.declared.faults.TextFault.{TextFault}
use Rattle.line_claims.specs.Parts.{Part}
use Rattle.line_claims.specs.Reads.{FailsText, error_at}
use Rattle.line_claims.specs.Stages.{tapes_left}
use Rattle.line_claims.proofs.ReadingLemmas.{event_fault, event_taken}
use Rattle.line_claims.proofs.histories.take_open_tape.Goals as goal

pub returns-in-Err-clause-err : goal.returns-in-Err-clause-err
returns-in-Err-clause-err c = λ rest.
    let some : 0 < c.args.tapes = omega arith in
    rw c.error_at.ensures (subst (λ (read : Result (Part (List Process)) TextFault). FailsText
    (error_at c.events.number c.in-Err.error) read) (sym (c.events.invariant.read rest))
    (event_fault _ _ _ _ _ _ _ some c.in-Some.ensures.0
    (rw c.in-Ok.ensures.1 at c.in-Err.ensures.exact)))

pub events-preserved : goal.events-preserved
events-preserved c =
    let some : 0 < c.args.tapes = omega arith in
    let left : c.events.records ≡ c.next_row.new.row
    ∷ c.next_row.new.self = rw c.if-not-branch.false at c.in_ok-next_row.ensures.ok in
    record {
      long = c.event_at.ensures.same ∙ c.events.invariant.long;
      count = omega (arith, c.events.invariant.count);
      few = omega (arith, ap length left, c.events.invariant.few);
      read = λ rest.
          c.events.invariant.read rest ∙ event_taken _ _ _ _ _ _ _ some c.in-Some.ensures.0
          (rw c.in-Ok.ensures.1 at c.in-Ok-event_at.ensures.exact)
          ∙ ap (λ (records : List Record). tapes_left
          (length c.args.history.now.processes) c.args.tapes c.event_at.new.history.processes
          (c.events.number + 1) (records ++ rest)) left;
    }

pub returns-then-not-branch-clause-ok : goal.returns-then-not-branch-clause-ok
returns-then-not-branch-clause-ok c =
    let some : 0 < c.args.tapes = omega arith in
    let none = rw c.if-not-branch.true at c.in_ok-next_row.ensures.ok in (
      omega (arith, c.events.invariant.few),
      λ rest.
          c.events.invariant.read rest ∙ event_taken _ _ _ _ _ _ _ some c.in-Some.ensures.0
          (rw c.in-Ok.ensures.1 at c.in-Ok-event_at.ensures.exact)
          ∙ ap (λ (records : List Record). tapes_left
          (length c.args.history.now.processes) c.args.tapes c.event_at.new.history.processes
          (c.events.number + 1) (records ++ rest)) none.0,
    )
