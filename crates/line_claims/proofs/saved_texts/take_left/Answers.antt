use Rattle.std.proofs.Common.{◌≡◌, ◌∷◌, ◌∙◌, List, Result, ap, arith, length, subst, sym}
use Rattle.std.proofs.lemmas.Result.{err_from_is_err_and}
use Rattle.line_fields.specs.Records.{Record}
use Rattle.line_claims.specs.declared.faults.TextFault.{TextFault}
use Rattle.line_claims.specs.Reads.{FailsText}
use Rattle.line_claims.specs.Saved.{SavedParts, saved_alone}
use Rattle.line_claims.specs.SavedReadings.{saved_left}
use Rattle.line_claims.proofs.SavedLemmas.{alone_fails, alone_goes}
use Rattle.line_claims.proofs.saved_texts.take_left.Goals as goal

pub returns-in_err-take-clause-err : goal.returns-in_err-take-clause-err
returns-in_err-take-clause-err c =
    let passed_on = err_from_is_err_and c.from_residual-in_err-take.result
    c.from_residual-in_err-take.ensures.1 in
    let left : c.records.records ≡ c.next_row.new.row
    ∷ c.next_row.new.self = rw c.if-branch.true at c.in_ok-next_row.ensures.ok in
    let before = c.records.invariant.same ∙ ap (λ (records : List Record). saved_alone
    (saved_left c.records.reader c.records.number records)) left in
    rw (passed_on.1, passed_on.2)
    (subst (λ (read : Result SavedParts TextFault). FailsText c.in_err-take.field-0.0 read)
    (sym before)
    (alone_fails _ _ _ _ _ (λ whole. cc (c.in_err-take.ensures.ended whole))
    (λ open'. c.in_err-take.ensures.open open' c.next_row.new.self)))

pub records-preserved : goal.records-preserved
records-preserved c =
    let left : c.records.records ≡ c.next_row.new.row
    ∷ c.next_row.new.self = rw c.if-branch.true at c.in_ok-next_row.ensures.ok in
    let before = c.records.invariant.same ∙ ap (λ (records : List Record). saved_alone
    (saved_left c.records.reader c.records.number records)) left in
    record {
      some = omega (arith, c.records.invariant.some);
      room = omega (arith, ap length left, c.records.invariant.room);
      same = before ∙ alone_goes _ _ _ _ _ (λ whole. cc (c.in_ok-take.ensures.ended whole))
          (λ open'. c.in_ok-take.ensures.open open' c.next_row.new.self);
    }
