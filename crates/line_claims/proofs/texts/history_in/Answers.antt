use Rattle.std.proofs.Common.{◌∙◌, List, ap, drop, sym}
use Rattle.std.proofs.lemmas.Result.{err_from_is_err_and}
use Rattle.line_fields.specs.Records.{Record}
use Rattle.line_claims.specs.Histories.{head_in}
use Rattle.line_claims.proofs.PlaceLemmas.{floors_fail, history_begun}
use Rattle.line_claims.proofs.texts.history_in.Goals as goal

pub returns-in_err-first : goal.returns-in_err-first
returns-in_err-first c =
    let passed_on = err_from_is_err_and c.from_residual-in_err-first.result
    c.from_residual-in_err-first.ensures.1 in
    let row = rw c.if-not-branch.false at c.in_ok-next_row.ensures.ok in
    let is = history_begun _ _ _ _ _ _ c.in_ok-records.ensures.records
    (ap head_in row ∙ c.in_ok-version.ensures.exact c.next_row.new.self)
    (sym (ap (λ (rs : List Record). drop 1 rs) row)) c.in_ok-history.ensures.exact in
    rw (passed_on.1, passed_on.2, is)
    (floors_fail _ _ _ (rw c.floors_in.ensures at c.in_err-first.ensures.exact))

pub returns-in_err-take_tapes : goal.returns-in_err-take_tapes
returns-in_err-take_tapes c =
    let passed_on = err_from_is_err_and c.from_residual-in_err-take_tapes.result
    c.from_residual-in_err-take_tapes.ensures.1 in
    let row = rw c.if-not-branch.false at c.in_ok-next_row.ensures.ok in
    let is = history_begun _ _ _ _ _ _ c.in_ok-records.ensures.records
    (ap head_in row ∙ c.in_ok-version.ensures.exact c.next_row.new.self)
    (sym (ap (λ (rs : List Record). drop 1 rs) row)) c.in_ok-history.ensures.exact in
    let told = rw c.floors_in.ensures at c.in_ok-first.ensures.exact in
    rw (passed_on.1, passed_on.2, is, told) c.in_err-take_tapes.ensures

pub returns : goal.returns
returns c =
    let row = rw c.if-not-branch.false at c.in_ok-next_row.ensures.ok in
    let is = history_begun _ _ _ _ _ _ c.in_ok-records.ensures.records
    (ap head_in row ∙ c.in_ok-version.ensures.exact c.next_row.new.self)
    (sym (ap (λ (rs : List Record). drop 1 rs) row)) c.in_ok-history.ensures.exact in
    let told = rw c.floors_in.ensures at c.in_ok-first.ensures.exact in
    rw (is, told) c.in_ok-take_tapes.ensures
