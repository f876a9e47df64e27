use Rattle.std.proofs.Common.{◌≡◌, ◌+◌, ◌∷◌, ◌∙◌, ℕ, List, [], Result, ap, arith, length, subst}
use Rattle.std.proofs.Common.{sym}
use Rattle.std.proofs.lemmas.List.{append-nil}
use Rattle.std.proofs.lemmas.Result.{err_from_is_err_and}
use Rattle.line_fields.specs.Records.{Record}
use Rattle.line_tape.specs.History.{Process}
use Rattle.line_claims.specs.declared.faults.TextFault.{TextFault}
use Rattle.line_claims.specs.Parts.{Part}
use Rattle.line_claims.specs.Reads.{FailsText}
use Rattle.line_claims.specs.Stages.{tapes_left}
use Rattle.line_claims.proofs.ReadingLemmas.{front_fails, front_left, nothing_behind}
use Rattle.line_claims.proofs.texts.take_tapes.Goals as goal

pub returns-in_err-take_open_tape : goal.returns-in_err-take_open_tape
returns-in_err-take_open_tape c =
    let passed_on = err_from_is_err_and c.from_residual-in_err-take_open_tape.result
    c.from_residual-in_err-take_open_tape.ensures.1 in
    let left : c.records.records ≡ c.next_row.new.row
    ∷ c.next_row.new.self = rw c.if-branch.true at c.in_ok-next_row.ensures.ok in
    let before = sym c.records.invariant.same ∙ ap (tapes_left (length c.args.history.now.processes)
    c.records.tapes c.records.history.processes c.records.number) left
    ∙ ap (λ (n : ℕ). tapes_left n c.records.tapes c.records.history.processes c.records.number
    (c.next_row.new.row ∷ c.next_row.new.self)) (sym c.records.invariant.long) in
    let failed = subst
    (λ (records : List Record). FailsText c.in_err-take_open_tape.field-0.0
    (tapes_left (length c.records.history.processes) c.records.tapes c.records.history.processes
    c.records.number (c.next_row.new.row ∷ records)))
    (append-nil c.next_row.new.self) (c.in_err-take_open_tape.ensures.err []) in
    rw (passed_on.1, passed_on.2) (front_fails _ _ (subst (λ (read : Result (Part (List Process))
    TextFault). FailsText c.in_err-take_open_tape.field-0.0 read) (sym before) failed))

pub returns-in_err-take_next_tape : goal.returns-in_err-take_next_tape
returns-in_err-take_next_tape c =
    let passed_on = err_from_is_err_and c.from_residual-in_err-take_next_tape.result
    c.from_residual-in_err-take_next_tape.ensures.1 in
    let left : c.records.records ≡ c.next_row.new.row
    ∷ c.next_row.new.self = rw c.if-branch.true at c.in_ok-next_row.ensures.ok in
    let taken = rw c.if-not-branch.false at c.in_ok-take_open_tape.ensures.ok in
    let before = sym c.records.invariant.same ∙ ap (tapes_left (length c.args.history.now.processes)
    c.records.tapes c.records.history.processes c.records.number) left
    ∙ ap (λ (n : ℕ). tapes_left n c.records.tapes c.records.history.processes c.records.number
    (c.next_row.new.row ∷ c.next_row.new.self)) (sym c.records.invariant.long)
    ∙ nothing_behind (λ (records : List Record). tapes_left (length c.records.history.processes)
    c.records.tapes c.records.history.processes c.records.number (c.next_row.new.row ∷ records))
    (λ (records : List Record). tapes_left
    (length c.records.history.processes) c.records.tapes c.take_open_tape.new.history.processes
    c.take_open_tape.new.number (c.take_open_tape.new.row ∷ records))
    c.next_row.new.self c.take_open_tape.new.records taken.2
    ∙ ap (λ (n : ℕ). tapes_left n c.records.tapes c.take_open_tape.new.history.processes
    c.take_open_tape.new.number (c.take_open_tape.new.row ∷ c.take_open_tape.new.records))
    (sym c.take_open_tape.ensures.same) in
    rw (passed_on.1, passed_on.2)
    (front_fails _ _
    (subst (λ (read : Result (Part (List Process)) TextFault). FailsText
    c.in_err-take_next_tape.field-0.0 read) (sym before)
    (c.in_err-take_next_tape.ensures.exact c.take_open_tape.new.records)))

pub returns-then-not-branch-2 : goal.returns-then-not-branch-2
returns-then-not-branch-2 c =
    let left : c.records.records ≡ c.next_row.new.row
    ∷ c.next_row.new.self = rw c.if-branch.true at c.in_ok-next_row.ensures.ok in
    let taken = rw c.if-not-branch.false at c.in_ok-take_open_tape.ensures.ok in
    let next = rw c.if-not-branch-2.true at c.in_ok-take_next_tape.ensures.exact in
    let before = sym c.records.invariant.same ∙ ap (tapes_left (length c.args.history.now.processes)
    c.records.tapes c.records.history.processes c.records.number) left
    ∙ ap (λ (n : ℕ). tapes_left n c.records.tapes c.records.history.processes c.records.number
    (c.next_row.new.row ∷ c.next_row.new.self)) (sym c.records.invariant.long)
    ∙ nothing_behind (λ (records : List Record). tapes_left (length c.records.history.processes)
    c.records.tapes c.records.history.processes c.records.number (c.next_row.new.row ∷ records))
    (λ (records : List Record). tapes_left
    (length c.records.history.processes) c.records.tapes c.take_open_tape.new.history.processes
    c.take_open_tape.new.number (c.take_open_tape.new.row ∷ records))
    c.next_row.new.self c.take_open_tape.new.records taken.2
    ∙ ap (λ (n : ℕ). tapes_left n c.records.tapes c.take_open_tape.new.history.processes
    c.take_open_tape.new.number (c.take_open_tape.new.row ∷ c.take_open_tape.new.records))
    (sym c.take_open_tape.ensures.same) in
    rw c.fault_at.ensures (front_left _ _ _ _ _ (before ∙ next c.take_open_tape.new.records))

pub records-preserved : goal.records-preserved
records-preserved c =
    let left : c.records.records ≡ c.next_row.new.row
    ∷ c.next_row.new.self = rw c.if-branch.true at c.in_ok-next_row.ensures.ok in
    let taken = rw c.if-not-branch.false at c.in_ok-take_open_tape.ensures.ok in
    let next = rw c.if-not-branch-2.false at c.in_ok-take_next_tape.ensures.exact in
    let long : length c.take_open_tape.new.history.processes ≡ length c.args.history.now.processes =
    c.take_open_tape.ensures.same ∙ c.records.invariant.long in
    let before = sym c.records.invariant.same ∙ ap (tapes_left (length c.args.history.now.processes)
    c.records.tapes c.records.history.processes c.records.number) left
    ∙ ap (λ (n : ℕ). tapes_left n c.records.tapes c.records.history.processes c.records.number
    (c.next_row.new.row ∷ c.next_row.new.self)) (sym c.records.invariant.long)
    ∙ nothing_behind (λ (records : List Record). tapes_left (length c.records.history.processes)
    c.records.tapes c.records.history.processes c.records.number (c.next_row.new.row ∷ records))
    (λ (records : List Record). tapes_left
    (length c.records.history.processes) c.records.tapes c.take_open_tape.new.history.processes
    c.take_open_tape.new.number (c.take_open_tape.new.row ∷ records))
    c.next_row.new.self c.take_open_tape.new.records taken.2
    ∙ ap (λ (n : ℕ). tapes_left n c.records.tapes c.take_open_tape.new.history.processes
    c.take_open_tape.new.number (c.take_open_tape.new.row ∷ c.take_open_tape.new.records))
    (sym c.take_open_tape.ensures.same) in
    record {
      long = c.take_next_tape.ensures.same ∙ long;
      there = omega (arith, c.take_next_tape.ensures.there, long);
      room = omega (arith, taken.1, ap length left, c.records.invariant.room);
      same = sym (before ∙ next c.take_open_tape.new.records
          ∙ ap (λ (n : ℕ). tapes_left n c.take_next_tape.new.tapes
          c.take_next_tape.new.history.processes
          (c.take_open_tape.new.number + 1) c.take_open_tape.new.records) long);
    }
