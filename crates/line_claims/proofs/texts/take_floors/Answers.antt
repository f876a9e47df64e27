use Rattle.std.proofs.Common.{◌≡◌, ◌<◌, ◌+◌, ◌-◌, ◌∷◌, ◌∙◌, ℕ, suc, List, [], Result, ap, arith}
use Rattle.std.proofs.Common.{length, subst, sym}
use Rattle.std.proofs.lemmas.Result.{err_from_is_err_and}
use Rattle.line_claims.specs.declared.faults.TextFault.{TextFault}
use Rattle.line_claims.specs.Parts.{Part}
use Rattle.line_claims.specs.Reads.{FailsText}
use Rattle.line_claims.specs.Stages.{floors_left, part_end}
use Rattle.line_claims.proofs.ReadingLemmas.{floor_none, floors_taken, place_fails}
use Rattle.line_claims.proofs.texts.take_floors.Goals as goal

pub floors-init : goal.floors-init
floors-init c =
    let none : c.args.count - 0 ≡ c.args.count = omega arith in
    record {
      few = rw c.new-floors.ensures.items (omega arith);
      room = omega (arith, c.requires);
      same = rw c.new-floors.ensures.items
          (ap (λ (k : ℕ). floors_left k [] 2 c.args.records.now) none);
    }

pub floors-preserved : goal.floors-preserved
floors-preserved c =
    let left : c.floors.records ≡ c.next_row.new.row
    ∷ c.next_row.new.self = rw c.if-not-branch.false at c.in_ok-next_row.ensures.ok in
    let lt : length c.floors.floors.items < c.args.count = omega arith in
    let others : ℕ = c.args.count - (length c.floors.floors.items + 1) in
    let before : c.args.count - length c.floors.floors.items ≡ suc others = omega (arith, lt) in
    let after : c.args.count - length c.take_floor.new.floors.items
    ≡ others = omega (arith, c.in_ok-take_floor.ensures.more) in
    record {
      few = omega (arith, lt, c.in_ok-take_floor.ensures.more);
      room = omega (arith, ap length left, c.floors.invariant.room);
      same = ap (λ (k : ℕ). floors_left k c.take_floor.new.floors.items
          (c.floors.number + 1) c.next_row.new.self) after
          ∙ sym (c.in_ok-take_floor.ensures.exact others c.next_row.new.self)
          ∙ sym (ap (λ (k : ℕ). floors_left k c.floors.floors.items c.floors.number
          (c.next_row.new.row ∷ c.next_row.new.self)) before)
          ∙ sym (ap (floors_left (c.args.count - length c.floors.floors.items) c.floors.floors.items
          c.floors.number) left) ∙ c.floors.invariant.same;
    }

pub returns-then-not-branch-clause-exact : goal.returns-then-not-branch-clause-exact
returns-then-not-branch-clause-exact c =
    let none = rw c.if-not-branch.true at c.in_ok-next_row.ensures.ok in
    let lt : length c.floors.floors.items < c.args.count = omega arith in
    let before : c.args.count - length c.floors.floors.items
    ≡ suc (c.args.count - (length c.floors.floors.items + 1)) = omega (arith, lt) in
    let open_end = ap
    (λ (k : ℕ). floors_left k c.floors.floors.items c.floors.number []) before ∙ floor_none
    (c.args.count - (length c.floors.floors.items + 1)) c.floors.floors.items c.floors.number in
    let same = sym c.floors.invariant.same ∙ ap (floors_left (c.args.count - length
    c.floors.floors.items) c.floors.floors.items c.floors.number) none.0 ∙ open_end in
    rw c.fault_at.ensures (ap part_end same)

pub returns-in_err-take_floor-clause-exact : goal.returns-in_err-take_floor-clause-exact
returns-in_err-take_floor-clause-exact c =
    let passed_on = err_from_is_err_and c.from_residual-in_err-take_floor.result
    c.from_residual-in_err-take_floor.ensures.1 in
    let left : c.floors.records ≡ c.next_row.new.row
    ∷ c.next_row.new.self = rw c.if-not-branch.false at c.in_ok-next_row.ensures.ok in
    let lt : length c.floors.floors.items < c.args.count = omega arith in
    let others : ℕ = c.args.count - (length c.floors.floors.items + 1) in
    let before : c.args.count - length c.floors.floors.items ≡ suc others = omega (arith, lt) in
    let same : floors_left c.args.count [] 2 c.args.records.now ≡ floors_left (suc others)
    c.floors.floors.items c.floors.number (c.next_row.new.row ∷ c.next_row.new.self)
    = sym c.floors.invariant.same ∙ ap (floors_left
    (c.args.count - length c.floors.floors.items) c.floors.floors.items c.floors.number) left
    ∙ ap (λ (k : ℕ). floors_left k c.floors.floors.items c.floors.number
    (c.next_row.new.row ∷ c.next_row.new.self)) before in
    rw (passed_on.1, passed_on.2)
    (place_fails _ _
    (subst (λ (read : Result (Part (List (ℕ × ℕ))) TextFault). FailsText
    c.in_err-take_floor.field-0.0 read) (sym same)
    (c.in_err-take_floor.ensures.exact others c.next_row.new.self)))

pub returns-clause-exact : goal.returns-clause-exact
returns-clause-exact c =
    let none : c.args.count - length c.floors.floors.items ≡ 0 = omega arith in
    ap part_end (sym c.floors.invariant.same ∙ floors_taken _ _ _ _ none)
