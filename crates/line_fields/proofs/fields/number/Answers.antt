use Rattle.std.proofs.Common.{◌≡◌, ◌≤◌, ◌∙◌, sym, refl, arith, ◌+◌, ◌*◌, ◌-◌, ◌<◌, false, true, inl}
use Rattle.std.proofs.Common.{inr, length, get_or, take, drop, le-leb}
use Rattle.std.proofs.lemmas.Bool.{lt-leb}
use Rattle.std.specs.Char.{is_ascii_digit}
use Rattle.std.specs.Prelude.{nat_le}
use Rattle.line_fields.proofs.NumLemmas.{num_digit, num_digit_large, num_digit_small, num_is}
use Rattle.line_fields.proofs.NumLemmas.{num_empty, num_bad, num_large, num_one_bad, more_at}
use Rattle.line_fields.proofs.NumLemmas.{no_digit_at, end_at}
use Rattle.line_fields.proofs.fields.number.Goals as goal
use Rattle.line_fields.proofs.fields.number.Goals.{then-is_empty-via-then-is_empty}
use Rattle.line_fields.proofs.fields.number.Goals.{then-is_empty-via-else-is_empty+then-value-least-2}

pub returns-then-not-is_ascii_digit-clause-exact : goal.returns-then-not-is_ascii_digit-clause-exact
returns-then-not-is_ascii_digit-clause-exact c = sym
    (num_one_bad c.args.least c.args.most c.args.text.now (omega arith)
    (sym c.is_ascii_digit.ensures.value ∙ c.if-not-is_ascii_digit.true))

pub returns-then-value-least-clause-exact : goal.returns-then-value-least-clause-exact
returns-then-value-least-clause-exact c =
    let is : is_ascii_digit (get_or c.args.text.now 0 0)
    ≡ true = sym c.is_ascii_digit.ensures.value ∙ c.if-not-is_ascii_digit.false in
    elim c.then-value-least.either [
      | inl below ↦ sym (num_digit_small c.args.least c.args.most c.args.text.now (omega arith) is
          (omega (arith, c.from-value.ensures, below)))
      | inr over ↦ sym (num_digit_large c.args.least c.args.most c.args.text.now (omega arith) is
          (omega (arith, c.from-value.ensures, over.1)))
    ]

pub returns-in-len1-clause-exact : goal.returns-in-len1-clause-exact
returns-in-len1-clause-exact c =
    let d = get_or c.args.text.now 0 0 in
    let is : is_ascii_digit d
    ≡ true = sym c.is_ascii_digit.ensures.value ∙ c.if-not-is_ascii_digit.false in
    let within : d - 48 ≤ c.args.most = omega (arith, c.from-value.ensures) in
    let above : nat_le c.args.least (d - 48)
    ≡ true = le-leb c.args.least (d - 48) (omega (arith, c.from-value.ensures)) in
    rw c.from-value.ensures (sym (num_digit c.args.least c.args.most c.args.text.now
    (omega arith) is within ∙ rw above refl))

pub returns-then-not-is_ascii_digit-2-clause-exact :
    goal.returns-then-not-is_ascii_digit-2-clause-exact
returns-then-not-is_ascii_digit-2-clause-exact c =
    let stops = no_digit_at _ _ _ _ c.in-len1-up.len_at_least
    (sym c.is_ascii_digit-in-len1-up.ensures.value ∙ c.if-not-is_ascii_digit-2.true) in
    sym (num_bad _ _ _ (sym c.loop-rest.invariant.same ∙ stops))

pub returns-then-value-most_tens-clause-exact : goal.returns-then-value-most_tens-clause-exact
returns-then-value-most_tens-clause-exact c =
    let xs = c.loop-rest.rest.now in
    let more = more_at c.args.least c.args.most c.loop-rest.value xs c.in-len1-up.len_at_least
    (sym c.is_ascii_digit-in-len1-up.ensures.value ∙ c.if-not-is_ascii_digit-2.false) in
    let over : c.args.most < c.loop-rest.value * 10 + (get_or xs 0 0 - 48) = omega arith in
    sym (num_bad _ _ _ (sym c.loop-rest.invariant.same ∙ more ∙ num_large c.args.least c.args.most
    (c.loop-rest.value * 10 + (get_or xs 0 0 - 48)) (take (length xs - 1) (drop 1 xs)) over))

pub returns-then-units-most-clause-exact : goal.returns-then-units-most-clause-exact
returns-then-units-most-clause-exact c =
    let xs = c.loop-rest.rest.now in
    let more = more_at c.args.least c.args.most c.loop-rest.value xs c.in-len1-up.len_at_least
    (sym c.is_ascii_digit-in-len1-up.ensures.value ∙ c.if-not-is_ascii_digit-2.false) in
    let over : c.args.most < c.loop-rest.value * 10 + (get_or xs 0 0 - 48) = omega arith in
    sym (num_bad _ _ _ (sym c.loop-rest.invariant.same ∙ more ∙ num_large c.args.least c.args.most
    (c.loop-rest.value * 10 + (get_or xs 0 0 - 48)) (take (length xs - 1) (drop 1 xs)) over))

pub returns-then-is_empty-clause-exact : goal.returns-then-is_empty-clause-exact
returns-then-is_empty-clause-exact c =
    elim c.then-is_empty.branch [
      | then-is_empty-via-then-is_empty w ↦ sym
          (num_empty _ _ _ (sym c.is_empty.ensures ∙ w.if-is_empty.true))
      | then-is_empty-via-else-is_empty+then-value-least-2 w ↦
          let below : nat_le c.args.least c.loop-rest.value
          ≡ false = lt-leb _ _ w.if-value-least-2.true in
          sym (num_bad _ _ _ (sym c.loop-rest.invariant.same ∙ end_at _ _ _ _
          c.in_default-rest.len_below c.loop-rest.invariant.small ∙ rw below refl))
    ]

pub returns-clause-exact : goal.returns-clause-exact
returns-clause-exact c =
    let some = sym c.is_empty.ensures ∙ c.if-is_empty.false in
    let least = le-leb _ _ c.if-value-least-2.false in
    sym (num_is _ _ _ some ∙ (sym c.loop-rest.invariant.same ∙ end_at _ _ _ _
    c.in_default-rest.len_below c.loop-rest.invariant.small ∙ rw least refl))
