-- Each check that is passed is not before the floor.
use Rattle.std.proofs.Common.{◌≡◌, ◌≤◌, ℕ, length, sym, ap, ◌∙◌, subst, arith, inl, inr}
use Rattle.std.specs.Prelude.{nat_le}
use Rattle.std.proofs.lemmas.Bool.{cases_lt, false_from_ne_true, le-leb, leb-true}
use Rattle.line_cuts.specs.Cuts.{floor_check}
use Rattle.line_laws.proofs.CompletionLemmas.{all_range}
use Rattle.line_laws.proofs.RoundLines.{in_range}
use Rattle.line_moves.specs.Listed.{check_in}
use Rattle.line_live.specs.CutMachines.{is_listed_on}
use Rattle.line_live.proofs.listed.is_listed_on.Goals as goal

pub each-preserved : goal.each-preserved
each-preserved c = λ v within.
    let q : ℕ = c.each.q in
    let at : c.unwrap-p.result ≡ q = (rw c.unwrap-p.ensures at c.try_new.ensures).1 in
    elim (cases_lt v q) [
      | inl below ↦ c.each.invariant v below
      | inr past ↦
          let same : v ≡ c.unwrap-p.result = omega (arith, within, past, at) in
          ap (λ (p : ℕ). nat_le (floor_check c.args.floor.now p) (check_in c.args.round.now p)) same
          ∙ le-leb (floor_check c.args.floor.now c.unwrap-p.result)
          (check_in c.args.round.now c.unwrap-p.result)
          (omega (arith, c.check.ensures, c.check-in-each.ensures, c.if-check.false))
    ]

pub returns-then-check : goal.returns-then-check
returns-then-check c =
    let q : ℕ = c.each.q in
    let at : c.unwrap-p.result ≡ q = (rw c.unwrap-p.ensures at c.try_new.ensures).1 in
    sym (false_from_ne_true (is_listed_on c.args.floor.now c.args.round.now) (λ t.
    let here : floor_check c.args.floor.now q ≤ check_in c.args.round.now q = leb-true
    (floor_check c.args.floor.now q) (check_in c.args.round.now q)
    (in_range (λ (p : ℕ). nat_le (floor_check c.args.floor.now p) (check_in c.args.round.now p)) 0
    (length c.args.floor.now.checks) q t (omega arith)
    (omega (arith, c.each-test.true, c.requires.floor))) in
    let low : floor_check c.args.floor.now c.unwrap-p.result ≤ check_in c.args.round.now
    c.unwrap-p.result = subst
    (λ (v : ℕ). floor_check c.args.floor.now v ≤ check_in c.args.round.now v) (sym at) here in
    omega (arith, low, c.check.ensures, c.check-in-each.ensures, c.if-check.true)))

pub returns : goal.returns
returns c =
    sym (all_range (λ (p : ℕ). nat_le (floor_check c.args.floor.now p)
    (check_in c.args.round.now p)) 0 (length c.args.floor.now.checks)
    (λ v low high. c.each.invariant v (omega (arith, high, c.each-test.false, c.requires.floor))))
