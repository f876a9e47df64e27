-- Each check that is passed is kept.
use Rattle.std.proofs.Common.{◌≡◌, ℕ, length, sym, ap, ◌∙◌, arith, inl, inr}
use Rattle.std.proofs.lemmas.Bool.{both_ways, cases_lt, false_from_ne_true}
use Rattle.line_names.specs.Lines.{choice_at}
use Rattle.line_tape.specs.Restart.{is_kept}
use Rattle.line_laws.proofs.CompletionLemmas.{all_range}
use Rattle.line_laws.proofs.RoundLines.{in_range}
use Rattle.line_moves.specs.Listed.{check_in, stays}
use Rattle.line_moves.proofs.rounds.Round.stays.Goals as goal

pub each-preserved : goal.each-preserved
each-preserved c = λ v within.
    let q : ℕ = c.each.q in
    let at : c.unwrap-p.result ≡ q = (rw c.unwrap-p.ensures at c.try_new.ensures).1 in
    elim (cases_lt v q) [
      | inl below ↦ c.each.invariant v below
      | inr past ↦ let same : v ≡ q = omega (arith, within, past) in
          ap (λ (p : ℕ). is_kept (choice_at c.args.line.now p) (check_in c.args.self.now p)) same
          ∙ ap (λ (p : ℕ). is_kept (choice_at c.args.line.now p) (check_in c.args.self.now q))
          (sym at)
          ∙ ap (λ (k : ℕ). is_kept (choice_at c.args.line.now c.unwrap-p.result) k)
          (sym c.check_or_none.ensures)
          ∙ ap (λ choice. is_kept choice c.check_or_none.result) (sym c.at.ensures)
          ∙ sym c.is_kept.ensures ∙ c.if-not-is_kept.false
    ]

pub returns-then-not-is_kept : goal.returns-then-not-is_kept
returns-then-not-is_kept c =
    let q : ℕ = c.each.q in
    let at : c.unwrap-p.result ≡ q = (rw c.unwrap-p.ensures at c.try_new.ensures).1 in
    let n : ℕ = length c.args.line.now in
    sym (false_from_ne_true (stays c.args.line.now c.args.self.now) (λ t.
    both_ways c.is_kept.result c.if-not-is_kept.true (
    c.is_kept.ensures
    ∙ ap (λ choice. is_kept choice c.check_or_none.result) c.at.ensures
    ∙ ap (λ (k : ℕ). is_kept (choice_at c.args.line.now c.unwrap-p.result) k)
    c.check_or_none.ensures
    ∙ ap (λ (p : ℕ). is_kept (choice_at c.args.line.now p) (check_in c.args.self.now q)) at
    ∙ in_range (λ (p : ℕ). is_kept (choice_at c.args.line.now p) (check_in c.args.self.now p)) 0 n q
    t (omega arith) (omega (arith, c.each-test.true, c.len-n.ensures.value)))))

pub returns : goal.returns
returns c =
    sym (all_range (λ (p : ℕ). is_kept (choice_at c.args.line.now p) (check_in c.args.self.now p)) 0
    (length c.args.line.now)
    (λ v low high. c.each.invariant v
    (omega (arith, high, c.each-test.false, c.len-n.ensures.value))))
