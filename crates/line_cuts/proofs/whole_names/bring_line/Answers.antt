-- One choice more is brought back.
use Rattle.std.proofs.Common.{◌≡◌, ℕ, List, length, set, ap, ◌∙◌, subst, sym, arith, inl, inr}
use Rattle.std.proofs.lemmas.Bool.{cases_eq}
use Rattle.std.proofs.lemmas.List.{get_or-set_other, get_or-set_same, length-set}
use Rattle.line_names.specs.declared.choices.Choice.{Choice}
use Rattle.line_names.specs.declared.choices.Choice.TheVariants.{Check as AtCheck}
use Rattle.line_names.specs.Lines.{choice_at}
use Rattle.line_cuts.specs.Cuts.{Floor, whole_choice, whole_line}
use Rattle.line_cuts.proofs.LatestCuts.{length_whole, whole_at}
use Rattle.line_cuts.proofs.SameLists.{same_list}
use Rattle.line_cuts.specs.Numbers.{IsNumberedChoice}
use Rattle.line_cuts.proofs.whole_names.bring_line.Goals as goal

pub whole_choice-choice-requires : goal.whole_choice-choice-requires
whole_choice-choice-requires c =
    let F = c.args.floor.now in
    let at : c.unwrap-p.result ≡ c.loop-q.q = (rw c.unwrap-p.ensures at c.try_new.ensures).1 in
    let same : c.at.result ≡ choice_at c.args.line.now c.loop-q.q = c.at.ensures ∙ ap
    (choice_at c.loop-q.line) at ∙ c.loop-q.invariant.left c.loop-q.q (omega arith) in
    subst (λ (p : ℕ). IsNumberedChoice F p c.at.result) (sym at)
    (subst (IsNumberedChoice F c.loop-q.q) (sym same) (c.requires c.loop-q.q
    (omega (arith, c.loop-q-test.true, c.len-n.ensures.value, c.loop-q.invariant.count))))

pub loop-q-preserved : goal.loop-q-preserved
loop-q-preserved c =
    let floor : Floor = c.args.floor.now in
    let line : List Choice = c.args.line.now in
    let q : ℕ = c.loop-q.q in
    let at : c.unwrap-p.result ≡ q = (rw c.unwrap-p.ensures at c.try_new.ensures).1 in
    let read : c.at.result ≡ choice_at line q = c.at.ensures ∙ ap
    (choice_at c.loop-q.line) at ∙ c.loop-q.invariant.left q (omega arith) in
    let made : c.whole_choice-choice.result
    ≡ whole_choice floor q (choice_at line q) = c.whole_choice-choice.ensures ∙ ap
    (λ (p : ℕ). whole_choice floor p c.at.result) at ∙ ap (whole_choice floor q) read in
    let new_is : c.set.new.self ≡ set c.loop-q.line q c.whole_choice-choice.result = c.set.ensures ∙
    ap (λ (p : ℕ). set c.loop-q.line p c.whole_choice-choice.result) at in
    let size : length c.loop-q.line ≡ length line = c.loop-q.invariant.count in
    record {
      count = ap (λ (v : List Choice). length v) new_is ∙ length-set c.loop-q.line q
          c.whole_choice-choice.result ∙ size;
      brought = λ p within. elim (cases_eq p q) [
        | inl here ↦
            ap (λ (v : List Choice). choice_at v p) new_is ∙ ap
            (choice_at (set c.loop-q.line q c.whole_choice-choice.result)) here
            ∙ get_or-set_same c.loop-q.line q c.whole_choice-choice.result (AtCheck 0)
            (omega (arith, c.loop-q-test.true, c.len-n.ensures.value, size))
            ∙ made ∙ ap (λ (v : ℕ). whole_choice floor v (choice_at line v)) (sym here)
        | inr apart ↦
            ap (λ (v : List Choice). choice_at v p) new_is
            ∙ get_or-set_other c.loop-q.line q p c.whole_choice-choice.result (AtCheck 0) apart
            ∙ c.loop-q.invariant.brought p (omega (arith, within, apart))
      ];
      left = λ p past.
          ap (λ (v : List Choice). choice_at v p) new_is
          ∙ get_or-set_other c.loop-q.line q p c.whole_choice-choice.result (AtCheck 0)
          (λ here. omega (arith, past, here))
          ∙ c.loop-q.invariant.left p (omega (arith, past));
    }

pub returns : goal.returns
returns c =
    let floor : Floor = c.args.floor.now in
    let line : List Choice = c.args.line.now in
    let size : length c.loop-q.line ≡ length line = c.loop-q.invariant.count in
    same_list (AtCheck 0) c.loop-q.line (whole_line floor line)
    (size ∙ sym (length_whole floor line)) (λ p within.
    c.loop-q.invariant.brought p
    (omega (arith, within, size, c.loop-q-test.false, c.len-n.ensures.value))
    ∙ sym (whole_at floor line p (omega (arith, within, size))))
