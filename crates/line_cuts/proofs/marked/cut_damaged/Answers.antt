-- The checks are told of one after another, up to the latest one that is damaged.
use Rattle.std.proofs.Common.{◌≡◌, ◌≤◌, ℕ, refl, sym, ap, ◌∙◌, subst, arith}
use Rattle.std.specs.List.{All}
use Rattle.line_tape.specs.Views.{damaged_at}
use Rattle.line_cuts.proofs.MarkedCuts.{left_none, left_all, none_left}
use Rattle.line_cuts.proofs.marked.cut_damaged.Goals as goal

pub loop-check-init : goal.loop-check-init
loop-check-init c = record {
  count = refl;
  bars = refl;
  marked = λ x. c.requires.none x ∙ sym (left_none c.args.marks.now c.args.floor.now c.args.p
      c.check-check.result x (omega (arith, c.check-check.ensures)));
  others = λ q x apart. refl;
  above = omega (arith, c.check-check.ensures);
}

pub cut_mark-requires : goal.cut_mark-requires
cut_mark-requires c = record {
  process = omega (arith, c.requires.process, c.requires.count, c.loop-check.invariant.count);
  later = c.loop-check.invariant.above;
  few = omega arith;
  marked = c.loop-check.invariant.marked;
}

pub loop-check-preserved : goal.loop-check-preserved
loop-check-preserved c = record {
  count = c.cut_mark.ensures.count ∙ c.loop-check.invariant.count;
  bars = c.cut_mark.ensures.bars ∙ c.loop-check.invariant.bars;
  marked = c.in_ok-cut_mark-in-Some.ensures.marked;
  others = λ q x apart. c.in_ok-cut_mark-in-Some.ensures.others q x apart ∙
      c.loop-check.invariant.others q x apart;
  above = omega (arith, c.loop-check.invariant.above);
}

pub returns-after-loop-check-clause-marked : goal.returns-after-loop-check-clause-marked
returns-after-loop-check-clause-marked c =
    let at : c.get.result ≡ c.args.p = c.get.ensures.value in
    let up_to : All (λ d. d ≤ c.in-Some.latest) (damaged_at c.args.marks.now c.args.p) = subst
    (λ (q : ℕ). All (λ d. d ≤ c.in-Some.latest) (damaged_at c.args.marks.now q)) at
    c.in-Some.ensures.latest in
    λ x. c.loop-check.invariant.marked x
    ∙ left_all c.args.marks.now c.args.floor.now c.args.p c.loop-check.check x
    (λ k d h. omega (arith, up_to k d h))

pub returns-in-None : goal.returns-in-None
returns-in-None c =
    let at : c.get.result ≡ c.args.p = c.get.ensures.value in
    record {
      count = refl;
      bars = refl;
      marked = λ x. c.requires.none x ∙ sym (none_left c.args.marks.now c.args.floor.now c.args.p x
          (ap (damaged_at c.args.marks.now) (sym at) ∙ c.in-None.ensures.none.0 refl));
      others = λ q x apart. refl;
    }
