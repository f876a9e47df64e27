-- The next check is told of.
use Rattle.std.proofs.Common.{◌≡◌, ◌+◌, ◌-◌, ℕ, true, false, refl, sym, ◌∙◌, arith}
use Rattle.std.proofs.lemmas.Result.{on_ok_weaker}
use Rattle.line_tape.specs.Survival.{is_damaged}
use Rattle.line_cuts.specs.Cuts.{lost_checks}
use Rattle.line_cuts.proofs.MarkedCuts.{marked_next, others_same, unmarked_next, not_yet}
use Rattle.line_cuts.proofs.marked.cut_mark.Goals as goal

pub returns-then-not-has : goal.returns-then-not-has
returns-then-not-has c =
    let none : is_damaged c.args.marks.now c.args.p (c.args.last + 1)
    ≡ false = sym c.has.ensures ∙ c.if-not-has.true in
    record {
      count = refl;
      bars = refl;
      marked = unmarked_next c.args.marks.now c.args.floor.now c.args.p c.args.last
          (c.args.last + 1 - lost_checks c.args.floor.now c.args.p) c.args.cut.now c.args.cut.now
          c.requires.later (omega (arith, c.requires.later)) c.requires.marked none;
      others = λ q x apart. refl;
    }

pub make_mark-requires : goal.make_mark-requires
make_mark-requires c =
    let lost : c.checks_lost-lost.result
    ≡ lost_checks c.args.floor.now c.args.p = c.checks_lost-lost.ensures in
    record {
      process = c.requires.process;
      some = omega (arith, c.requires.later);
      new = not_yet c.args.marks.now c.args.floor.now c.args.p c.args.last
          (c.args.last + 1 - c.checks_lost-lost.result) c.args.cut.now c.args.cut.now
          c.requires.later (omega (arith, c.requires.later)) c.requires.marked;
    }

pub returns : goal.returns
returns c =
    let lost : c.checks_lost-lost.result
    ≡ lost_checks c.args.floor.now c.args.p = c.checks_lost-lost.ensures in
    let left : ℕ = c.args.last + 1 - c.checks_lost-lost.result in
    let at : left + lost_checks c.args.floor.now c.args.p
    ≡ c.args.last + 1 = omega (arith, c.requires.later) in
    let found : is_damaged c.args.marks.now c.args.p (c.args.last + 1)
    ≡ true = sym c.has.ensures ∙ c.if-not-has.false in
    record {
      count = c.make_mark.ensures.count;
      bars = c.make_mark.ensures.bars;
      marked = on_ok_weaker c.make_mark.result
          (λ added. marked_next c.args.marks.now c.args.floor.now c.args.p c.args.last left
          c.args.cut.now c.make_mark.new.cut c.requires.later at c.requires.marked added found)
          c.make_mark.ensures.marked;
      others = on_ok_weaker c.make_mark.result
          (λ added. others_same c.args.marks.now c.args.floor.now c.args.p c.args.last left
          c.args.cut.now c.make_mark.new.cut c.requires.later at c.requires.marked added)
          c.make_mark.ensures.marked;
    }
