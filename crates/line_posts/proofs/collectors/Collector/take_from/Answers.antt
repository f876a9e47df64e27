use Rattle.std.proofs.Common.{◌∙◌, ◌+◌, cond, refl, ap, arith}
use Rattle.line_posts.specs.Collected.{passed_count}
use Rattle.line_posts.proofs.ReportLemmas.{left_then, more_self, more_then}
use Rattle.line_posts.proofs.collectors.Collector.take_from.Goals as goal

pub loop-i-preserved : goal.loop-i-preserved
loop-i-preserved c =
    let one = c.in_ok-take_one.ensures.count ∙ ap
    (λ b. passed_count c.loop-i.self.lines + cond b 1 0) c.if-not-branch.false in
    let before = c.loop-i.invariant.count in
    record {
      more = more_then _ _ _ c.loop-i.invariant.more c.take_one.ensures.more;
      others = λ q ne. left_then c.args.self.now c.loop-i.self c.take_one.new.self q
          (c.loop-i.invariant.others q ne) (c.take_one.ensures.others q ne);
      none = λ e. absurd (omega (arith, e));
      count = omega (arith, one, before);
    }

pub loop-i-init : goal.loop-i-init
loop-i-init c = record {
  more = more_self _;
  others = λ q ne. (refl, refl);
  none = λ e. refl;
  count = omega arith;
}

pub returns-in_err-take_one-clause-more : goal.returns-in_err-take_one-clause-more
returns-in_err-take_one-clause-more c =
    more_then _ _ _ c.loop-i.invariant.more c.take_one.ensures.more

pub returns-then-not-branch-clause-more : goal.returns-then-not-branch-clause-more
returns-then-not-branch-clause-more c =
    more_then _ _ _ c.loop-i.invariant.more c.take_one.ensures.more
