use Rattle.std.proofs.Common.{ap, arith, subst, sym}
use Rattle.std.proofs.lemmas.Result.{OkIff-at_ok}
use Rattle.line_posts.specs.Collected.{passed_count, CollectorView, HasCollectedMore}
use Rattle.line_posts.proofs.ReportLemmas.{more_self, more_then, InTurn, turn_more_at, turn_none}
use Rattle.line_posts.proofs.ReportLemmas.{turn_start, turn_step_at}
use Rattle.line_posts.proofs.collectors.Collector.take.Goals as goal

pub returns-in_err-taken-clause-more : goal.returns-in_err-taken-clause-more
returns-in_err-taken-clause-more c =
    more_then _ _ _ c.loop-p.invariant.more c.take_from.ensures.more

pub loop-p-preserved : goal.loop-p-preserved
loop-p-preserved c =
    let more = c.in_ok-taken.ensures.count in
    let few = c.in_ok-taken.ensures.limit in
    let before = c.loop-p.invariant.count in
    let limit = c.loop-p.invariant.limit in
    record {
      more = more_then _ _ _ c.loop-p.invariant.more c.take_from.ensures.more;
      count = omega (arith, more, before);
      turn = turn_step_at c.args.self.now c.loop-p.self c.take_from.new.self c.unwrap-at.result
          c.loop-p.p c.loop-p.taken c.in_ok-taken.field-0 c.args.limit
          (OkIff-at_ok c.try_new.result _ _ _ c.try_new.ensures c.unwrap-at.ensures).1
          c.loop-p.invariant.turn c.take_from.ensures.others few c.in_ok-taken.ensures.none
          c.in_ok-taken.ensures.all limit;
      limit = omega (arith, few, limit);
    }

pub loop-p-init : goal.loop-p-init
loop-p-init c =
    let same = c.keep_due.ensures in
    let passed = ap (λ (v : CollectorView). passed_count v.lines) same in
    record {
      more = subst (HasCollectedMore c.args.self.now) (sym same) (more_self _);
      count = omega (arith, passed);
      turn = subst (λ (v : CollectorView). InTurn c.args.self.now v 0 0 c.args.limit) (sym same)
          (turn_start _ _);
      limit = omega arith;
    }

pub returns-in_err-taken-clause-turns : goal.returns-in_err-taken-clause-turns
returns-in_err-taken-clause-turns c =
    turn_more_at c.args.self.now c.loop-p.self c.take_from.new.self c.unwrap-at.result c.loop-p.p
    c.loop-p.taken c.args.limit (OkIff-at_ok c.try_new.result _ _ _ c.try_new.ensures
    c.unwrap-at.ensures).1 c.loop-p.invariant.turn
    (turn_none c.args.self.now c.loop-p.self c.loop-p.p c.loop-p.taken c.args.limit
    c.loop-p.invariant.turn c.in_err-taken.ensures.some) c.take_from.ensures.others
