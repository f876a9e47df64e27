use Rattle.std.proofs.Common.{rules, min, true, refl, sym, ap, ◌∙◌, subst, arith}
use Rattle.line_laws.proofs.LedLemmas.{IsLine-led}
use Rattle.line_plan.specs.Search.{AreFirstSent}
use Rattle.line_plan.specs.Sweeps.{HasPassed}
use Rattle.line_plan.proofs.SearchLemmas.{first-sent-on, same-on}
use Rattle.line_plan.proofs.SweepLemmas.{passed_push}
use Rattle.line_plan.proofs.planner.visit.Goals as goal

pub orphan_at-requires-clause-line : goal.orphan_at-requires-clause-line
orphan_at-requires-clause-line c =
    IsLine-led c.args.catalogue.now.processes c.args.catalogue.now.marks c.args.failed.now
    c.orphans.certificate.items c.orphans.line c.orphans.invariant.led

pub orphans-preserved : goal.orphans-preserved
orphans-preserved c = record {
  led = c.in_ok-pass_over-in-Some.ensures.led;
  sent = c.in_ok-pass_over-in-Some.ensures.sent;
  alone = same-on c.args.line.now c.orphans.line c.pass_over.new.line c.args.at
      c.orphans.invariant.alone c.in_ok-pass_over-in-Some.ensures.alone;
  moved = search rules;
  passed = subst (HasPassed c.args.at true c.args.certificate.now.items)
      (sym c.in_ok-pass_over-in-Some.ensures.entry)
      (passed_push c.args.at c.orphans.lowered c.args.certificate.now.items
      c.orphans.certificate.items _ refl c.orphans.invariant.passed);
  few = omega (arith, c.orphan_at.ensures.few, c.min-clear.ensures);
  clear = subst (AreFirstSent c.args.catalogue.now.processes c.pass_over.new.line c.args.at)
      (sym (c.min-clear.ensures ∙ ap (λ k. min c.orphan_at.new.clear k) c.get.ensures.value))
      (first-sent-on c.args.catalogue.now.processes c.orphans.line c.pass_over.new.line c.args.at
      c.orphan_at.new.clear
      (IsLine-led c.args.catalogue.now.processes c.args.catalogue.now.marks c.args.failed.now
      c.orphans.certificate.items c.orphans.line c.orphans.invariant.led).length_is
      c.requires.process c.in_ok-pass_over-in-Some.ensures.alone
      c.in_ok-pass_over-in-Some.ensures.earlier c.orphan_at.ensures.clear);
}
