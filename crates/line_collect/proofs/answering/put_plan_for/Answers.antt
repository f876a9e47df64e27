use Rattle.std.proofs.Common.{refl, subst}
use Rattle.std.specs.Prelude.{codes}
use Rattle.line_collect.specs.Answers.{Given}
use Rattle.line_collect.specs.Collections.{CollectionView, HasSpentProcess, IsPlanToGoBack}
use Rattle.line_collect.specs.declared.reports.Report.TheVariants as reports
use Rattle.line_collect.specs.LiveAnswers.{live_plan_records}
use Rattle.line_collect.proofs.AnswerLemmas.{does_written}
use Rattle.line_collect.proofs.PlanLemmas.{further_kept, line_kept, plan_text, refused_further}
use Rattle.line_collect.proofs.answering.put_plan_for.Goals as goal

pub bring_names_back-requires : goal.bring_names_back-requires
bring_names_back-requires g c = rw c.kept.ensures at c.in-Ok.ensures.plan

pub put_plan_records-put-requires-clause-line : goal.put_plan_records-put-requires-clause-line
put_plan_records-put-requires-clause-line g c =
    line_kept c.args.live.now c.args.failed.now c.in-Ok.plan _
    (rw c.kept.ensures at c.in-Ok.ensures.plan) c.bring_names_back.ensures

pub put_plan_records-put-requires-clause-further : goal.put_plan_records-put-requires-clause-further
put_plan_records-put-requires-clause-further g c =
    further_kept c.args.live.now c.args.failed.now c.in-Ok.plan _
    (rw c.kept.ensures at c.in-Ok.ensures.plan) c.bring_names_back.ensures

pub returns-in-Ok : goal.returns-in-Ok
returns-in-Ok g c =
    let is : IsPlanToGoBack c.args.live.now.kept c.args.failed.now c.in-Ok.plan = rw c.kept.ensures
    at c.in-Ok.ensures.plan in
    rw c.outcome_if_written.ensures
    (does_written _ _ _ (Given (live_plan_records (codes "planned") c.args.live.now c.in-Ok.plan)) _
    _ _ _ _ _ _ _ _ (refl, (c.in-Ok.plan, is, refl, refl)) refl
    (plan_text c.args.live.now c.args.failed.now c.in-Ok.plan _ is c.bring_names_back.ensures
    (codes "planned")) c.put_plan_records-put.ensures)

pub returns-in-Err : goal.returns-in-Err
returns-in-Err g c =
    c.tell.ensures c.args.live.now c.args.live.now (reports.Plan c.args.failed.now) (
      refl,
      λ differs.
          let why = c.in-Err.ensures.refused differs in
          refused_further c.args.live.now (reports.Plan c.args.failed.now) c.in-Err.error why.0
          (subst (λ (k : CollectionView). HasSpentProcess k c.args.failed.now) c.kept.ensures
          why.1),
    )
