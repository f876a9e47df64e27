use Rattle.std.proofs.Common.{refl, subst}
use Rattle.line_collect.specs.Collections.{CollectionView, HasSpentProcess}
use Rattle.line_collect.specs.declared.reports.Report.TheVariants as reports
use Rattle.line_collect.proofs.PlanLemmas.{refused_further}
use Rattle.line_collect.proofs.answering.recover.Goals as goal

pub recover_by-requires-clause-plan : goal.recover_by-requires-clause-plan
recover_by-requires-clause-plan g c = rw c.kept.ensures at c.in-Ok.ensures.plan

pub returns-in-Err : goal.returns-in-Err
returns-in-Err g c =
    c.tell.ensures c.args.live.now c.args.live.now (reports.Recover c.args.failed.now) (
      refl,
      λ differs.
          let why = c.in-Err.ensures.refused differs in
          refused_further c.args.live.now (reports.Recover c.args.failed.now) c.in-Err.error why.0
          (subst (λ (k : CollectionView). HasSpentProcess k c.args.failed.now) c.kept.ensures
          why.1),
    )
