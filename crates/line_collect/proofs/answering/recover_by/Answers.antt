use Rattle.std.proofs.Common.{List, ap, refl, ◌∙◌}
use Rattle.std.specs.Prelude.{codes}
use Rattle.line_names.specs.declared.choices.Choice.{Choice}
use Rattle.line_collect.specs.Answers.{Given}
use Rattle.line_collect.specs.Collections.{gone_back}
use Rattle.line_collect.specs.Lives.{keeping}
use Rattle.line_collect.specs.LiveAnswers.{live_plan_records}
use Rattle.line_collect.proofs.AnswerLemmas.{does_written}
use Rattle.line_collect.proofs.PlanLemmas.{consistent_kept, further_kept, line_kept, line_same}
use Rattle.line_collect.proofs.PlanLemmas.{plan_text, transit_kept}
use Rattle.line_collect.proofs.answering.recover_by.Goals as goal

pub put_plan_records-put-requires-clause-line : goal.put_plan_records-put-requires-clause-line
put_plan_records-put-requires-clause-line g c =
    line_kept c.args.live.now c.args.failed.now c.args.plan _ c.requires.plan
    c.bring_names_back.ensures

pub put_plan_records-put-requires-clause-further : goal.put_plan_records-put-requires-clause-further
put_plan_records-put-requires-clause-further g c =
    further_kept c.args.live.now c.args.failed.now c.args.plan _ c.requires.plan
    c.bring_names_back.ensures

pub go_on-requires-clause-line : goal.go_on-requires-clause-line
go_on-requires-clause-line g c =
    line_kept c.args.live.now c.args.failed.now c.args.plan _ c.requires.plan
    c.bring_names_back.ensures

pub go_on-requires-clause-consistent : goal.go_on-requires-clause-consistent
go_on-requires-clause-consistent g c =
    consistent_kept c.args.live.now c.args.failed.now c.args.plan _ c.requires.plan
    c.bring_names_back.ensures

pub go_on-requires-clause-further : goal.go_on-requires-clause-further
go_on-requires-clause-further g c =
    further_kept c.args.live.now c.args.failed.now c.args.plan _ c.requires.plan
    c.bring_names_back.ensures

pub go_on-requires-clause-replays : goal.go_on-requires-clause-replays
go_on-requires-clause-replays g c =
    transit_kept c.args.live.now c.args.failed.now c.args.plan _ c.requires.plan
    c.bring_names_back.ensures _ c.requires.replays

pub returns : goal.returns
returns g c =
    rw c.outcome_if_written.ensures
    (does_written _ _ _
    (Given (live_plan_records (codes "recovered") c.args.live.now c.args.plan)) _ _ _ _ _ _ _ _
    _ (
      refl,
      (
        c.args.plan,
        c.requires.plan,
        refl,
        c.go_on.ensures ∙ ap
            (λ (line : List Choice). keeping c.args.live.now (gone_back c.args.live.now.kept line))
            (line_same c.args.live.now c.args.failed.now c.args.plan _ c.requires.plan
            c.bring_names_back.ensures),
      ),
    ) refl
    (plan_text c.args.live.now c.args.failed.now c.args.plan _ c.requires.plan
    c.bring_names_back.ensures (codes "recovered")) c.put_plan_records-put.ensures)
