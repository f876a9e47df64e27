-- A plan of what is kept, brought back but for its line.
use Rattle.std.proofs.Common.{◌≡◌, ℕ, Bool, List, sym, ap, ◌∙◌, subst, inl, inr}
use Rattle.line_fields.specs.Texts.{records_text}
use Rattle.line_live.specs.CutMachines.{whole_plan}
use Rattle.line_moves.proofs.LineFacts.{IsLine-latest}
use Rattle.line_names.specs.declared.choices.Choice.{Choice}
use Rattle.line_names.specs.declared.messages.MsgName.{MsgName}
use Rattle.line_plan.specs.declared.plans.Plan.{Plan}
use Rattle.line_tape.specs.Line.{IsConsistent, IsLine}
use Rattle.line_tape.specs.Restart.{HaveFurther}
use Rattle.line_tape.specs.Transit.{in_transit}
use Rattle.line_collect.specs.Answers.{plan_records_with}
use Rattle.line_collect.specs.Collections.{IsPlanToGoBack}
use Rattle.line_collect.specs.declared.refusals.CollectError.{CollectError}
use Rattle.line_collect.specs.declared.refusals.CollectError.TheVariants as errors
use Rattle.line_collect.specs.declared.reports.Report.{Report}
use Rattle.line_collect.specs.LiveAnswers.{IsLiveRefusedBy, live_going_on_records}
use Rattle.line_collect.specs.LiveAnswers.{live_plan_records}
use Rattle.line_collect.specs.Lives.{LiveCollectionView}
use Rattle.line_collect.specs.Refusals.{NeedsFurther, report_error_code}

module _ (live : LiveCollectionView) (failed : List Bool) (plan brought : Plan)
    (is : IsPlanToGoBack live.kept failed plan)
    (same : brought ≡ record (whole_plan live.floor plan) { line = plan.line }) where
  pub line_same : brought.line ≡ plan.line
  line_same = ap (λ (p : Plan). p.line) same

  pub line_kept : IsLine live.kept.history brought.line
  line_kept = subst (IsLine live.kept.history) (sym line_same)
      (IsLine-latest live.kept.history live.kept.marks failed plan.line is.plan_is.latest)

  pub further_kept : HaveFurther live.kept.history brought.line
  further_kept = subst (HaveFurther live.kept.history) (sym line_same) is.further

  pub consistent_kept : IsConsistent live.kept.history brought.line
  consistent_kept = subst (IsConsistent live.kept.history)
      (sym line_same) is.plan_is.latest.recoverable.consistent

  pub transit_kept : (replays : List MsgName) → replays ≡ plan.replays.items
      → replays ≡ in_transit live.kept.history brought.line
  transit_kept replays copied =
      copied ∙ is.plan_is.replays ∙ ap (in_transit live.kept.history) (sym line_same)

  -- what is written of it
  pub plan_text : (word : List ℕ) → records_text (live_plan_records word live plan)
      ≡ records_text (plan_records_with word (live_going_on_records live brought.line) brought)
  plan_text word = ap (λ (p : Plan). records_text
      (plan_records_with word (live_going_on_records live p.line) p)) (sym same)

-- a plan that is not made since a process that goes back has no further incarnation
pub refused_further : (live : LiveCollectionView) (report : Report) (error : CollectError)
    → error ≡ errors.NoMoreIncarnations → NeedsFurther live.kept report
    → IsLiveRefusedBy live report (report_error_code error)
refused_further live report error is needs = inr (inl (needs, ap report_error_code is))
