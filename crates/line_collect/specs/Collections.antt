-- What was collected of reports: a history as far as they have come, with marks of damage and bars.
use Rattle.std.specs.Prelude.{◌≡◌, ℕ, ◌+◌, ◌≤◌, Bool, List, length, replicate}
use Rattle.line_names.specs.declared.choices.Choice.{Choice}
use Rattle.line_plan.specs.declared.plans.Plan.{Plan}
use Rattle.line_tape.specs.declared.events.Event.{Event}
use Rattle.line_tape.specs.Chain.{IsChain}
use Rattle.line_tape.specs.History.{Process, fresh, with_event}
use Rattle.line_tape.specs.Restart.{HaveFurther, restarted_history, restarted_marks}
use Rattle.line_tape.specs.Survival.{IsLatest}
use Rattle.line_tape.specs.Transit.{in_transit}
use Rattle.line_tape.specs.Views.{MarksView, no_marks}

-- what each process reported, which checks are damaged, and where processes are barred
pub record CollectionView : Type 0 where
  pub history : List Process
  pub marks : MarksView

-- nothing yet, of n processes
abbrev pub nothing_collected : ℕ → CollectionView
nothing_collected n = record { history = replicate n fresh; marks = no_marks n }

-- one more event of process p
abbrev pub with_report : CollectionView → ℕ → Event → CollectionView
with_report old p event = record old { history = with_event old.history p event }

-- what is left where each process goes on from its choice of a line: all bars are gone
abbrev pub gone_back : CollectionView → List Choice → CollectionView
gone_back old line = record {
  history = restarted_history old.history line;
  marks = restarted_marks old.marks line;
}

-- the plan is of the latest line where these failed, by any valid chain
pub record IsPlanOf (old : CollectionView) (failed : List Bool) (plan : Plan) : Type 0 where
  pub latest : IsLatest old.history old.marks failed plan.line
  pub chain : IsChain old.history old.marks failed plan.certificate.items plan.line
  pub some_sweep : 1 ≤ plan.sweeps
  pub few_sweeps : plan.sweeps ≤ length plan.certificate.items + 1
  pub replays : plan.replays.items ≡ in_transit old.history plan.line

-- and each process that goes back has a further incarnation
pub record IsPlanToGoBack (old : CollectionView) (failed : List Bool) (plan : Plan) : Type 0 where
  pub plan_is : IsPlanOf old failed plan
  pub further : HaveFurther old.history plan.line

-- the latest line where these failed takes a process back that has no further incarnation
pub record HasSpentProcess (old : CollectionView) (failed : List Bool) : Type 0 where
  pub line : List Choice
  pub latest : IsLatest old.history old.marks failed line
  pub spent : HaveFurther old.history line → ⊥
