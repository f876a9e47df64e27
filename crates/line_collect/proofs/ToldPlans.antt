-- The numbers of what is kept are ones in the whole too.
use Rattle.std.proofs.Common.{ℕ, ◌≤◌, Bool, List, [], ◌∷◌, sym, subst, arith}
use Rattle.std.specs.List.{All, Contains}
use Rattle.std.proofs.lemmas.List.Elements.{All-cons, All-contains_itself, All-nil, All-weaker}
use Rattle.line_names.specs.declared.certificates.Passed.{Passed}
use Rattle.line_names.specs.declared.choices.Choice.{Choice}
use Rattle.line_names.specs.declared.choices.Choice.TheVariants.{Check as AtCheck}
use Rattle.line_names.specs.declared.messages.MsgName.{MsgName}
use Rattle.line_names.specs.Lines.{choice_at}
use Rattle.line_tape.specs.declared.events.Event.TheVariants.{Recv}
use Rattle.line_tape.specs.declared.limits.TheConstants.{MOST_EVENTS}
use Rattle.line_tape.specs.Chain.{first_ceilings, lowered_ceilings, LeadsTo}
use Rattle.line_tape.specs.Event.{checks}
use Rattle.line_tape.specs.Front.{HasChoice, place}
use Rattle.line_tape.specs.History.{Process, tape_at, IsHistory}
use Rattle.line_tape.specs.Transit.{in_transit}
use Rattle.line_tape.specs.Views.{MarksView}
use Rattle.line_plan.specs.declared.plans.Plan.{Plan}
use Rattle.line_cuts.specs.Cuts.{Floor}
use Rattle.line_cuts.specs.Numbers.{IsNumbered, IsNumberedEntry}
use Rattle.line_live.specs.Numbers.{IsFewChoice}
use Rattle.line_live.proofs.FewNumbers.{checks_few, choice_numbered, first_few, in_front}
use Rattle.line_live.proofs.FewNumbers.{lowered_few, name_numbered, replay_few, surviving_few}
use Rattle.line_live.proofs.FewNumbers.{HasFewChoices}
use Rattle.line_collect.specs.Brought.{HasWholeNumbers, IsToldPlan}
use Rattle.line_collect.specs.Collections.{IsPlanOf}
use Rattle.line_collect.specs.Lives.{LiveCollectionView}

-- a check that there is
pub check_told : (history : List Process) → IsHistory history → (p check : ℕ)
    → HasChoice (tape_at history p) (AtCheck check) → check ≤ MOST_EVENTS
check_told history is p check there =
    let low : check ≤ checks (tape_at history p) = there in
    omega (arith, low, checks_few history is p)

module _ (live : LiveCollectionView) (limits : IsHistory live.kept.history)
    (told : HasWholeNumbers live) (failed : List Bool) where
  abbrev floor : Floor
  floor = live.floor

  abbrev history : List Process
  history = live.kept.history

  abbrev marks : MarksView
  marks = live.kept.marks

  entries_told : (ceilings : List Choice) (entries : List Passed) (line : List Choice)
      → HasFewChoices history limits marks failed ceilings
      → LeadsTo history marks failed ceilings entries line → All (IsNumberedEntry floor) entries
  entries_told ceilings [] line few leads = All-nil (IsNumberedEntry floor)
  entries_told ceilings (entry ∷ entries) line few (right, rest) =
      All-cons (IsNumberedEntry floor) entry entries (
        choice_numbered floor told.numbers entry.at entry.choice
            (subst IsFewChoice (sym right.top) (few entry.at)),
        told.named entry.at entry.message
            (in_front (tape_at history entry.at) (place (tape_at history entry.at)
            (choice_at ceilings entry.at)) (Recv entry.message) right.orphan.received),
      )
      (entries_told (lowered_ceilings history marks failed ceilings entry.at) entries line
      (lowered_few history limits marks failed ceilings entry.at few) rest)

  -- the numbers of a plan
  pub plan_told : (plan : Plan) → IsPlanOf live.kept failed plan → IsToldPlan floor plan
  plan_told plan is = record {
    line = λ p within.
        choice_numbered floor told.numbers p (choice_at plan.line p)
        (surviving_few history limits marks failed p (choice_at plan.line p)
        (is.latest.recoverable.surviving p));
    certificate = entries_told (first_ceilings history marks failed) plan.certificate.items
        plan.line (first_few history limits marks failed) is.chain.leads;
    replays = subst (λ (names : List MsgName). All (IsNumbered floor) names) (sym is.replays)
        (All-weaker (Contains (in_transit history plan.line)) (IsNumbered floor)
        (λ m among. name_numbered floor told.numbers m
        (replay_few history limits plan.line m among))
        (in_transit history plan.line) (All-contains_itself (in_transit history plan.line)));
  }
