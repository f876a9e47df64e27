-- The line of everybody's failure is as consistent in each later history.
use Rattle.std.proofs.Common.{◌≡◌, ◌∙◌, ◌&&◌, ℕ, true, false, Bool, List, length, not, refl, sym}
use Rattle.std.proofs.Common.{ap, inl, inr, arith}
use Rattle.std.proofs.lemmas.Bool.{cases_lt, false≢true}
use Rattle.std.proofs.lemmas.List.{get_or_past}
use Rattle.line_text.specs.Answers.{IsEverybody}
use Rattle.line_laws.proofs.SnapshotLemmas.{consistent_same, front_more}
use Rattle.line_names.specs.declared.choices.Choice.{Choice}
use Rattle.line_names.specs.declared.choices.Choice.TheVariants.{Check as AtCheck, Now}
use Rattle.line_names.specs.Lines.{choice_at}
use Rattle.line_plan.specs.declared.plans.Plan.{Plan}
use Rattle.line_collect.specs.declared.reports.Report.{Report}
use Rattle.line_tape.specs.Front.{front}
use Rattle.line_tape.specs.History.{Process, tape_at}
use Rattle.line_tape.specs.Line.{events_before, IsConsistent}
use Rattle.line_tape.specs.Survival.{is_allowed, survives}
use Rattle.line_tape.specs.Views.{bar_at}
use Rattle.line_tape.proofs.ChoiceLemmas.{survives_within}
use Rattle.line_tape.proofs.LineLemmas.{tape_at-past}
use Rattle.line_collect.specs.Collections.{CollectionView, IsPlanOf}
use Rattle.line_collect.specs.Orders.{AnswersUntilRecovery, TakesAll, events_by}
use Rattle.line_collect.proofs.OrderLemmas.{all_grown, taken_of}

module _ (old new : CollectionView) (failed : List Bool) (plan : Plan) (these : List Report)
    (all : IsEverybody (length old.history) failed) (is : IsPlanOf old failed plan)
    (answers : AnswersUntilRecovery old these new) where
  taken : (reported : List Report) × TakesAll old reported new
  taken = taken_of old new these answers

  -- each choice of the line is a check, whose prefix further events do not change
  same_choice : (p : ℕ) (choice : Choice) → choice_at plan.line p ≡ choice
      → survives old.history old.marks failed p choice ≡ true
      → front (tape_at new.history p) choice ≡ front (tape_at old.history p) choice
  same_choice p (AtCheck c) e s =
      let grown = all_grown old new taken.0 taken.1 in
      elim (cases_lt p (length old.history)) [
        | inl within ↦
            ap (λ (process : Process). front process.tape (AtCheck c)) (grown.each p within)
            ∙ front_more (tape_at old.history p) (events_by p taken.0) c
            (survives_within old.history old.marks failed p c s)
        | inr past ↦
            ap (λ t. front t (AtCheck c)) (tape_at-past new.history p
            (omega (arith, past, grown.count)) ∙ sym (tape_at-past old.history p past))
      ]
  same_choice p Now e s = elim (cases_lt p (length old.history)) [
    | inl within ↦
        let wrong : false ≡ true = ap (λ (member : Bool). not member
        && is_allowed (bar_at old.marks p) Now) (sym ((all p).1 within)) ∙ s in
        absurd (false≢true wrong)
    | inr past ↦
        let count = is.latest.recoverable.length_is in
        let wrong : AtCheck 0
        ≡ Now = sym (get_or_past plan.line p (AtCheck 0) (omega (arith, past, count))) ∙ e in
        absurd (cc wrong)
  ]

  same_fronts : (p : ℕ)
      → events_before new.history plan.line p ≡ events_before old.history plan.line p
  same_fronts p = same_choice p (choice_at plan.line p) refl (is.latest.recoverable.surviving p)

  pub consistent_after : IsConsistent new.history plan.line
  consistent_after =
      consistent_same old.history new.history plan.line same_fronts is.latest.recoverable.consistent
