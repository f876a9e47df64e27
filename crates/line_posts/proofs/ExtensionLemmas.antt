-- A line of checks is as consistent in each later history.
use Rattle.std.proofs.Common.{◌≡◌, ◌∙◌, ◌<◌, ◌&&◌, ℕ, true, false, Bool, List, length, not, refl}
use Rattle.std.proofs.Common.{sym, ap, inl, inr, arith}
use Rattle.std.proofs.lemmas.Bool.{cases_lt, false≢true}
use Rattle.std.proofs.lemmas.List.{get_or_past}
use Rattle.line_names.specs.declared.choices.Choice.{Choice}
use Rattle.line_names.specs.declared.choices.Choice.TheVariants.{Check as AtCheck, Now}
use Rattle.line_names.specs.Lines.{choice_at}
use Rattle.line_names.specs.Sets.{is_member}
use Rattle.line_tape.specs.Front.{front}
use Rattle.line_tape.specs.History.{Process, tape_at}
use Rattle.line_tape.specs.Line.{events_before, IsConsistent}
use Rattle.line_tape.specs.Survival.{is_allowed, survives, IsRecoverable}
use Rattle.line_tape.specs.Views.{bar_at, MarksView}
use Rattle.line_tape.proofs.ChoiceLemmas.{survives_within}
use Rattle.line_laws.proofs.SnapshotLemmas.{consistent_same, front_more}
use Rattle.line_posts.specs.Extension.{Extends}

module _ (old new : List Process) (more : Extends new old) (marks : MarksView) (failed : List Bool)
    (line : List Choice)
    (all : (q : ℕ) → q < length old → is_member failed q ≡ true)
    (is : IsRecoverable old marks failed line) where
  -- each choice of the line is a check, whose prefix further events do not change
  same_choice : (p : ℕ) (choice : Choice) → choice_at line p ≡ choice
      → survives old marks failed p choice ≡ true
      → front (tape_at new p) choice ≡ front (tape_at old p) choice
  same_choice p (AtCheck c) e s =
      let (later, joins) = more.tapes p in
      let grown = sym joins in
      ap (λ t. front t (AtCheck c)) grown ∙ front_more (tape_at old p) later c
      (survives_within old marks failed p c s)
  same_choice p Now e s = elim (cases_lt p (length old)) [
    | inl lt ↦ (let a : false ≡ true = ap (λ (failed : Bool). not failed
        && is_allowed (bar_at marks p) Now) (sym (all p lt)) ∙ s in absurd (false≢true a))
    | inr past ↦ (let n = is.length_is in let a : AtCheck 0
        ≡ Now = sym (get_or_past line p (AtCheck 0) (omega (arith, past, n))) ∙ e in absurd (cc a))
  ]

  same_fronts : (p : ℕ) → events_before new line p ≡ events_before old line p
  same_fronts p = same_choice p (choice_at line p) refl (is.surviving p)

  pub consistent_later : IsConsistent new line
  consistent_later = consistent_same old new line same_fronts is.consistent
