-- The latest line where each process fails has checks alone, and the floor there survives.
use Rattle.std.proofs.Common.{◌≡◌, ◌≢◌, ℕ, ◌<◌, Bool, true, not, ◌&&◌, List, length, get_or, map}
use Rattle.std.proofs.Common.{sym, ap, ◌∙◌, subst, arith}
use Rattle.std.specs.Prelude.{IsTrue}
use Rattle.std.proofs.lemmas.Bool.{false≢true}
use Rattle.std.proofs.lemmas.List.{get_or_default}
use Rattle.line_names.specs.declared.choices.Choice.{Choice}
use Rattle.line_names.specs.declared.choices.Choice.TheVariants.{Check as AtCheck, Now}
use Rattle.line_names.specs.Lines.{choice_at}
use Rattle.line_names.specs.Sets.{is_member}
use Rattle.line_tape.specs.History.{Process}
use Rattle.line_tape.specs.Rounds.{check_line}
use Rattle.line_tape.specs.Survival.{survives, is_allowed, IsLatest}
use Rattle.line_tape.specs.Views.{MarksView, bar_at}
use Rattle.line_laws.proofs.KeptLemmas.{choice_of_checks}
use Rattle.line_cuts.specs.Cuts.{FloorSurvives}
use Rattle.line_cuts.specs.Floors.{check_index_of, floor_of_line, IsOfChecks}
use Rattle.line_cuts.proofs.FloorLemmas.{line_of_checks}
use Rattle.line_live.proofs.ForgetLemmas.{whoever}

module _ (history : List Process) (marks : MarksView) (failed : List Bool) (line : List Choice)
    (all : (p : ℕ) → p < length history → is_member failed p ≡ true)
    (latest : IsLatest history marks failed line) where
  -- who failed cannot go on where it stands
  not_now : (p : ℕ) → p < length history → choice_at line p ≢ Now
  not_now p within now =
      let survives_there : survives history marks failed p Now ≡ true = subst (λ (choice : Choice).
      survives history marks failed p choice ≡ true) now (latest.recoverable.surviving p) in
      false≢true (sym (ap (λ (b : Bool). not b && is_allowed (bar_at marks p) Now) (all p within)) ∙
      survives_there)

  pub all_checks : IsOfChecks line
  all_checks k d within now =
      not_now k (omega (arith, within, latest.recoverable.length_is))
      (sym (get_or_default line k d (AtCheck 0) within) ∙ now)

  pub live_survives : (last : ℕ) → FloorSurvives history marks (floor_of_line history line last)
  live_survives last p within =
      let indices : List ℕ = map check_index_of line in
      let there : IsTrue
      (survives history marks failed p (choice_at (check_line indices) p)) = subst
      (λ (choices : List Choice). IsTrue (survives history marks failed p (choice_at choices
      p))) (sym (line_of_checks line all_checks)) (latest.recoverable.surviving p) in
      let here : IsTrue (survives history marks failed p (AtCheck (get_or indices p 0))) = subst
      (λ (choice : Choice). IsTrue (survives history marks failed p choice))
      (choice_of_checks indices p) there in
      subst IsTrue (whoever history marks failed p (get_or indices p 0)) here
