-- Marks of damage, mark by mark and process by process, and bars.
use Rattle.std.proofs.Common.{◌≡◌, ℕ, ◌<◌, ◌≤◌, ◌==◌, true, List, [], length, get_or}
use Rattle.std.proofs.Common.{slice_index_or, IsTrue, All, Some, None, refl, sym, ◌∙◌, subst, inl}
use Rattle.std.proofs.Common.{inr, arith}
use Rattle.std.specs.List.{list_any}
use Rattle.std.proofs.lemmas.Bool.{cases_lt, eqb-true, eq-eqb, false≢true}
use Rattle.std.proofs.lemmas.Option.{none-some}
use Rattle.std.proofs.lemmas.List.{get_or_past}
use Rattle.std.proofs.lemmas.List.Folds.{Any-from_list_any, list_any_at}
use Rattle.line_tape.specs.History.{Process}
use Rattle.line_tape.specs.Survival.{is_damaged}
use Rattle.line_tape.specs.Views.{MarksView, bar_at}
use Rattle.line_check.specs.Shape.{IsCheckOf}

-- a number that is looked for and found in a list of which something holds
pub All-found : (P : ℕ → Type 0) (xs : List ℕ) (c : ℕ) → All P xs → list_any (λ x. x == c) xs ≡ true
    → P c
All-found P xs c all found =
    let (k, x, within, at, same) = Any-from_list_any (λ x. x == c) xs found in
    subst P (at ∙ eqb-true x c same) (all k x within)

-- where a process has a check, it has each one before it
pub checks-before : (history : List Process) (p c : ℕ) (xs : List ℕ) → IsCheckOf history p c
    → All (λ x. x ≤ c) xs → All (IsCheckOf history p) xs
checks-before history p c xs is before =
    λ k d l. record { process = is.process; check = omega (arith, is.check, before k d l) }

module _ (history : List Process) (marks : MarksView) where
  -- what holds of the marks of each process holds of each mark
  pub damaged-checks :
      ((p : ℕ) → p < length marks.damaged → All (IsCheckOf history p) (slice_index_or marks.damaged
      p [])) → (p c : ℕ) → IsTrue (is_damaged marks p c) → IsCheckOf history p c
  damaged-checks each p c h = elim (cases_lt p (length marks.damaged)) [
    | inl within ↦ All-found (IsCheckOf history p) (slice_index_or marks.damaged p []) c
        (each p within) h
    | inr past ↦ absurd (false≢true (subst (λ (xs : List ℕ). list_any (λ x. x == c) xs ≡ true)
        (get_or_past marks.damaged p [] past) h))
  ]

  -- and the other way
  pub checks-damaged : ((p c : ℕ) → IsTrue (is_damaged marks p c) → IsCheckOf history p c) → (p : ℕ)
      → All (IsCheckOf history p) (slice_index_or marks.damaged p [])
  checks-damaged each p = λ k d within. each p (get_or (slice_index_or marks.damaged p []) k d)
      (list_any_at (λ x. x == get_or (slice_index_or marks.damaged p []) k d)
      (slice_index_or marks.damaged p []) k d within (eq-eqb (get_or (slice_index_or marks.damaged p
      []) k d) (get_or (slice_index_or marks.damaged p []) k d) refl))

  -- what holds of the bars of the processes that there are holds of each bar
  pub barred-checks : ((p : ℕ) → p < length marks.bars → (c : ℕ) → bar_at marks p ≡ Some c
      → IsCheckOf history p c) → (p c : ℕ) → bar_at marks p ≡ Some c → IsCheckOf history p c
  barred-checks each p c is = elim (cases_lt p (length marks.bars)) [
    | inl within ↦ each p within c is
    | inr past ↦ absurd (none-some c (sym (get_or_past marks.bars p None past) ∙ is))
  ]
