-- What the greatest marked check tells of the list of the damaged checks.
use Rattle.std.proofs.Common.{◌≡◌, ℕ, ◌-◌, ◌≤◌, List, length, sym, ap, ◌∙◌, subst}
use Rattle.std.specs.Prelude.{◌==◌, All, IfSome, IsTrue, Option, Some, None, slice_get}
use Rattle.std.specs.List.{list_any}
use Rattle.line_tape.specs.Marked.{checks_marked}
use Rattle.line_tape.proofs.MarkedLemmas.{marked_at, marked_none, marked_up_to}
use Rattle.line_tape.proofs.marks.Damaged.latest.Goals as goal

pub returns-clause-none : goal.returns-clause-none
returns-clause-none c = (
  λ e. sym c.self.view_is
      ∙ ap checks_marked (c.greatest.ensures.none.0 e),
  λ e. c.greatest.ensures.none.1
      (marked_none c.self.inside.numbers.entries (c.self.view_is ∙ e)),
)

pub returns-clause-marked : goal.returns-clause-marked
returns-clause-marked c =
    let marks : List (ℕ × ℕ) = c.self.inside.numbers.entries in
    elim c.greatest.result
    as (λ (o : Option ℕ). IfSome o
    (λ check. (number : ℕ) × (slice_get marks (length marks - 1) ≡ Some (check, number)))
    → IfSome o
    (λ check. IsTrue (list_any (λ damaged. damaged == check) c.args.self.now))) [
      | None ↦ (λ h. h)
      | Some check ↦
          (λ h. subst
          (λ (xs : List ℕ). IsTrue (list_any (λ damaged. damaged == check) xs)) c.self.view_is
          (marked_at check h.0 (length marks - 1) marks h.1))
    ] c.greatest.ensures.last

pub returns-clause-latest : goal.returns-clause-latest
returns-clause-latest c =
    let marks : List (ℕ × ℕ) = c.self.inside.numbers.entries in
    elim c.greatest.result
    as (λ (o : Option ℕ). IfSome o (λ check. All (λ mark. mark.0 ≤ check) marks)
    → IfSome o (λ check. All (λ damaged. damaged ≤ check) c.args.self.now)) [
      | None ↦ (λ h. h)
      | Some check ↦
          (λ h. subst (λ (xs : List ℕ). All (λ damaged. damaged ≤ check) xs) c.self.view_is
          (marked_up_to check marks h))
    ] c.greatest.ensures.greatest
