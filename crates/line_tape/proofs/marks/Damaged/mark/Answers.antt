-- The new mark is numbered above all others, so that its check is the last of those that were
-- marked.
use Rattle.std.proofs.Common.{◌≡◌, ℕ, ◌+◌, List, [], ◌∷◌, ◌++◌, false, sym, ap, ◌∙◌, subst, arith}
use Rattle.std.specs.Prelude.{◌==◌}
use Rattle.std.specs.List.{list_any}
use Rattle.line_tape.specs.Marked.{checks_marked, AreNumberedBelow}
use Rattle.line_tape.proofs.MarkedLemmas.{marked_insert, numbered_insert}
use Rattle.line_tape.proofs.marks.Damaged.mark.Goals as goal

pub invariant_of-self-2 : goal.invariant_of-self-2
invariant_of-self-2 c =
    let marks : List (ℕ × ℕ) = c.self.inside.numbers.entries in
    let next : c.in-Some.next ≡ c.self.inside.next + 1 =
    grind (arith, c.checked_add.ensures, c.in-Some.is) in
    subst (λ (k : ℕ). AreNumberedBelow k c.insert.new.self.entries) (sym next)
    (subst (AreNumberedBelow (c.self.inside.next + 1)) (sym c.in_ok-insert.ensures.entries)
    (numbered_insert c.args.check c.self.inside.next marks c.self.invariant))

pub returns-clause-ok : goal.returns-clause-ok
returns-clause-ok c =
    let marks : List (ℕ × ℕ) = c.self.inside.numbers.entries in
    let none : list_any (λ damaged. damaged == c.args.check) (checks_marked marks) ≡ false =
    ap (list_any (λ damaged. damaged == c.args.check)) c.self.view_is ∙ c.requires in
    ap checks_marked c.in_ok-insert.ensures.entries
    ∙ marked_insert c.args.check c.self.inside.next marks c.self.invariant none
    ∙ ap (λ (xs : List ℕ). xs ++ c.args.check ∷ []) c.self.view_is
