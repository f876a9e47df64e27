-- The mark that is taken off is on a later check; where none is left, all pass.
use Rattle.std.proofs.Common.{◌≡◌, ℕ, ◌-◌, ◌∷◌, ◌++◌, [], List, Bool, false, length, filter, refl}
use Rattle.std.proofs.Common.{sym, ap, ◌∙◌, subst, arith}
use Rattle.std.specs.Prelude.{Some, slice_get}
use Rattle.std.proofs.lemmas.Bool.{le-leb, lt-leb}
use Rattle.line_names.specs.declared.choices.Choice.{Choice}
use Rattle.line_names.specs.declared.choices.Choice.TheVariants.{Check as AtCheck, Now}
use Rattle.line_tape.specs.Marked.{checks_marked, AreNumberedBelow}
use Rattle.line_tape.specs.Restart.{is_kept}
use Rattle.line_tape.proofs.EachLemmas.{kept_now}
use Rattle.line_tape.proofs.MarkedLemmas.{marked_all, marked_cut, numbered_front, popped_is}
use Rattle.line_tape.proofs.marks.Damaged.restart.Goals as goal

kept : (choice : Choice) (checks : List ℕ) → ((last : ℕ) → choice ≡ AtCheck last → ⊥)
    → checks ≡ filter (is_kept choice) checks
kept (AtCheck last) checks not = absurd (not last refl)
kept Now checks not = sym (kept_now checks)

pub returns-in_default : goal.returns-in_default
returns-in_default c = kept c.args.choice c.args.self.now c.in_default.not-Check

pub loop-check-preserved : goal.loop-check-preserved
loop-check-preserved c =
    let old : List (ℕ × ℕ) = c.loop-check.self-inside.numbers.entries in
    let new : List (ℕ × ℕ) = c.pop_last.new.self.entries in
    let check : ℕ = c.in-Some.check in
    let stays : ℕ → Bool = is_kept (AtCheck c.in-Check.last) in
    let number : ℕ = c.in-Some.ensures.last.0 in
    let at : slice_get old (length old - 1) ≡ Some (check, number) = c.in-Some.ensures.last.1 in
    let whole : old ≡ new ++ (check, number) ∷ [] =
    popped_is c.pop_last.result old new
    (check, number) c.pop_last.ensures.variant c.pop_last.ensures.removal at in
    let goes : stays check ≡ false = lt-leb check c.in-Check.last c.if-check-last.false in
    record {
      kept = sym
          (ap (λ (es : List (ℕ × ℕ)). filter stays (checks_marked es)) whole
          ∙ marked_cut stays new (check, number) goes) ∙ c.loop-check.invariant.kept;
      numbered = numbered_front c.loop-check.self-inside.next new (check, number)
          (subst (AreNumberedBelow c.loop-check.self-inside.next) whole
          c.loop-check.invariant.numbered);
    }

pub returns-then-check-last : goal.returns-then-check-last
returns-then-check-last c =
    marked_all (is_kept (AtCheck c.in-Check.last)) c.loop-check.self-inside.numbers.entries
    (λ k d l. le-leb _ c.in-Check.last
    (omega (arith, c.in-Some.ensures.greatest k d l, c.if-check-last.true)))
    ∙ c.loop-check.invariant.kept
    ∙ ap (λ (choice : Choice). filter (is_kept choice) c.args.self.now) (sym c.in-Check.is)
