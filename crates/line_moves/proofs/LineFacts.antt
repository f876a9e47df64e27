-- What a loop over the processes has found, and what the latest line is.
use Rattle.std.proofs.Common.{◌≡◌, ℕ, zero, suc, ◌+◌, Bool, true, List, [], ◌∷◌, length, map, refl}
use Rattle.std.proofs.Common.{sym, ap, ◌∙◌, arith}
use Rattle.std.specs.List.{range_with_len}
use Rattle.line_names.specs.declared.choices.Choice.{Choice}
use Rattle.line_names.specs.declared.choices.Choice.TheVariants.{Check as AtCheck, Now}
use Rattle.line_names.specs.Lines.{choice_at}
use Rattle.line_tape.specs.Front.{HasChoice}
use Rattle.line_tape.specs.History.{Process, tape_at, incarnation_at}
use Rattle.line_tape.specs.Line.{IsLine}
use Rattle.line_tape.specs.Restart.{restarted_history, restarted_incarnation}
use Rattle.line_tape.specs.Survival.{survives, IsLatest}
use Rattle.line_tape.specs.Views.{MarksView}
use Rattle.line_tape.proofs.ChoiceLemmas.{survives_within}

-- the latest line is one of the history
pub IsLine-latest : (history : List Process) (marks : MarksView) (failed : List Bool)
    (line : List Choice) → IsLatest history marks failed line → IsLine history line
IsLine-latest history marks failed line latest = record {
  length_is = latest.recoverable.length_is;
  exist = λ p. has_choice p (choice_at line p) (latest.recoverable.surviving p);
}
  where
    has_choice : (p : ℕ) (choice : Choice) → survives history marks failed p choice ≡ true
        → HasChoice (tape_at history p) choice
    has_choice p (AtCheck c) h = survives_within history marks failed p c h
    has_choice p Now h = tt

-- numbers from one further on
map-range_later : {X : Type 0} (f : ℕ → X) (a n : ℕ)
    → map f (range_with_len (a + 1) n) ≡ map (λ k. f (suc k)) (range_with_len a n)
map-range_later {X} f a zero = refl
map-range_later {X} f a (suc n) =
    let next : a + 1 ≡ suc a = omega arith in
    ap (λ (k : ℕ). f k ∷ map f (range_with_len (a + 1 + 1) n)) next ∙ ap
    (λ (xs : List X). f (suc a) ∷ xs) (map-range_later f (a + 1) n)

-- the incarnations after a restart, process by process
pub incarnations-restarted : (history : List Process) (line : List Choice)
    → length line ≡ length history
    → map (λ (process : Process). process.incarnation) (restarted_history history line)
    ≡ map (λ p. restarted_incarnation (choice_at line p) (incarnation_at history p))
    (range_with_len 0 (length history))
incarnations-restarted [] line e = refl
incarnations-restarted (process ∷ rest) [] e = absurd (omega arith)
incarnations-restarted (process ∷ rest) (choice ∷ line) e =
    let f : ℕ → ℕ = λ p. restarted_incarnation (choice_at (choice ∷ line) p)
    (incarnation_at (process ∷ rest) p) in
    ap (λ (xs : List ℕ). restarted_incarnation choice process.incarnation ∷ xs)
    (incarnations-restarted rest line (omega arith) ∙ sym (map-range_later f 0 (length rest)))
