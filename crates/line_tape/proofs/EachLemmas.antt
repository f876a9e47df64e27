-- A list whose elements go on one after another, each from its choice of a line.
use Rattle.std.proofs.Common.{◌≡◌, ℕ, zero, suc, ◌<◌, ◌≤◌, List, [], ◌∷◌, ◌++◌, length, take, drop}
use Rattle.std.proofs.Common.{get_or, set, filter, refl, ap, arith}
use Rattle.line_names.specs.declared.choices.Choice.{Choice}
use Rattle.line_names.specs.declared.choices.Choice.TheVariants.{Now}
use Rattle.line_tape.specs.History.{Process}
use Rattle.line_tape.specs.Restart.{is_kept, restarted_history, restarted_process, restarted_damage}

-- each element goes on from its choice
abbrev pub each : {X : Type 0} → (X → Choice → X) → List X → List Choice → List X
each step [] line = []
each step (x ∷ xs) [] = []
each step (x ∷ xs) (choice ∷ line) = step x choice ∷ each step xs line

-- so far the first p elements went on
abbrev pub so_far : {X : Type 0} → (X → Choice → X) → List X → List Choice → ℕ → List X
so_far step xs line p = take p (each step xs line) ++ drop p xs

module _ {X : Type 0} (step : X → Choice → X) where
  -- the next element is as it was
  pub next-same : (xs : List X) (line : List Choice) (p : ℕ) (d : X) → length xs ≤ length line
      → get_or (so_far step xs line p) p d ≡ get_or xs p d
  next-same [] line zero d h = refl
  next-same [] line (suc p) d h = refl
  next-same (x ∷ xs) [] p d h = absurd (omega arith)
  next-same (x ∷ xs) (choice ∷ line) zero d h = refl
  next-same (x ∷ xs) (choice ∷ line) (suc p) d h = next-same xs line p d (omega arith)

  -- one element more
  pub one_more : (xs : List X) (line : List Choice) (p : ℕ) (d : X) (e : Choice) → p < length xs
      → length xs ≤ length line → set (so_far step xs line p) p
      (step (get_or xs p d) (get_or line p e)) ≡ so_far step xs line (suc p)
  one_more [] line p d e l h = absurd (omega arith)
  one_more (x ∷ xs) [] p d e l h = absurd (omega arith)
  one_more (x ∷ xs) (choice ∷ line) zero d e l h = refl
  one_more (x ∷ xs) (choice ∷ line) (suc p) d e l h =
      ap (λ ys. step x choice ∷ ys) (one_more xs line p d e (omega arith) (omega arith))

  -- all of them
  pub all-done : (xs : List X) (line : List Choice) (p : ℕ) → length xs ≤ p
      → length xs ≤ length line → so_far step xs line p ≡ each step xs line
  all-done [] line zero l h = refl
  all-done [] line (suc p) l h = refl
  all-done (x ∷ xs) [] p l h = absurd (omega arith)
  all-done (x ∷ xs) (choice ∷ line) zero l h = absurd (omega arith)
  all-done (x ∷ xs) (choice ∷ line) (suc p) l h =
      ap (λ ys. step x choice ∷ ys) (all-done xs line p (omega arith) (omega arith))

  -- each from its own choice
  pub each_at : (xs : List X) (line : List Choice) (p : ℕ) (d d' : X) (e : Choice) → p < length xs
      → length xs ≤ length line
      → get_or (each step xs line) p d ≡ step (get_or xs p d') (get_or line p e)
  each_at [] line p d d' e l h = absurd (omega arith)
  each_at (x ∷ xs) [] p d d' e l h = absurd (omega arith)
  each_at (x ∷ xs) (choice ∷ line) zero d d' e l h = refl
  each_at (x ∷ xs) (choice ∷ line) (suc p) d d' e l h =
      each_at xs line p d d' e (omega arith) (omega arith)

  -- as many as there were, at each moment
  pub length-so_far : (xs : List X) (line : List Choice) (p : ℕ) → length xs ≤ length line
      → length (so_far step xs line p) ≡ length xs
  length-so_far [] line zero h = refl
  length-so_far [] line (suc p) h = refl
  length-so_far (x ∷ xs) [] p h = absurd (omega arith)
  length-so_far (x ∷ xs) (choice ∷ line) zero h = refl
  length-so_far (x ∷ xs) (choice ∷ line) (suc p) h = ap suc (length-so_far xs line p (omega arith))

  -- as many as there were
  pub length-each : (xs : List X) (line : List Choice) → length xs ≤ length line
      → length (each step xs line) ≡ length xs
  length-each [] line h = refl
  length-each (x ∷ xs) [] h = absurd (omega arith)
  length-each (x ∷ xs) (choice ∷ line) h = ap suc (length-each xs line (omega arith))

pub restarted-each : (history : List Process) (line : List Choice)
    → restarted_history history line ≡ each restarted_process history line
restarted-each [] line = refl
restarted-each (process ∷ rest) [] = refl
restarted-each (process ∷ rest) (choice ∷ line) =
    ap (λ xs. restarted_process process choice ∷ xs) (restarted-each rest line)

-- the marks of one process that are kept
abbrev pub kept_damage : List ℕ → Choice → List ℕ
kept_damage checks choice = filter (is_kept choice) checks

pub damage-each : (damaged : List (List ℕ)) (line : List Choice)
    → restarted_damage damaged line ≡ each kept_damage damaged line
damage-each [] line = refl
damage-each (checks ∷ rest) [] = refl
damage-each (checks ∷ rest) (choice ∷ line) =
    ap (λ xs. kept_damage checks choice ∷ xs) (damage-each rest line)

-- where a process stays, all its marks are kept
pub kept_now : (checks : List ℕ) → filter (is_kept Now) checks ≡ checks
kept_now [] = refl
kept_now (c ∷ checks) = ap (λ xs. c ∷ xs) (kept_now checks)
