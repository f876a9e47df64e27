-- How far messages are found, one after another, among those that are due.
use Rattle.std.specs.Prelude.{◌≡◌, ◌⊎◌, List, [], ◌∷◌}
use Rattle.line_check.specs.declared.answers.Replay.{Replay}

-- going through those that are due and taking each of the others that comes first, these are left
abbrev pub Leaves : List Replay → List Replay → List Replay → Type 0
Leaves [] replays left = replays ≡ left
Leaves (next ∷ due) replays left =
    ((rest : List Replay) × (replays ≡ next ∷ rest) × Leaves due rest left)
    ⊎ (((rest : List Replay) → replays ≡ next ∷ rest → ⊥) × Leaves due replays left)
