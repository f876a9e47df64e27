-- The choices of a line (Elnozahy, Alvisi, Wang and Johnson, ACM Computing Surveys 34(3), 2002).
use Rattle.std.specs.Prelude.{ℕ, List, slice_index_or}
use Rattle.line_names.specs.declared.choices.Choice.{Choice}
use Rattle.line_names.specs.declared.choices.Choice.TheVariants.{Check}
use Rattle.line_names.specs.Order.{IsNoLater}

-- the choice of process p; the initial state where the line has none for it
abbrev pub choice_at : List Choice → ℕ → Choice
choice_at line p = slice_index_or line p (Check 0)

-- at every process the one line is the other or earlier
abbrev pub IsNowhereLater : List Choice → List Choice → Type 0
IsNowhereLater line other = (p : ℕ) → IsNoLater (choice_at line p) (choice_at other p)
