-- Marks that differ at most in the order in which they were made, and what is left of them.
use Rattle.std.specs.Prelude.{◌≡◌, ◌+◌, ◌&&◌, ℕ, nat_le, nat_lt, Bool, length}
use Rattle.line_tape.specs.Survival.{is_damaged}
use Rattle.line_tape.specs.Views.{MarksView}
use Rattle.line_cuts.specs.Cuts.{Floor, floor_check, lost_checks}

-- they are of as many processes, with the same damaged checks and the same bars
pub record AreSameMarks (marks others : MarksView) : Type 0 where
  pub count : length marks.damaged ≡ length others.damaged
  pub bars : marks.bars ≡ others.bars
  pub damaged : (p c : ℕ) → is_damaged marks p c ≡ is_damaged others p c

-- check c of process p in what is left was damaged, and is one up to check `last` in the whole
abbrev pub is_left_damaged : MarksView → Floor → ℕ → ℕ → ℕ → Bool
is_left_damaged marks floor p last c =
    nat_lt (floor_check floor p) (c + lost_checks floor p)
    && (nat_le (c + lost_checks floor p) last
    && is_damaged marks p (c + lost_checks floor p))
