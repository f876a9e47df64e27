-- The damaged checks of a process in the order in which they were marked, told by the numbers of
-- the marks. A mark is a check and the number of its mark.
use Rattle.std.specs.Prelude.{ℕ, ◌<◌, cond, nat_le, List, [], ◌∷◌, map}

-- a mark put among marks that are in order, before the first one that is numbered no lower
abbrev pub put_mark : ℕ × ℕ → List (ℕ × ℕ) → List (ℕ × ℕ)
put_mark mark [] = mark ∷ []
put_mark mark (first ∷ rest) =
    cond (nat_le mark.1 first.1) (mark ∷ first ∷ rest) (first ∷ put_mark mark rest)

-- the marks in the order of their numbers
abbrev pub by_number : List (ℕ × ℕ) → List (ℕ × ℕ)
by_number [] = []
by_number (mark ∷ marks) = put_mark mark (by_number marks)

-- the checks in the order in which they were marked
abbrev pub checks_marked : List (ℕ × ℕ) → List ℕ
checks_marked marks = map (λ mark. mark.0) (by_number marks)

-- each mark is numbered below the next one to come
abbrev pub AreNumberedBelow : ℕ → List (ℕ × ℕ) → Type 0
AreNumberedBelow next [] = Unit {0}
AreNumberedBelow next (mark ∷ marks) = (mark.1 < next) × AreNumberedBelow next marks
