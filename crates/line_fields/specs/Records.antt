-- The records of a text, each the list of its fields.
use Rattle.std.specs.Prelude.{◌≡◌, ◌⊎◌, ◌++◌, ℕ, List, [], ◌∷◌, Bool, true, false, ◌==◌}
use Rattle.std.specs.Prelude.{if◌then◌else◌, map, filter, slice_index_or}

-- the fields of a record, each the list of its bytes
abbrev pub Record : Type 0
Record = List (List ℕ)

-- a list without a mark
unfoldable pub without : ℕ → List ℕ → List ℕ
without mark [] = []
without mark (byte ∷ rest) = if byte == mark then without mark rest else byte ∷ without mark rest

-- the part of a list up to the first mark, and the parts between the marks after it
unfoldable pub cut : ℕ → List ℕ → List ℕ × List (List ℕ)
cut mark [] = ([], [])
cut mark (byte ∷ rest) =
    if byte == mark
    then ([], (cut mark rest).0 ∷ (cut mark rest).1)
    else (byte ∷ (cut mark rest).0, (cut mark rest).1)

-- all parts of a list between marks
abbrev pub parts : ℕ → List ℕ → List (List ℕ)
parts mark xs = (cut mark xs).0 ∷ (cut mark xs).1

-- a line with a byte
abbrev pub has_byte : List ℕ → Bool
has_byte [] = false
has_byte (byte ∷ rest) = true

-- each line with a byte is a record, whose fields are parted by commas
abbrev pub records_of_lines : List (List ℕ) → List Record
records_of_lines lines = map (parts 44) (filter has_byte lines)

-- the records of a text: its lines are parted by line feeds, and carriage returns don't count
abbrev pub records_of_text : List ℕ → List Record
records_of_text text = records_of_lines (parts 10 (without 13 text))

-- a text is empty, or ends with a line feed
abbrev pub EndsLine : List ℕ → Type 0
EndsLine text = (text ≡ []) ⊎ ((front : List ℕ) × (text ≡ front ++ 10 ∷ []))

-- the field at a place, and past the last an empty one
abbrev pub field : Record → ℕ → List ℕ
field fields place = slice_index_or fields place []
