-- What a row holds, where the lines of a text end, and what is left of a text, also to `csv`.
use Rattle.std.specs.Prelude.{◌≡◌, ◌≤◌, ◌<◌, ◌==◌, ◌||◌, ◌+◌, ◌-◌, ◌++◌, Bool, false, true, not}
use Rattle.std.specs.Prelude.{slice_index_or, ℕ, zero, suc, List, [], ◌∷◌, drop, length, map, take}
use Rattle.std.specs.Prelude.{Option, Some, None, if◌then◌else◌, IsSome, ⊤}
use Rattle.std.specs.Borrow.{Bor}
use Rattle.std.specs.Global.{Box}
use Rattle.std.specs.List.{list_all}
use Rattle.csv.specs.Machine.{step, is_end as ends_row, fields_after, field_after, ends_at_end}
use Rattle.csv.specs.Reading.{default_config, source_of, Ready, reader_trim, reader_config}
use Rattle.csv.specs.Reading.{reader_state, is_flexible}
use Rattle.csv.specs.declared.reader.Reader.{Reader}
use Rattle.csv.specs.declared.reader.Trim.TheVariants as trim
use Rattle.csv.specs.declared.parser.State.{State}
use Rattle.line_fields.specs.Bytes.{is_input_text}
use Rattle.line_fields.specs.Records.{Record, records_of_text}

-- where a field begins and ends in a line
pub record FieldSpan : Type 0 where
  pub start : ℕ
  pub end : ℕ

-- the fields of a line by where they end, each but the first after a comma, from where the first
-- begins
unfoldable pub spans_from : ℕ → List ℕ → List FieldSpan
spans_from start [] = []
spans_from start (end ∷ ends) = record { start = start; end = end } ∷ spans_from (end + 1) ends

-- where the field at a place of a line begins, by where the fields end
abbrev pub begin_at : List ℕ → ℕ → ℕ
begin_at ends zero = 0
begin_at ends (suc place) = slice_index_or ends place 0 + 1

-- the part of some bytes that a span names
abbrev pub part_of : List ℕ → FieldSpan → List ℕ
part_of bytes span = take (span.end - span.start) (drop span.start bytes)

-- a span lies within some bytes
pub record IsFieldWithin (bytes : List ℕ) (span : FieldSpan) : Type 0 where
  pub ordered : span.start ≤ span.end
  pub within : span.end ≤ length bytes

-- the fields of a line that end at those places
abbrev pub fields_in : List ℕ → List ℕ → Record
fields_in bytes ends = map (part_of bytes) (spans_from 0 ends)

-- the fields that a row has: those of a line by where they end, or those that `csv` read where
-- there are none
abbrev pub fields_held : List ℕ → List ℕ → Record → Record
fields_held bytes [] fields = fields
fields_held bytes (end ∷ ends) fields = fields_in bytes (end ∷ ends)

-- a byte ends a line: a line feed, or the carriage return before one
abbrev pub is_end : ℕ → Bool
is_end byte = (byte == 10) || (byte == 13)

-- a byte ends a field: a comma, or the end of a line
abbrev pub is_mark : ℕ → Bool
is_mark byte = (byte == 44) || is_end byte

-- a byte that ends a line comes first
abbrev pub begins_with_end : List ℕ → Bool
begins_with_end [] = false
begins_with_end (byte ∷ rest) = is_end byte

-- no byte of a list ends a line
abbrev pub has_no_end : List ℕ → Bool
has_no_end bytes = list_all (λ byte. not (is_end byte)) bytes

-- the first line of a text ends at that place
pub record IsLineEnd (text : List ℕ) (end : ℕ) : Type 0 where
  pub within : end ≤ length text
  pub no_end : has_no_end (take end text) ≡ true
  pub end_there : end < length text → is_end (slice_index_or text end 0) ≡ true

-- the rows that csv's machine makes of a text, from a state and a row at hand
unfoldable pub rows_from : State → List (List ℕ) → List ℕ → List ℕ → List (List (List ℕ))
rows_from s fields field [] = if ends_at_end s then (fields ++ (field ∷ [])) ∷ [] else []
rows_from s fields field (c ∷ rest) =
    if ends_row (step default_config s c).1
    then fields_after (step default_config s c).1 fields field
    ∷ rows_from (step default_config s c).0 [] [] rest
    else rows_from (step default_config s c).0
    (fields_after (step default_config s c).1 fields field)
    (field_after (step default_config s c).1 c field) rest

-- the same of a text that may not be known
abbrev pub rows_if_known : State → Option (List ℕ) → List (List (List ℕ))
rows_if_known s None = []
rows_if_known s (Some text) = rows_from s [] [] text

-- the rows that a reader over a slice has left
abbrev pub rows_left : Reader (Bor (List ℕ)) → List (List (List ℕ))
rows_left r = rows_if_known (reader_state r) (source_of (λ s. Some s.now) r)

-- the next read of a reader is of a row, with csv's own marks, and its text is known
pub record IsReading (r : Reader (Bor (List ℕ))) : Type 0 where
  pub ready : Ready r
  pub trim_none : reader_trim r ≡ trim.None
  pub config : reader_config r ≡ default_config
  pub flexible : is_flexible r ≡ true
  pub known : IsSome (source_of (λ (s : Bor (List ℕ)). Some s.now) r)

-- the rows that are left to `csv`, where it reads
abbrev pub rows_left_in : Option (Box (Reader (Bor (List ℕ)))) → List Record
rows_left_in None = []
rows_left_in (Some r) = rows_left r.value

-- where `csv` reads, its next read is of a row
abbrev pub IsReadingOn : Option (Box (Reader (Bor (List ℕ)))) → Type 0
IsReadingOn None = ⊤
IsReadingOn (Some r) = IsReading r.value

-- the records that are left: of a text, or where `csv` reads of what it has left
abbrev pub records_left : Option (Box (Reader (Bor (List ℕ)))) → List ℕ → List Record
records_left None rest = records_of_text rest
records_left (Some r) rest = rows_left r.value

-- what is left is an input text, of which nothing stands apart where `csv` reads it
abbrev pub IsLeft : Option (Box (Reader (Bor (List ℕ)))) → List ℕ → Type 0
IsLeft None rest = is_input_text rest ≡ true
IsLeft (Some r) rest = IsReading r.value × (rest ≡ [])
