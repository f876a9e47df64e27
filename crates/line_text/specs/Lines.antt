-- The lines that are heard, as their bytes come, and the records that they are.
use Rattle.std.specs.Prelude.{◌≡◌, ◌<◌, ◌≤◌, ℕ, ◌+◌, ◌==◌, drop, take, nat_le, not, Bool, true}
use Rattle.std.specs.Prelude.{false}
use Rattle.std.specs.Prelude.{List, [], ◌∷◌, ◌++◌, length, Result, Ok, Err, if◌then◌else◌}
use Rattle.std.specs.List.{AllByRecursion, list_all}
use Rattle.line_fields.specs.declared.faults.Fault.{Fault}
use Rattle.line_fields.specs.declared.faults.Fault.TheVariants.{BadRecord}
use Rattle.line_fields.specs.Bytes.{is_input_text}
use Rattle.line_fields.specs.Records.{Record, parts, without}
use Rattle.line_text.specs.declared.limits.TheConstants.{MOST_LINE}

-- what was read of a line that has not ended: its bytes, or that they are more than a line may have
pub data Pending : Type 0 where
  Kept : List ℕ → Pending
  Dropped : Pending

-- a line with more bytes
abbrev pub longer : Pending → List ℕ → Pending
longer (Kept own) bytes =
    if nat_le (length own + length bytes) MOST_LINE then Kept (own ++ bytes) else Dropped
longer Dropped bytes = Dropped

-- the lines that end within bytes that come, each at a line feed
unfoldable pub lines_in : Pending → List ℕ → List Pending
lines_in pending [] = []
lines_in pending (byte ∷ rest) = if byte == 10 then pending ∷ lines_in (Kept []) rest
    else lines_in (longer pending (byte ∷ [])) rest

-- what is pending when they have come
unfoldable pub pending_after : Pending → List ℕ → Pending
pending_after pending [] = pending
pending_after pending (byte ∷ rest) = if byte == 10 then pending_after (Kept []) rest
    else pending_after (longer pending (byte ∷ [])) rest

-- the record of a line, its fields parted by commas, or its fault where its bytes are not allowed;
-- a line without a byte is none
abbrev pub record_of : Bool → List ℕ → List (Result Record Fault)
record_of false line = Err BadRecord ∷ []
record_of true [] = []
record_of true (byte ∷ rest) = Ok (parts 44 (byte ∷ rest)) ∷ []

-- the record of a line that a line feed ended, where a carriage return directly before that one
-- doesn't count
abbrev pub ended_record : Pending → List (Result Record Fault)
ended_record (Kept bytes) = record_of (is_input_text (bytes ++ 10 ∷ [])) (without 13 bytes)
ended_record Dropped = Err BadRecord ∷ []

-- the record of what is pending where the input ends
abbrev pub last_record : Pending → List (Result Record Fault)
last_record (Kept bytes) = record_of (is_input_text bytes) (without 13 bytes)
last_record Dropped = Err BadRecord ∷ []

-- no byte of a list is a line feed
abbrev pub has_no_feed : List ℕ → Bool
has_no_feed bytes = list_all (λ byte. not (byte == 10)) bytes

-- the first line feed among some bytes stands there
pub record IsFirstFeed (bytes : List ℕ) (at : ℕ) : Type 0 where
  pub within : at < length bytes
  pub none_before : has_no_feed (take at bytes) ≡ true
  pub there : bytes ≡ take at bytes ++ 10 ∷ drop (at + 1) bytes

-- no line of a text has more bytes than a line may have
abbrev pub HasShortLines : List ℕ → Type 0
HasShortLines text = AllByRecursion (λ line. length line ≤ MOST_LINE) (parts 10 text)
