-- How fields and records are written: in one way, which reading takes back.
use Rattle.std.specs.Prelude.{ℕ, ◌+◌, ◌/◌, ◌%◌, List, [], ◌∷◌, ◌++◌, Bool, false, not, ◌==◌, ◌&&◌}
use Rattle.std.specs.Prelude.{nat_le, nat_lt, if◌then◌else◌, length}
use Rattle.std.specs.List.{flat_map, join_with_byte, list_all}
use Rattle.line_fields.specs.Records.{Record}

-- a byte that a written field may have: 32 to 126 but the double quote and the comma
abbrev pub is_field_byte : ℕ → Bool
is_field_byte byte = nat_le 32 byte && nat_le byte 126 && not (byte == 34) && not (byte == 44)

-- a field of such bytes alone, which no quotes are needed for
abbrev pub is_plain_field : List ℕ → Bool
is_plain_field field = list_all is_field_byte field

-- a record whose first field has a byte, so that its line has one
abbrev pub has_name : Record → Bool
has_name [] = false
has_name (name ∷ others) = not (length name == 0)

-- a record as it may be written: with a name, and of plain fields
abbrev pub is_written : Record → Bool
is_written fields = has_name fields && list_all is_plain_field fields

-- a hexadecimal digit, of lower case
abbrev pub hex_digit : ℕ → ℕ
hex_digit value = if nat_lt value 10 then 48 + value else 87 + value

-- the two digits of a byte
abbrev pub hex_pair : ℕ → List ℕ
hex_pair byte = hex_digit (byte / 16) ∷ hex_digit (byte % 16) ∷ []

-- bytes as they are written: two digits for each
unfoldable pub hex_text : List ℕ → List ℕ
hex_text bytes = flat_map hex_pair bytes

-- a record as it is written: its fields joined by commas, and a line feed
abbrev pub record_text : Record → List ℕ
record_text fields = join_with_byte 44 fields ++ (10 ∷ [])

-- records as they are written, one after the other
abbrev pub records_text : List Record → List ℕ
records_text records = flat_map record_text records
