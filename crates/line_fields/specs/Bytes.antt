-- Which bytes an input text may have.
use Rattle.std.specs.Prelude.{ℕ, List, [], ◌∷◌, Bool, true, false, not, ◌==◌, ◌&&◌, ◌||◌, nat_le}
use Rattle.std.specs.List.{list_all}

-- a line feed comes first
abbrev pub begins_with_feed : List ℕ → Bool
begins_with_feed [] = false
begins_with_feed (byte ∷ rest) = byte == 10

-- a byte that may stand before these: 32 to 126 but the double quote, a line feed, or a carriage
-- return directly before one
abbrev pub is_input_byte : ℕ → List ℕ → Bool
is_input_byte byte rest =
    (nat_le 32 byte && nat_le byte 126 && not (byte == 34))
    || (byte == 10)
    || ((byte == 13) && begins_with_feed rest)

-- a byte that may stand anywhere: 32 to 126 but the double quote, or a line feed
abbrev pub is_common : ℕ → Bool
is_common byte = (nat_le 32 byte && nat_le byte 126 && not (byte == 34)) || (byte == 10)

-- each byte is allowed where it stands
unfoldable pub is_input_text : List ℕ → Bool
is_input_text [] = true
is_input_text (byte ∷ rest) = is_input_byte byte rest && is_input_text rest

-- a byte that may stand in a line: 32 to 126 but the double quote
abbrev pub is_line_byte : ℕ → Bool
is_line_byte byte = nat_le 32 byte && nat_le byte 126 && not (byte == 34)

-- each byte may stand in a line
abbrev pub is_line_text : List ℕ → Bool
is_line_text line = list_all is_line_byte line
