-- What a field of a record is written as.
use Rattle.std.specs.Prelude.{ℕ, List, decimal}
use Rattle.line_fields.specs.Texts.{hex_text}
use Rattle.line_fields.specs.declared.outlets.Field.{Field}
use Rattle.line_fields.specs.declared.outlets.Field.TheVariants as fields

-- the text of a field: as it is, a number, or two digits for each byte
abbrev pub field_text : Field → List ℕ
field_text (fields.Word word) = word.now
field_text (fields.Number value) = decimal value
field_text (fields.Bytes bytes) = hex_text bytes.now
