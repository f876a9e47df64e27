use Rattle.std.proofs.lemmas.Bool.{and_parts}
use Rattle.std.specs.List.{list_all}
use Rattle.line_fields.specs.Texts.{has_name, is_plain_field}
use Rattle.line_fields.proofs.PlainLemmas.{row_text-plain}
use Rattle.line_fields.proofs.laws.csv_writes_the_same_text.Goals as goal

pub returns : goal.returns
returns c fields written =
    let p = and_parts (has_name fields) (list_all is_plain_field fields) written in
    row_text-plain fields p.1 p.0
