use Rattle.std.proofs.Common.{◌≡◌, ◌∙◌, ◌==◌, false, length, ap, rules, sym, vec_len}
use Rattle.csv.specs.Records.{fields_of}
use Rattle.line_fields.specs.Records.{Record}
use Rattle.line_fields.proofs.EndLemmas.{held_of_line}
use Rattle.line_fields.proofs.records.FieldRow.len.Goals as goal

pub returns-else-is_empty : goal.returns-else-is_empty
returns-else-is_empty c =
    let counted : c.len-else-is_empty.result ≡ length c.self.inside.ends.items = search rules in
    let long : vec_len c.self.inside.ends ≡ length c.self.inside.ends.items = search rules in
    let some : (length c.self.inside.ends.items == 0)
    ≡ false = rw long at (sym c.is_empty.ensures ∙ c.if-is_empty.false) in
    counted ∙ sym (held_of_line c.self.inside.line.now c.self.inside.ends.items
    (fields_of c.self.inside.record) some)
    ∙ ap (λ (fields : Record). length fields) c.self.view_is
