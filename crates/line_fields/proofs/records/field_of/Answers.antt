use Rattle.std.proofs.Common.{None, Some}
use Rattle.csv.specs.Records.{fields_of}
use Rattle.line_fields.proofs.FieldLemmas.{field_found}
use Rattle.line_fields.proofs.records.field_of.Goals as goal

pub returns-in-Some : goal.returns-in-Some
returns-in-Some c = field_found (fields_of c.args.record.now) c.args.place
    (Some c.in-Some.field.now) c.in-Some.ensures.value

pub returns-in-None : goal.returns-in-None
returns-in-None c =
    field_found (fields_of c.args.record.now) c.args.place None c.in-None.ensures.value
