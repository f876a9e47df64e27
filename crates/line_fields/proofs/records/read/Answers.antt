use Rattle.csv.specs.Records.{fields_of}
use Rattle.line_fields.proofs.RowLemmas.{reads}
use Rattle.line_fields.proofs.records.read.Goals as goal

pub returns : goal.returns
returns c =
    let e = c.read_byte_record.ensures in
    reads c.args.reader.now c.read_byte_record.new.self (fields_of c.read_byte_record.new.row)
    c.read_byte_record.result c.requires e.reads e.ready e.flexible
