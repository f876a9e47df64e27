use Rattle.std.proofs.Common.{◌≡◌, rules}
use Rattle.line_fields.specs.Records.{records_of_text}
use Rattle.line_fields.specs.Rows.{rows_left}
use Rattle.line_fields.proofs.MachineLemmas.{no_byte_order_mark, rows_of_text}
use Rattle.line_fields.proofs.records.hand_over.Goals as goal

pub returns-clause-rows : goal.returns-clause-rows
returns-clause-rows c =
    let fr = c.from_reader-reader.ensures in
    let rows : rows_left c.from_reader-reader.result ≡ records_of_text c.args.rest.now =
    rw (fr.state, fr.source, no_byte_order_mark c.args.rest.now c.requires)
    (rows_of_text c.args.rest.now c.requires) in
    search (rows, rules)
