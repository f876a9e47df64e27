use Rattle.std.proofs.Common.{◌≡◌, [], take}
use Rattle.line_tape.specs.Event.{sends}
use Rattle.line_vectors.specs.Reach.{reach_of}
use Rattle.line_catalogue.specs.Rows.{AreRows}
use Rattle.line_catalogue.proofs.tables.rows_of_tape.Given as goal

abbrev pub invariant-loop-i : goal.invariant-loop-i
invariant-loop-i l = record {
  rows : AreRows l.n (take l.i l.tape.events) [] l.process.rows;
  present : l.process.present ≡ reach_of l.n (take l.i l.tape.events);
  sent_is : l.sent ≡ sends (take l.i l.tape.events);
}
