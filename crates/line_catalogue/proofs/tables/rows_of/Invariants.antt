use Rattle.std.proofs.Common.{◌≡◌}
use Rattle.line_tape.specs.Views.{damaged_at}
use Rattle.line_vectors.specs.Reach.{reach_of}
use Rattle.line_catalogue.proofs.DamageLemmas.{AreTold}
use Rattle.line_catalogue.proofs.tables.rows_of.Given as goal

abbrev pub invariant-loop-check : goal.invariant-loop-check
invariant-loop-check l = record {
  rows : AreTold l.n l.tape.events (damaged_at l.marks l.p) l.check l.process.rows;
  present : l.process.present ≡ reach_of l.n l.tape.events;
}
