use Rattle.std.proofs.Common.{◌≡◌, ◌++◌, false, List, [], length}
use Rattle.line_fields.specs.Records.{Record}
use Rattle.line_scripts.specs.Beginnings.{IsBeginning, has_machine, taken_of}
use Rattle.line_scripts.specs.Pieces.{script_left}
use Rattle.line_scripts.proofs.pieces.begin.Given as goal

abbrev pub invariant-records : goal.invariant-records
invariant-records l = record {
  kept : IsBeginning l.beginning;
  before : has_machine l.beginning ≡ false;
  none : l.commands ≡ [];
  same : (rest : List Record) → script_left (taken_of l.fn.beginning []) (l.fn.records ++ rest)
      ≡ script_left (taken_of l.beginning []) (l.records ++ rest);
}

abbrev pub decreases-records : goal.decreases-records
decreases-records l = length l.records
