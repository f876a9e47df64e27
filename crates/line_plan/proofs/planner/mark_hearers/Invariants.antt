use Rattle.std.proofs.Common.{◌≡◌, ◌<◌, ◌≤◌, ℕ, false}
use Rattle.line_names.specs.Sets.{is_member}
use Rattle.line_tape.specs.History.{tape_at}
use Rattle.line_vectors.specs.Reach.{reach_from}
use Rattle.line_plan.specs.Search.{AreStillDirty}
use Rattle.line_plan.proofs.planner.mark_hearers.Given as goal

abbrev pub invariant-loop-q : goal.invariant-loop-q
invariant-loop-q l = record {
  heard : (k : ℕ) → k < l.q → is_member l.dirty k ≡ false
      → reach_from (tape_at l.catalogue.processes k) l.p ≤ l.count;
  still : AreStillDirty l.fn.dirty l.dirty;
}
