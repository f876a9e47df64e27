use Rattle.std.proofs.Common.{◌≡◌, ◌≢◌, ◌+◌, ◌*◌, ◌<◌, ◌≤◌, ℕ, length, get_or, take, vec_capacity}
use Rattle.line_vectors.specs.declared.parts.TheConstants.{PART}
use Rattle.line_vectors.specs.Parts.{part_count}
use Rattle.line_catalogue.specs.declared.laid.TheConstants.{MOST_PARTS, NOT_LAID}
use Rattle.line_catalogue.specs.Laid.{AreHeld}
use Rattle.line_catalogue.proofs.laid.lay.Given as goal

-- the first parts are laid, and what was laid before stands where it did
abbrev pub invariant-loop-k : goal.invariant-loop-k
invariant-loop-k l = record {
  ends : l.parts ≡ part_count (length l.present);
  count : length l.starts ≡ MOST_PARTS;
  few_parts : part_count (length l.present) ≤ MOST_PARTS;
  kept : take (length l.fn.lanes.items) l.lanes.items ≡ l.fn.lanes.items;
  longer : length l.fn.lanes.items ≤ length l.lanes.items;
  few : length l.lanes.items ≤ length l.fn.lanes.items + l.k * PART;
  few_lanes : length l.lanes.items ≤ length l.fn.lanes.items + length l.present;
  capacity : vec_capacity l.fn.lanes ≤ vec_capacity l.lanes;
  held : AreHeld l.lanes.items l.starts l.present;
  laid : (j : ℕ) → j < l.k → get_or l.starts j 0 ≢ NOT_LAID;
}
