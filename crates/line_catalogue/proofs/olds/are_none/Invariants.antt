use Rattle.std.proofs.Common.{◌≡◌, ◌<◌, ◌≤◌, ◌-◌, ℕ, length, get_or}
use Rattle.line_names.specs.declared.messages.MsgName.{MsgName}
use Rattle.line_catalogue.specs.Left.{start_at}
use Rattle.line_catalogue.proofs.olds.are_none.Given as goal

-- none of the first messages is from before its sender's base
abbrev pub invariant-loop-at : goal.invariant-loop-at
invariant-loop-at l = record {
  within : l.at ≤ length l.messages;
  none : (j : ℕ) (m : MsgName) → j < l.at → get_or l.messages j m ≡ m
      → start_at l.known.bases.items m.from ≤ m.number;
}

abbrev pub decreases-loop-at : goal.decreases-loop-at
decreases-loop-at l = length l.messages - l.at
