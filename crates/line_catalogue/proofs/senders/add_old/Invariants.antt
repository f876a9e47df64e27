use Rattle.std.proofs.Common.{◌≡◌, ◌<◌, ◌≤◌, ◌++◌, ◌⊎◌, ℕ, get_or}
use Rattle.line_catalogue.specs.Left.{open_first}
use Rattle.line_catalogue.proofs.senders.add_old.Given as goal

abbrev pub invariant-loop-number : goal.invariant-loop-number
invariant-loop-number l = record {
  low : l.next ≤ l.end;
  found : l.messages.items
      ≡ l.fn.messages.items ++ open_first l.history.processes l.line l.p l.next;
  passed : (j : ℕ) → j < l.number-index → (get_or l.row j 0 < l.next) ⊎ (l.end ≤ get_or l.row j 0);
}
