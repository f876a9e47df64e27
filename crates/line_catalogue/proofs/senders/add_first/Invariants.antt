use Rattle.std.proofs.Common.{◌≡◌, ◌<◌, ◌≤◌, ◌++◌, ◌⊎◌, ℕ, get_or, length, map}
use Rattle.line_names.specs.declared.messages.MsgName.{MsgName}
use Rattle.line_catalogue.specs.Left.{open_first}
use Rattle.line_catalogue.proofs.senders.add_first.Given as goal

-- up to any number that is behind those that were looked at and not behind the next one
abbrev pub invariant-loop-message : goal.invariant-loop-message
invariant-loop-message l =
    (b : ℕ) → b ≤ l.sender.end
    → ((j : ℕ) → j < l.message-index
    → (get_or (map (λ (m : MsgName). m.number) l.kept) j 0 < b)
    ⊎ (l.sender.end ≤ get_or (map (λ (m : MsgName). m.number) l.kept) j 0))
    → (l.message-index < length (map (λ (m : MsgName). m.number) l.kept)
    → b ≤ get_or (map (λ (m : MsgName). m.number) l.kept) l.message-index 0)
    → l.messages.items ≡ l.fn.messages.items ++ open_first l.history.processes l.line l.sender.p b
