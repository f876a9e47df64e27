use Rattle.std.proofs.Common.{◌≡◌, ℕ, ◌<◌, ◌%◌, get_or}
use Rattle.std.specs.Int.{bit_at}
use Rattle.line_names.specs.declared.messages.MsgName.{MsgName}
use Rattle.line_rounds.proofs.inboxes.Inbox.new.Given as goal

abbrev pub invariant-each : goal.invariant-each
invariant-each l =
    (k : ℕ) (d : MsgName) → k < l.i → bit_at l.senders ((get_or l.messages.items k d).from % 64) ≡ 1
