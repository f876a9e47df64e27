use Rattle.std.proofs.Common.{◌≡◌, take}
use Rattle.line_rounds.proofs.channels.hold_inboxes.Given as goal

abbrev pub invariant-loop-inbox : goal.invariant-loop-inbox
invariant-loop-inbox l = l.held.items ≡ take l.inbox-index l.inboxes
