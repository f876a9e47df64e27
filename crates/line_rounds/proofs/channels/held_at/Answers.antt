-- Inboxes ascend, so one that stands at the number of its process is the only one of it.
use Rattle.std.proofs.Common.{◌≡◌, List, sym, ap, ◌∙◌, arith}
use Rattle.line_rounds.specs.Inboxes.{messages_from, InboxView}
use Rattle.line_rounds.proofs.InboxLemmas.{held_here}
use Rattle.line_rounds.proofs.channels.held_at.Goals as goal

pub returns-then-get : goal.returns-then-get
returns-then-get c =
    let inboxes : List InboxView = c.args.inboxes.now in
    let own : InboxView = c.in-Some.own.now in
    let found = c.in-Some.ensures.lookup.3 in
    let same : own.to ≡ c.args.to =
    omega (
      arith,
      c.if-get.true,
      c.get-in-Some.ensures.value,
      c.get-in-Some-2.ensures.value,
      c.to.ensures,
    ) in
    c.from.ensures
    ∙ ap (messages_from c.args.from)
    (sym (held_here inboxes c.get.result c.args.to own c.requires found.0 (found.1 own) same))
