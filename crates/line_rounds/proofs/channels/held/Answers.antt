-- The search finds the inbox of the process, if it has one.
use Rattle.std.proofs.Common.{◌≡◌, ◌≢◌, ℕ, ltb, List, sym, ap, ◌∙◌, arith, rules}
use Rattle.std.proofs.lemmas.List.Sorted.{IsPartitionPoint-from_clause, IsPartitionedBy-ltb}
use Rattle.line_rounds.specs.Inboxes.{messages_from, InboxView}
use Rattle.line_rounds.proofs.InboxLemmas.{held_found, held_lost, held_past, inboxes_in_order}
use Rattle.line_rounds.proofs.channels.held.Goals as goal

pub returns-then-get : goal.returns-then-get
returns-then-get c =
    let inboxes : List InboxView = c.args.inboxes.now in
    let to : ℕ = c.args.to in
    let inbox : InboxView = c.in-Some.inbox.now in
    let place : ℕ = c.partition_point-place.result in
    let point = IsPartitionPoint-from_clause (λ (i : InboxView). ltb i.to to) _ _
    c.partition_point-place.ensures.partitioned
    (IsPartitionedBy-ltb (λ (i : InboxView). i.to) inboxes to
    (inboxes_in_order inboxes c.requires)) (λ a r q k. search rules) in
    let found = c.in-Some.ensures.lookup.3 in
    let same : inbox.to ≡ to =
    omega (
      arith,
      c.if-get.true,
      c.get-in-Some.ensures.value,
      c.get-in-Some-2.ensures.value,
      c.to.ensures,
    ) in
    c.from.ensures
    ∙ ap (messages_from c.args.from)
    (sym (held_found inboxes to place point inbox found.0 (found.1 inbox) same))

pub returns-else-get : goal.returns-else-get
returns-else-get c =
    let inboxes : List InboxView = c.args.inboxes.now in
    let to : ℕ = c.args.to in
    let inbox : InboxView = c.in-Some.inbox.now in
    let place : ℕ = c.partition_point-place.result in
    let point = IsPartitionPoint-from_clause (λ (i : InboxView). ltb i.to to) _ _
    c.partition_point-place.ensures.partitioned
    (IsPartitionedBy-ltb (λ (i : InboxView). i.to) inboxes to
    (inboxes_in_order inboxes c.requires)) (λ a r q k. search rules) in
    let found = c.in-Some.ensures.lookup.3 in
    let other : inbox.to ≢ to =
    λ e. c.if-get.false
    (omega (arith, e, c.get-in-Some.ensures.value, c.get-in-Some-2.ensures.value, c.to.ensures))
    in
    ap (messages_from c.args.from)
    (sym (held_lost inboxes to place point inbox found.0 (found.1 inbox) c.requires other))

pub returns-in-None : goal.returns-in-None
returns-in-None c =
    let inboxes : List InboxView = c.args.inboxes.now in
    let to : ℕ = c.args.to in
    let place : ℕ = c.partition_point-place.result in
    let point = IsPartitionPoint-from_clause (λ (i : InboxView). ltb i.to to) _ _
    c.partition_point-place.ensures.partitioned
    (IsPartitionedBy-ltb (λ (i : InboxView). i.to) inboxes to
    (inboxes_in_order inboxes c.requires)) (λ a r q k. search rules) in
    ap (messages_from c.args.from)
    (sym (held_past inboxes to place point c.in-None.ensures.lookup.3))
