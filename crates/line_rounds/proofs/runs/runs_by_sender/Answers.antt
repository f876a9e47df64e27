-- The messages of one more sender are cut off.
use Rattle.std.proofs.Common.{◌≡◌, ◌<◌, ◌≤◌, ◌∙◌, ℕ, leb, List, length, get_or, sym, ap, subst}
use Rattle.std.proofs.Common.{arith, rules, true, false}
use Rattle.std.specs.List.Sorted.{IsPartitionPoint}
use Rattle.std.proofs.lemmas.List.{get_or_default}
use Rattle.std.proofs.lemmas.List.Sorted.{IsPartitionPoint-from_clause, IsPartitionedBy-leb}
use Rattle.line_names.specs.declared.messages.MsgName.{MsgName}
use Rattle.line_rounds.specs.Inboxes.{ComeBySender}
use Rattle.line_rounds.specs.Runs.{RunView}
use Rattle.line_rounds.proofs.RunLemmas.{cut_goes_on, IsCut, IsCut-more}
use Rattle.line_rounds.proofs.runs.runs_by_sender.Goals as goal

-- the search ends behind the place where it begins
goes_on : (messages : List MsgName) (start : ℕ) (runs : List RunView) (first : MsgName) (end : ℕ)
    → IsCut messages start runs → ComeBySender messages → start < length messages
    → first ≡ get_or messages start first
    → IsPartitionPoint (λ (m : MsgName). leb m.from first.from ≡ true)
    (λ (m : MsgName). leb m.from first.from ≡ false) messages end
    → end ≤ length messages → start < end
goes_on messages start runs first end cut by_sender more is last within =
    cut_goes_on messages start runs cut by_sender more first.from end
    (λ d. ap (λ (m : MsgName). m.from) (get_or_default messages start d first more ∙ sym is)) last
    within

pub slice_bounds-new-count : goal.slice_bounds-new-count
slice_bounds-new-count c =
    let messages : List MsgName = c.args.messages.now in
    let first : MsgName = c.index-messages-start.result in
    let last = IsPartitionPoint-from_clause (λ (m : MsgName). leb m.from first.from) _ _
    c.partition_point-end.ensures.partitioned
    (IsPartitionedBy-leb (λ (m : MsgName). m.from) messages first.from c.requires)
    (λ a r q k. search rules) in
    let more : c.each.start < c.partition_point-end.result =
    goes_on messages c.each.start c.each.runs.items first c.partition_point-end.result
    c.each.invariant c.requires c.each-test.true c.index-messages-start.is last
    c.partition_point-end.ensures.bound in
    omega (arith, more)

pub slice_bounds-new-start : goal.slice_bounds-new-start
slice_bounds-new-start c =
    let messages : List MsgName = c.args.messages.now in
    let first : MsgName = c.index-messages-start.result in
    let last = IsPartitionPoint-from_clause (λ (m : MsgName). leb m.from first.from) _ _
    c.partition_point-end.ensures.partitioned
    (IsPartitionedBy-leb (λ (m : MsgName). m.from) messages first.from c.requires)
    (λ a r q k. search rules) in
    let more : c.each.start < c.partition_point-end.result =
    goes_on messages c.each.start c.each.runs.items first c.partition_point-end.result
    c.each.invariant c.requires c.each-test.true c.index-messages-start.is last
    c.partition_point-end.ensures.bound in
    omega (arith, more)

pub each-smaller : goal.each-smaller
each-smaller c =
    let messages : List MsgName = c.args.messages.now in
    let first : MsgName = c.index-messages-start.result in
    let last = IsPartitionPoint-from_clause (λ (m : MsgName). leb m.from first.from) _ _
    c.partition_point-end.ensures.partitioned
    (IsPartitionedBy-leb (λ (m : MsgName). m.from) messages first.from c.requires)
    (λ a r q k. search rules) in
    let more : c.each.start < c.partition_point-end.result =
    goes_on messages c.each.start c.each.runs.items first c.partition_point-end.result
    c.each.invariant c.requires c.each-test.true c.index-messages-start.is last
    c.partition_point-end.ensures.bound in
    omega (arith, more, c.each-test.true)

pub each-preserved : goal.each-preserved
each-preserved c =
    let messages : List MsgName = c.args.messages.now in
    let first : MsgName = c.index-messages-start.result in
    let last = IsPartitionPoint-from_clause (λ (m : MsgName). leb m.from first.from) _ _
    c.partition_point-end.ensures.partitioned
    (IsPartitionedBy-leb (λ (m : MsgName). m.from) messages first.from c.requires)
    (λ a r q k. search rules) in
    let end : ℕ = c.partition_point-end.result in
    subst (IsCut messages end) (sym c.in_ok-push.ensures.items)
    (IsCut-more messages c.each.start c.each.runs.items c.each.invariant c.requires
    c.each-test.true first.from end
    (λ d. ap (λ (m : MsgName). m.from)
    (get_or_default messages c.each.start d first c.each-test.true
    ∙ sym c.index-messages-start.is)) last c.partition_point-end.ensures.bound
    c.in_ok-run.run'
    (c.in_ok-run.ensures.from ∙ sym (ap (λ (m : MsgName). m.from) c.index-messages-start.is))
    c.in_ok-run.ensures.messages)
