-- The two searches find where what the process sent begins and ends.
use Rattle.std.proofs.Common.{ℕ, leb, ltb, List, rules}
use Rattle.std.proofs.lemmas.List.Sorted.{IsPartitionPoint-from_clause, IsPartitionedBy-leb}
use Rattle.std.proofs.lemmas.List.Sorted.{IsPartitionedBy-ltb}
use Rattle.line_names.specs.declared.messages.MsgName.{MsgName}
use Rattle.line_catalogue.proofs.SenderLemmas.{part_ascends, part_sent}
use Rattle.line_catalogue.proofs.senders.messages_of.Goals as goal

pub slice_bounds-result-count : goal.slice_bounds-result-count
slice_bounds-result-count c =
    let messages : List MsgName = c.args.messages.now in
    let p : ℕ = c.args.p in
    let first = IsPartitionPoint-from_clause
    (λ (m : MsgName). ltb m.from p) _ _ c.partition_point-start.ensures.partitioned
    (IsPartitionedBy-ltb (λ (m : MsgName). m.from) messages p c.requires)
    (λ a r q k. search rules) in
    let last = IsPartitionPoint-from_clause
    (λ (m : MsgName). leb m.from p) _ _ c.partition_point-end.ensures.partitioned
    (IsPartitionedBy-leb (λ (m : MsgName). m.from) messages p c.requires)
    (λ a r q k. search rules) in
    part_ascends messages p c.partition_point-start.result c.partition_point-end.result first last
    c.partition_point-start.ensures.bound

pub slice_bounds-result-start : goal.slice_bounds-result-start
slice_bounds-result-start c =
    let messages : List MsgName = c.args.messages.now in
    let p : ℕ = c.args.p in
    let first = IsPartitionPoint-from_clause
    (λ (m : MsgName). ltb m.from p) _ _ c.partition_point-start.ensures.partitioned
    (IsPartitionedBy-ltb (λ (m : MsgName). m.from) messages p c.requires)
    (λ a r q k. search rules) in
    let last = IsPartitionPoint-from_clause
    (λ (m : MsgName). leb m.from p) _ _ c.partition_point-end.ensures.partitioned
    (IsPartitionedBy-leb (λ (m : MsgName). m.from) messages p c.requires)
    (λ a r q k. search rules) in
    part_ascends messages p c.partition_point-start.result c.partition_point-end.result first last
    c.partition_point-start.ensures.bound

pub returns : goal.returns
returns c =
    let messages : List MsgName = c.args.messages.now in
    let p : ℕ = c.args.p in
    let first = IsPartitionPoint-from_clause
    (λ (m : MsgName). ltb m.from p) _ _ c.partition_point-start.ensures.partitioned
    (IsPartitionedBy-ltb (λ (m : MsgName). m.from) messages p c.requires)
    (λ a r q k. search rules) in
    let last = IsPartitionPoint-from_clause
    (λ (m : MsgName). leb m.from p) _ _ c.partition_point-end.ensures.partitioned
    (IsPartitionedBy-leb (λ (m : MsgName). m.from) messages p c.requires)
    (λ a r q k. search rules) in
    part_sent messages p c.partition_point-start.result c.partition_point-end.result first last
    c.partition_point-start.ensures.bound c.partition_point-end.ensures.bound
