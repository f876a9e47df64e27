-- The search finds what the process recorded, if it is among these.
use Rattle.std.proofs.Common.{◌≡◌, ◌≢◌, ℕ, ltb, List, sym, ap, ◌∙◌, arith, rules}
use Rattle.std.proofs.lemmas.List.Sorted.{IsPartitionPoint-from_clause, IsPartitionedBy-ltb}
use Rattle.line_rounds.specs.Recording.{MarkerView}
use Rattle.line_moves.proofs.KeptMarkers.{in_order, search_found, search_lost, search_past, told}
use Rattle.line_moves.proofs.kept_recorders.searched.Goals as goal

pub returns-then-get : goal.returns-then-get
returns-then-get c =
    let markers : List MarkerView = c.args.markers.now in
    let to : ℕ = c.args.to in
    let marker : MarkerView = c.in-Some.marker.now in
    let place : ℕ = c.partition_point-place.result in
    let point = IsPartitionPoint-from_clause
    (λ (m : MarkerView). ltb m.me to) _ _ c.partition_point-place.ensures.partitioned
    (IsPartitionedBy-ltb (λ (m : MarkerView). m.me) markers to (in_order markers c.requires.ascend))
    (λ a r q k. search rules) in
    let found = c.in-Some.ensures.lookup.3 in
    let same : marker.me ≡ to = omega (
      arith,
      c.if-get.true,
      c.get-in-Some.ensures.value,
      c.get-in-Some-2.ensures.value,
      c.me.ensures,
    ) in
    c.names.ensures ∙ sym (ap (told c.args.round c.args.from to)
    (search_found markers to place point marker found.0 (found.1 marker) same))

pub returns-else-get : goal.returns-else-get
returns-else-get c =
    let markers : List MarkerView = c.args.markers.now in
    let to : ℕ = c.args.to in
    let marker : MarkerView = c.in-Some.marker.now in
    let place : ℕ = c.partition_point-place.result in
    let point = IsPartitionPoint-from_clause
    (λ (m : MarkerView). ltb m.me to) _ _ c.partition_point-place.ensures.partitioned
    (IsPartitionedBy-ltb (λ (m : MarkerView). m.me) markers to (in_order markers c.requires.ascend))
    (λ a r q k. search rules) in
    let found = c.in-Some.ensures.lookup.3 in
    let other : marker.me ≢ to = λ e. c.if-get.false (omega
    (arith, e, c.get-in-Some.ensures.value, c.get-in-Some-2.ensures.value, c.me.ensures)) in
    sym (ap (told c.args.round c.args.from to) (search_lost markers to place point marker found.0
    (found.1 marker) c.requires.ascend other))

pub returns-in-None : goal.returns-in-None
returns-in-None c =
    let markers : List MarkerView = c.args.markers.now in
    let to : ℕ = c.args.to in
    let place : ℕ = c.partition_point-place.result in
    let point = IsPartitionPoint-from_clause
    (λ (m : MarkerView). ltb m.me to) _ _ c.partition_point-place.ensures.partitioned
    (IsPartitionedBy-ltb (λ (m : MarkerView). m.me) markers to (in_order markers c.requires.ascend))
    (λ a r q k. search rules) in
    sym (ap (told c.args.round c.args.from to)
    (search_past markers to place point c.in-None.ensures.lookup.3))
