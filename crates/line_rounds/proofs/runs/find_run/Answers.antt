-- The search finds the run of the process, if it has one.
use Rattle.std.proofs.Common.{◌≡◌, ◌≢◌, ℕ, ltb, List, sym, arith, rules}
use Rattle.std.proofs.lemmas.List.Sorted.{IsPartitionPoint-from_clause, IsPartitionedBy-ltb}
use Rattle.line_rounds.specs.Runs.{RunView}
use Rattle.line_rounds.proofs.RunLemmas.{run_found, run_lost, run_past, runs_in_order}
use Rattle.line_rounds.proofs.runs.find_run.Goals as goal

pub returns-then-get : goal.returns-then-get
returns-then-get c =
    let runs : List RunView = c.args.runs.now in
    let p : ℕ = c.args.p in
    let run : RunView = c.in-Some.run'.now in
    let place : ℕ = c.partition_point-place.result in
    let point = IsPartitionPoint-from_clause (λ (r : RunView). ltb r.from p) _ _
    c.partition_point-place.ensures.partitioned
    (IsPartitionedBy-ltb (λ (r : RunView). r.from) runs p (runs_in_order runs c.requires))
    (λ a r q k. search rules) in
    let found = c.in-Some.ensures.lookup.3 in
    let same : run.from ≡ p =
    omega (arith, c.if-get.true, c.get-in-Some.ensures.value, c.get-in-Some-2.ensures.value) in
    sym (run_found runs p place point run found.0 (found.1 run) same)

pub returns-else-get : goal.returns-else-get
returns-else-get c =
    let runs : List RunView = c.args.runs.now in
    let p : ℕ = c.args.p in
    let run : RunView = c.in-Some.run'.now in
    let place : ℕ = c.partition_point-place.result in
    let point = IsPartitionPoint-from_clause (λ (r : RunView). ltb r.from p) _ _
    c.partition_point-place.ensures.partitioned
    (IsPartitionedBy-ltb (λ (r : RunView). r.from) runs p (runs_in_order runs c.requires))
    (λ a r q k. search rules) in
    let found = c.in-Some.ensures.lookup.3 in
    let other : run.from ≢ p =
    λ e. c.if-get.false
    (omega (arith, e, c.get-in-Some.ensures.value, c.get-in-Some-2.ensures.value)) in
    sym (run_lost runs p place point run found.0 (found.1 run) c.requires other)

pub returns-in-None : goal.returns-in-None
returns-in-None c =
    let runs : List RunView = c.args.runs.now in
    let p : ℕ = c.args.p in
    let place : ℕ = c.partition_point-place.result in
    let point = IsPartitionPoint-from_clause (λ (r : RunView). ltb r.from p) _ _
    c.partition_point-place.ensures.partitioned
    (IsPartitionedBy-ltb (λ (r : RunView). r.from) runs p (runs_in_order runs c.requires))
    (λ a r q k. search rules) in
    sym (run_past runs p place point c.in-None.ensures.lookup.3)
