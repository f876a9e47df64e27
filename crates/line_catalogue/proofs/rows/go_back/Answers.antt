-- The lanes end with the vector of the choice, which is then that of where the process stands.
use Rattle.std.proofs.Common.{◌≡◌, ◌+◌, ◌-◌, ◌<◌, ℕ, false, List, length, map, take, drop, get_or}
use Rattle.std.proofs.Common.{sym}
use Rattle.std.proofs.Common.{ap, ◌∙◌, arith}
use Rattle.line_names.specs.declared.choices.Choice.{Choice}
use Rattle.line_vectors.specs.Parts.{parted, part_count}
use Rattle.line_vectors.proofs.PartLemmas.{length-parted}
use Rattle.line_catalogue.specs.declared.kept_rows.KeptRow.{KeptRow}
use Rattle.line_catalogue.specs.declared.kept_rows.Row.{Row}
use Rattle.line_catalogue.specs.Laid.{row_of, starts_at, vector_after}
use Rattle.line_catalogue.specs.Rows.{rows_kept}
use Rattle.line_catalogue.proofs.LaidLemmas.{BeginAlike, Shows, back-laid}
use Rattle.line_catalogue.proofs.rows.go_back.Goals as goal
use Rattle.line_catalogue.proofs.rows.go_back.Goals.{After-truncate-in-Check}

pub set_to_lent-requires : goal.set_to_lent-requires
set_to_lent-requires c =
    sym (ap (λ (xs : List ℕ). length xs) c.in_parts.ensures ∙ length-parted c.n-in-Check.result
    (take (c.index.result.now.start + c.part_count-parts.result - c.index.result.now.start)
    (drop c.index.result.now.start c.deref.result.now)) c.deref-in-Check.result.now
    ∙ c.n-in-Check.ensures.value)

-- how many starts were read
counted : (c : After-truncate-in-Check)
    → c.part_count-parts.result ≡ part_count (length c.args.present.now)
counted c = c.part_count-parts.ensures ∙ ap part_count c.n.ensures.value

-- the slice of starts that was read
told : (c : After-truncate-in-Check)
    → take (c.index.result.now.start + c.part_count-parts.result - c.index.result.now.start)
    (drop c.index.result.now.start c.deref.result.now)
    ≡ starts_at (length c.args.present.now) c.args.lanes.now.items c.index.result.now.start
told c =
    let start : ℕ = c.index.result.now.start in
    let wide : start + c.part_count-parts.result - start ≡ part_count (length c.args.present.now) =
    omega (arith, counted c) in
    ap (λ i. take i (drop start c.deref.result.now)) wide ∙ ap
    (λ (xs : List ℕ). take (part_count (length c.args.present.now)) (drop start xs))
    c.deref.ensures.value

-- the vector that was taken
taken : (c : After-truncate-in-Check) → c.set_to_lent.new.self
    ≡ vector_after (length c.args.present.now) c.args.lanes.now.items c.index.result.now.start
taken c =
    let lanes : List ℕ = c.args.lanes.now.items in
    let n : ℕ = length c.args.present.now in
    c.set_to_lent.ensures ∙ c.in_parts.ensures ∙ ap (λ (xs : List ℕ). parted c.n-in-Check.result xs
    c.deref-in-Check.result.now) (told c) ∙ ap (λ i. parted i
    (starts_at n lanes c.index.result.now.start) c.deref-in-Check.result.now)
    c.n-in-Check.ensures.value
    ∙ ap (λ (xs : List ℕ). parted n (starts_at n lanes c.index.result.now.start) xs)
    c.deref-in-Check.ensures.value

whole : (c : After-truncate-in-Check)
    → Shows c.truncate-in-Check.new.self.items c.truncate.new.self.items false c.loop-k.starts
    c.set_to_lent.new.self (length c.args.present.now) (take (c.in-Check.c + 1)
    (map (row_of (length c.args.present.now) c.args.lanes.now.items) c.args.rows.now.items))
whole c =
    let rows : List KeptRow = c.args.rows.now.items in
    let lanes : List ℕ = c.args.lanes.now.items in
    let present : List ℕ = c.args.present.now in
    let row : KeptRow = c.index.result.now in
    let within : c.in-Check.c < length rows = omega
    (arith, c.requires.there c.in-Check.c c.in-Check.is, c.args.rows.now.ok.0) in
    let begin : BeginAlike (part_count (length present)) (starts_at (length present) lanes
    row.start) c.loop-k.starts = λ i h. sym (c.loop-k.invariant.copied i
    (omega (arith, h, c.loop-k-test.false, counted c))
    ∙ ap (λ (xs : List ℕ). get_or xs i 0) (told c))
    in
    let ended : row.start + c.part_count-parts.result ≡ row.start + part_count (length present) =
    omega (arith, counted c) in
    rw (taken c, c.truncate-in-Check.ensures.items, c.truncate.ensures.items, ended)
    (back-laid lanes c.args.starts.now present rows c.args.heard.now c.in-Check.c row
    c.requires.laid within c.index.ensures c.loop-k.starts begin)

pub returns-after-loop-k-clause-rows : goal.returns-after-loop-k-clause-rows
returns-after-loop-k-clause-rows c =
    let shown : List Row = map
    (row_of (length c.args.present.now) c.args.lanes.now.items) c.args.rows.now.items in
    (whole c).shows ∙ ap (λ (choice : Choice). rows_kept choice shown) (sym c.in-Check.is)

pub returns-after-loop-k-clause-lanes : goal.returns-after-loop-k-clause-lanes
returns-after-loop-k-clause-lanes c = ap (λ (xs : List ℕ). length xs) (taken c) ∙ length-parted
    (length c.args.present.now)
    (starts_at (length c.args.present.now) c.args.lanes.now.items c.index.result.now.start)
    c.args.lanes.now.items

pub returns-after-loop-k-clause-laid : goal.returns-after-loop-k-clause-laid
returns-after-loop-k-clause-laid c = (whole c).laid
