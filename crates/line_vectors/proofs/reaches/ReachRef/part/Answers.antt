-- A part stands among the lanes as the vector's own part.
use Rattle.std.proofs.Common.{◌≡◌, ◌+◌, ◌-◌, ◌*◌, ◌<◌, ℕ, List, get_or, take, drop, min}
use Rattle.std.proofs.Common.{ap, ◌∙◌, arith}
use Rattle.line_vectors.specs.declared.parts.TheConstants.{PART}
use Rattle.line_vectors.proofs.PartLemmas.{part-lanes, part-started, part-within, parted-width}
use Rattle.line_vectors.proofs.reaches.ReachRef.part.Goals as goal

pub offset_bounds-self-inside-k : goal.offset_bounds-self-inside-k
offset_bounds-self-inside-k c = omega (
  arith,
  c.requires,
  c.self.invariant.0,
  parted-width c.self.inside.n c.self.inside.starts.now c.self.inside.lanes.now c.args.self.now
      c.self.view_is,
)

pub bounds-self-inside-k : goal.bounds-self-inside-k
bounds-self-inside-k c = part-started c.self.inside.n c.self.inside.starts.now
    c.self.inside.lanes.now c.self.invariant.1 c.args.k (omega (
      arith,
      c.requires,
      parted-width c.self.inside.n c.self.inside.starts.now c.self.inside.lanes.now
          c.args.self.now c.self.view_is,
    ))

pub overflow_mul-k : goal.overflow_mul-k
overflow_mul-k c = omega (
  arith,
  c.requires,
  c.self.invariant.0,
  parted-width c.self.inside.n c.self.inside.starts.now c.self.inside.lanes.now c.args.self.now
      c.self.view_is,
)

pub overflow_sub-self-inside : goal.overflow_sub-self-inside
overflow_sub-self-inside c = omega (
  arith,
  c.requires,
  parted-width c.self.inside.n c.self.inside.starts.now c.self.inside.lanes.now c.args.self.now
      c.self.view_is,
)

pub slice_bounds-result-end : goal.slice_bounds-result-end
slice_bounds-result-end c =
    let n : ℕ = c.self.inside.n in
    let starts : List ℕ = c.self.inside.starts.now in
    let lanes : List ℕ = c.self.inside.lanes.now in
    let before : c.args.k * PART < n = omega
    (arith, c.requires, parted-width n starts lanes c.args.self.now c.self.view_is) in
    omega
    (arith, c.min-len.ensures, part-within n starts lanes c.self.invariant.1 c.args.k before)

pub returns : goal.returns
returns c =
    let n : ℕ = c.self.inside.n in
    let starts : List ℕ = c.self.inside.starts.now in
    let lanes : List ℕ = c.self.inside.lanes.now in
    let k : ℕ = c.args.k in
    let start : ℕ = get_or starts k 0 in
    let before : k * PART < n = omega
    (arith, c.requires, parted-width n starts lanes c.args.self.now c.self.view_is) in
    let width : start + c.min-len.result - start ≡ min PART (n - k * PART) =
    omega (arith, c.min-len.ensures) in
    ap (λ i. take i (drop start lanes)) width ∙ part-lanes n starts lanes c.self.invariant.1 k
    before
    ∙ ap (λ (xs : List ℕ). take PART (drop (k * PART) xs)) c.self.view_is
