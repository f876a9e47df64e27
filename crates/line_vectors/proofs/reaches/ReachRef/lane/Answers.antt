-- The lane stands in its part.
use Rattle.std.proofs.Common.{ℕ, List, get_or, ap, sym, ◌∙◌}
use Rattle.std.proofs.Common.{arith}
use Rattle.line_vectors.proofs.PartLemmas.{lane-parted, parted-width}
use Rattle.line_vectors.proofs.reaches.ReachRef.lane.Goals as goal

pub bounds-self-inside-at : goal.bounds-self-inside-at
bounds-self-inside-at c = omega (
  arith,
  c.requires,
  c.get-at.ensures.value,
  c.self.invariant.1.enough,
  parted-width c.self.inside.n c.self.inside.starts.now c.self.inside.lanes.now c.args.self.now
      c.self.view_is,
)

pub bounds-self-inside-self-inside : goal.bounds-self-inside-self-inside
bounds-self-inside-self-inside c = c.self.invariant.1.within c.get-at.result (omega (
  arith,
  c.requires,
  c.get-at.ensures.value,
  parted-width c.self.inside.n c.self.inside.starts.now c.self.inside.lanes.now c.args.self.now
      c.self.view_is,
))

pub returns : goal.returns
returns c =
    sym (lane-parted c.self.inside.n c.self.inside.starts.now c.self.inside.lanes.now
    c.get-at.result 0 (omega (
      arith,
      c.requires,
      c.get-at.ensures.value,
      parted-width c.self.inside.n c.self.inside.starts.now c.self.inside.lanes.now
          c.args.self.now c.self.view_is,
    )))
    ∙ ap (λ (xs : List ℕ). get_or xs c.get-at.result 0) c.self.view_is
    ∙ ap (λ i. get_or c.args.self.now i 0) c.get-at.ensures.value
