-- The lanes are as many as the vector says.
use Rattle.std.proofs.Common.{◌≡◌, ◌≤◌, length, sym, subst, arith}
use Rattle.line_vectors.proofs.PartLemmas.{parted-width}
use Rattle.line_vectors.proofs.reaches.ReachRef.n.Goals as goal

pub returns-clause-value : goal.returns-clause-value
returns-clause-value c = parted-width c.self.inside.n c.self.inside.starts.now
    c.self.inside.lanes.now c.args.self.now c.self.view_is

pub returns-clause-limit : goal.returns-clause-limit
returns-clause-limit c = omega (
  arith,
  c.self.invariant.0,
  parted-width c.self.inside.n c.self.inside.starts.now c.self.inside.lanes.now c.args.self.now
      c.self.view_is,
)
