-- The parts of lanes that stand one after the other.
use Rattle.std.proofs.Common.{ℕ, List, length, sym, subst, ap, ◌∙◌}
use Rattle.line_vectors.specs.Parts.{ArePartsAmong, parted}
use Rattle.line_vectors.proofs.PartLemmas.{row-among, row-parted}
use Rattle.line_vectors.proofs.reaches.ReachRef.of.Goals as goal

pub invariant_of-result : goal.invariant_of-result
invariant_of-result c = (
  c.requires,
  subst (λ (xs : List ℕ). ArePartsAmong (length c.args.lanes.now) xs (length c.args.lanes.now))
      (sym c.as_slice.ensures) (row-among (length c.args.lanes.now) c.requires),
)

pub returns : goal.returns
returns c = ap (λ (xs : List ℕ). parted (length c.args.lanes.now) xs c.args.lanes.now)
    c.as_slice.ensures ∙ row-parted c.args.lanes.now c.requires
