-- What is seen of a table once the rows of one process are written.
use Rattle.std.proofs.Common.{◌≡◌, ◌≢◌, ℕ, ◌<◌, List, length, map, get_or, set, sym, ap, ◌∙◌, arith}
use Rattle.std.proofs.lemmas.List.{map-set, get_or-map, get_or-set_same, get_or-set_other}
use Rattle.std.proofs.lemmas.List.{length-map}
use Rattle.std.proofs.Math.Seq.{map-set_same}
use Rattle.line_catalogue.specs.Kept.{RowsView}

module _ {A : Type 0} (see : RowsView → A) (d : A) (items : List RowsView) (p : ℕ)
    (old new : RowsView) (within : p < length items) (is : old ≡ get_or items p old) where
  -- what was seen there
  pub seen-old : get_or (map see items) p d ≡ see old
  seen-old = get_or-map see items p old d within ∙ ap see (sym is)

  -- something else in its place
  pub seen-written : map see (set items p new) ≡ set (map see items) p (see new)
  seen-written = map-set see items p new

  -- what is seen there
  pub seen-new : get_or (map see (set items p new)) p d ≡ see new
  seen-new = ap (λ xs. get_or xs p d) (map-set see items p new) ∙ get_or-set_same (map see items) p
      (see new) d (omega (arith, length-map items see))

  -- what is seen elsewhere
  pub seen-other : (q : ℕ) → q ≢ p
      → get_or (map see (set items p new)) q d ≡ get_or (map see items) q d
  seen-other q apart = ap (λ xs. get_or xs q d) (map-set see items p new) ∙ get_or-set_other
      (map see items) p q (see new) d apart

  -- the same in its place
  pub seen-same : see new ≡ see old → map see (set items p new) ≡ map see items
  seen-same same = map-set_same see items p new old (same ∙ ap see is)
