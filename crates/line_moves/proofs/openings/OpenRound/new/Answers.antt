-- All its markers are to come.
use Rattle.std.proofs.Common.{◌≡◌, ℕ, ◌*◌, ◌-◌, List, length, refl, sym, ap, ◌∙◌, subst}
use Rattle.std.proofs.lemmas.List.{length-replicate}
use Rattle.line_rounds.specs.Recording.{MarkerView}
use Rattle.line_rounds.specs.Turning.{TurningView}
use Rattle.line_moves.specs.Openings.{AreMarkers, AreToCome}
use Rattle.line_moves.proofs.ToComeLemmas.{AreToCome-fresh}
use Rattle.line_moves.proofs.openings.OpenRound.new.Goals as goal

pub invariant_of-result : goal.invariant_of-result
invariant_of-result c =
    let turning : TurningView = c.in_ok-turning.turning in
    let markers : List MarkerView = c.in_ok-markers.markers.items in
    let n : ℕ = c.n-n.result in
    let size : length turning.checks ≡ n = ap
    (λ (xs : List ℕ). length xs) c.in_ok-turning.ensures.checks ∙ length-replicate n 0 in
    let are : AreMarkers n markers = c.in_ok-markers.ensures.markers in
    let coming : AreToCome (n * (n - 1)) n turning.number markers = AreToCome-fresh
    (n * (n - 1)) n turning.number 0 markers refl are.count c.in_ok-markers.ensures.fresh in (
      subst (λ (v : ℕ). AreMarkers v markers) (sym size) are,
      subst
          (λ (v : ℕ). AreToCome (n * (n - 1)) v turning.number markers) (sym size) coming,
    )
