-- The bit of each of the processes is set in its turn.
use Rattle.std.proofs.Common.{◌∙◌, ℕ, List, sym, ap, arith}
use Rattle.std.proofs.lemmas.List.{get_or_default}
use Rattle.line_rounds.specs.Recording.{MarkerView}
use Rattle.line_moves.proofs.KeptMarkers.{bits_more}
use Rattle.line_moves.proofs.kept_recorders.KeptRecorders.of.Goals as goal

pub invariant_of-result : goal.invariant_of-result
invariant_of-result c = λ k d within.
    c.each.invariant k d (omega (arith, within, c.each-test.false))

pub each-preserved : goal.each-preserved
each-preserved c =
    let markers : List MarkerView = c.args.markers.items in
    let i : ℕ = c.each.i in
    let marker : MarkerView = c.index.result.now in
    bits_more c.each.receivers markers i c.get.result c.each.invariant
    (λ d. ap (λ (m : MarkerView). m.me) (get_or_default markers i d marker
    (omega (arith, c.each-test.true, c.len-i-end.ensures)) ∙ sym c.index.ensures)
    ∙ sym c.me.ensures ∙ sym c.get.ensures.value)
