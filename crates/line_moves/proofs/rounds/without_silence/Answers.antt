-- What is taken out recorded nothing.
use Rattle.std.proofs.Common.{◌≡◌, ℕ, ◌-◌, ◌<◌, List, length, sym, ap, ◌∙◌, subst, arith}
use Rattle.std.specs.Prelude.{All, remove}
use Rattle.std.proofs.lemmas.List.{get_or_default}
use Rattle.line_rounds.specs.Recording.{MarkerView}
use Rattle.line_moves.specs.Openings.{kept_channel, marker_at, no_marker}
use Rattle.line_moves.proofs.KeptMarkers.{aligned_ascend, by_process, found_all, kept_removed, told}
use Rattle.line_moves.proofs.KeptMarkers.{All-removed, Ascend, Ascend-removed}
use Rattle.line_moves.proofs.rounds.without_silence.Goals as goal

pub each-init : goal.each-init
each-init c =
    let markers : List MarkerView = c.args.markers.items in (
      omega (arith, c.len-q.ensures, c.args.markers.ok.0),
      λ k d within. ap (λ (m : MarkerView). m.n) (get_or_default markers k d no_marker within) ∙
          c.requires.markers.n_is k (omega (arith, within, c.requires.markers.count)),
      aligned_ascend 0 markers (λ q within. c.requires.markers.me_is q
          (omega (arith, within, c.requires.markers.count)) ∙ omega arith),
      λ p to p_within to_within. found_all c.args.n c.args.round p to markers c.requires.markers
          to_within,
    )

pub each-preserved-then-is_silent : goal.each-preserved-then-is_silent
each-preserved-then-is_silent c =
    let old : List MarkerView = c.each.kept.items in
    let q : ℕ = c.each.q - 1 in
    let within : q < length old = omega (arith, c.each.invariant.0, c.each-test.true) in
    let removed : c.remove.new.self.items ≡ remove old q = c.remove.ensures.items in
    let own : c.index.result.now ≡ marker_at old q = c.index.ensures ∙ get_or_default old q
    c.index.result.now no_marker within in (
      omega (arith, within, c.remove.ensures.len, c.remove.new.self.ok.0, c.each.kept.ok.0),
      subst (λ (ms : List MarkerView). All (λ (m : MarkerView). m.n ≡ c.args.n) ms) (sym removed)
          (All-removed (λ (m : MarkerView). m.n ≡ c.args.n) old q c.each.invariant.1),
      subst (Ascend 0) (sym removed) (Ascend-removed 0 old q c.each.invariant.2),
      λ p to p_within to_within.
          ap (λ (ms : List MarkerView). kept_channel ms c.args.round p to) removed
          ∙ kept_removed c.args.round p to 0 old q c.each.invariant.2 within (ap (told c.args.round
          p to) (sym own) ∙ c.is_silent.ensures.0 c.if-is_silent.true c.args.round p)
          ∙ c.each.invariant.3 p to p_within to_within,
    )

pub returns-clause-ascend : goal.returns-clause-ascend
returns-clause-ascend c = by_process 0 c.each.kept.items c.each.invariant.2
