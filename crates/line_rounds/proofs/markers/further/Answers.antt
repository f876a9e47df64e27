-- One more round is passed over.
use Rattle.std.proofs.Common.{◌≡◌, ℕ, suc, ◌+◌, ◌<◌, true, List, length, get_or, sym, ap, ◌∙◌}
use Rattle.std.proofs.Common.{subst, arith}
use Rattle.std.proofs.lemmas.List.{get_or_default}
use Rattle.line_rounds.specs.declared.spans.Span.{Span}
use Rattle.line_rounds.specs.declared.spans.Span.TheVariants.{Open}
use Rattle.line_rounds.specs.Spans.{is_over, AreOver, RoundView}
use Rattle.line_rounds.proofs.PassedLemmas.{AreOver-more}
use Rattle.line_rounds.proofs.markers.further.Goals as goal

pub further-preserved : goal.further-preserved
further-preserved c =
    let rounds : List RoundView = c.args.rounds.now in
    let k : ℕ = c.further.k in
    let p : ℕ = c.args.p in
    let old : RoundView = c.index-rounds-k.result in
    let at : old ≡ get_or rounds k old = c.index-rounds-k.is in
    let below : k < length rounds = omega (arith, c.further-test.true) in
    let within : p < length old.spans = subst (λ (r : RoundView). p < length r.spans) (sym at)
    (c.requires.spans k old below) in
    let spans : c.round.inside.spans.items
    ≡ old.spans = ap (λ (r : RoundView). r.spans) c.round.view_is in
    let span : Span = c.index-span.result.now in
    let here : span ≡ get_or old.spans p span = subst
    (λ (ss : List Span). span ≡ get_or ss p span) spans c.index-span.ensures in
    let shut : is_over span ≡ true = sym c.is_closed.ensures ∙ c.if-not-is_closed.false in
    let there : is_over (get_or (get_or rounds k old).spans p (Open 0)) ≡ true =
    ap (λ (r : RoundView). is_over (get_or r.spans p (Open 0))) (sym at) ∙ ap is_over
    (sym (here ∙ get_or_default old.spans p span (Open 0) within)) ∙ shut in
    let more : AreOver p
    (suc k) rounds = AreOver-more p k rounds old c.further.invariant below there in
    let next : suc k ≡ k + 1 = omega arith in
    subst (λ (m : ℕ). AreOver p m rounds) next more
