-- What the marker does follows from where its round stands.
use Rattle.std.proofs.Common.{◌≡◌, [], get_or, Option, true, false, sym, ap, ◌∙◌, subst, refl}
use Rattle.std.specs.Prelude.{IsTrue, MatchOption, nat_lt}
use Rattle.std.proofs.lemmas.Bool.{both_ways}
use Rattle.line_rounds.specs.Recording.{RecordedRound, channel_at, effect_by, latest}
use Rattle.line_rounds.proofs.RoundLemmas.{round_of-number}
use Rattle.line_rounds.proofs.markers.Marker.on_marker.Goals as goal

abbrev no_round : RecordedRound
no_round = record { number = 0; channels = [] }

pub returns-then-has_marker-clause-repeated : goal.returns-then-has_marker-clause-repeated
returns-then-has_marker-clause-repeated c =
    let Repeated : Option RecordedRound → Type 0 = λ o. MatchOption o ⊥
    (λ (round : RecordedRound). IsTrue (channel_at round c.args.from).is_closed) in
    let shut : (channel_at
    (get_or c.args.self.now.rounds c.in-Some.i no_round) c.args.from).is_closed
    ≡ true = sym (c.has_marker.ensures no_round) ∙ c.if-has_marker.true in
    (λ h. subst Repeated (sym (c.in-Some.ensures.1 no_round)) shut, λ h. refl)

pub returns-else-has_marker-clause-ok : goal.returns-else-has_marker-clause-ok
returns-else-has_marker-clause-ok c =
    ap (λ (o : Option RecordedRound). effect_by o (nat_lt (latest c.args.self.now.floor
    c.args.self.now.rounds) c.args.round)) (sym (c.in-Some.ensures.1 no_round))

pub returns-else-has_marker-clause-rounds : goal.returns-else-has_marker-clause-rounds
returns-else-has_marker-clause-rounds c =
    c.close.ensures.rounds c.args.round (λ d. round_of-number c.args.self.now.rounds c.args.round
    (get_or c.args.self.now.rounds c.in-Some.i d) (c.in-Some.ensures.1 d))

pub returns-else-has_marker-clause-repeated : goal.returns-else-has_marker-clause-repeated
returns-else-has_marker-clause-repeated c =
    let Repeated : Option RecordedRound → Type 0 = λ o. MatchOption o ⊥
    (λ (round : RecordedRound). IsTrue (channel_at round c.args.from).is_closed) in
    let unshut :
    (channel_at (get_or c.args.self.now.rounds c.in-Some.i no_round) c.args.from).is_closed
    ≡ false =
    sym (c.has_marker.ensures no_round) ∙ c.if-has_marker.false in (
      λ h. let no : ⊥ = cc in absurd no,
      λ h. absurd (both_ways (channel_at (get_or c.args.self.now.rounds c.in-Some.i no_round)
          c.args.from).is_closed unshut (subst Repeated (c.in-Some.ensures.1 no_round) h)),
    )
