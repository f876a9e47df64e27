-- What is kept stays: each round by itself, or a front of the rounds.
use Rattle.std.proofs.Common.{◌≡◌, ◌-◌, ◌<◌, ℕ, true, List, filter, get_or, rules, sym, ap, ◌∙◌}
use Rattle.std.proofs.Common.{arith}
use Rattle.std.proofs.lemmas.Fn.{filter_same}
use Rattle.std.proofs.lemmas.List.{get_or_default}
use Rattle.line_names.specs.declared.choices.Choice.{Choice}
use Rattle.line_moves.specs.Listed.{ListedRound, stays}
use Rattle.line_moves.specs.Listings.{ListingView}
use Rattle.line_moves.proofs.ListingLemmas.{staying-are}
use Rattle.line_moves.proofs.listings.Listing.keep.Goals as goal
use Rattle.line_moves.proofs.listings.Listing.keep.Goals.{then-cut-test+else-not-stays}
use Rattle.line_moves.proofs.listings.Listing.keep.Goals.{else-cut-test}

pub returns-then-not-self : goal.returns-then-not-self
returns-then-not-self c =
    filter_same _ (stays c.args.line.now) _ (λ x b f' k. search rules) _ _ c.retain.ensures.filtered
    ∙ ap (λ (l : ListingView). filter (stays c.args.line.now) l.items) c.self.view_is

pub returns : goal.returns
returns c =
    let line : List Choice = c.args.line.now in
    let rounds : List ListedRound = c.self.inside.rounds.items in
    let end : ℕ = c.cut.end in
    let climbs : c.self.inside.climbs ≡ true = search rules in
    let last : (d : ListedRound) → 0 < end
    → stays line (get_or rounds (end - 1) d) ≡ true = λ d some. elim c.cut-test.branch [
      | then-cut-test+else-not-stays w ↦
          ap (stays line)
          (sym (w.index.ensures ∙ get_or_default rounds (end - 1) w.index.result.now d (omega
          (arith, some, c.cut.invariant.0)))) ∙ sym w.stays.ensures ∙ w.if-not-stays.false
      | else-cut-test w ↦ absurd (omega (arith, some, w.cut-test.false))
    ] in
    c.truncate-2.ensures.items
    ∙ sym (staying-are line rounds end
    (c.self.invariant climbs) c.cut.invariant.0 last c.cut.invariant.1)
    ∙ ap (λ (l : ListingView). filter (stays line) l.items) c.self.view_is
