-- The rounds are the same after each level.
use Rattle.std.proofs.Common.{sym, ap, ◌∙◌, subst}
use Rattle.std.specs.Prelude.{All}
use Rattle.line_moves.specs.Listed.{IsSnapshotOf}
use Rattle.line_moves.specs.Listings.{ListingView}
use Rattle.line_moves.proofs.listings.Listing.settle.Goals as goal

pub settle_at-requires-clause-rounds : goal.settle_at-requires-clause-rounds
settle_at-requires-clause-rounds c =
    subst (All (IsSnapshotOf c.args.history.now.processes))
    (sym (ap (λ (l : ListingView). l.items) c.self.view_is)) c.requires

pub settle_at-requires-2-clause-rounds : goal.settle_at-requires-2-clause-rounds
settle_at-requires-2-clause-rounds c =
    subst (All (IsSnapshotOf c.args.history.now.processes))
    (sym (c.settle_at.ensures ∙ ap (λ (l : ListingView). l.items) c.self.view_is)) c.requires

pub settle_at-requires-3-clause-rounds : goal.settle_at-requires-3-clause-rounds
settle_at-requires-3-clause-rounds c =
    subst (All (IsSnapshotOf c.args.history.now.processes))
    (sym (c.settle_at-2.ensures ∙ c.settle_at.ensures ∙ ap
    (λ (l : ListingView). l.items) c.self.view_is))
    c.requires

pub settle_at-requires-4-clause-rounds : goal.settle_at-requires-4-clause-rounds
settle_at-requires-4-clause-rounds c =
    subst (All (IsSnapshotOf c.args.history.now.processes))
    (sym (c.settle_at-3.ensures ∙ c.settle_at-2.ensures ∙ c.settle_at.ensures
    ∙ ap (λ (l : ListingView). l.items) c.self.view_is)) c.requires
