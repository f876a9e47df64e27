use Rattle.std.proofs.Common.{sym, ap, ◌∙◌, subst}
use Rattle.std.specs.Prelude.{All}
use Rattle.line_moves.specs.Listed.{IsSnapshotOf}
use Rattle.line_moves.specs.Listings.{ListingView}
use Rattle.line_moves.proofs.listings.Listing.settle_at.Goals as goal

pub lean_in_block-requires : goal.lean_in_block-requires
lean_in_block-requires c =
    subst (All (IsSnapshotOf c.args.history.now.processes))
    (sym (c.deref_mut.ensures.value ∙ ap (λ (l : ListingView). l.items) c.self.view_is))
    c.requires.rounds
