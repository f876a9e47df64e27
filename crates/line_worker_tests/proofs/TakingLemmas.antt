-- A collector that took reports, or let something go, has the lines that it had.
use Rattle.std.proofs.Common.{◌≡◌, ◌∙◌, List, refl, sym, subst}
use Rattle.std.specs.Prelude.{Result, Ok, Err, OnOk}
use Rattle.std.proofs.lemmas.Option.{same_Some}
use Rattle.line_posts.specs.Collected.{CollectorView, HasCollectedMore, HasForgotten}
use Rattle.line_posts.specs.Generations.{AreLined, AreSamePosts, IsSamePost}
use Rattle.line_posts.specs.Posts.{PostView}
use Rattle.line_posts.proofs.SameLemmas.{lined_forgotten, lined_last, same_self}

same_posts_self : (posts : List PostView) → AreSamePosts posts posts
same_posts_self posts = record {
  count = refl;
  each = λ i a b ha hb. subst (IsSamePost a) (same_Some a b (sym ha ∙ hb)) (same_self a);
}

pub lined_taken : (old new : CollectorView) → HasCollectedMore old new → (posts : List PostView)
    → AreLined old posts → AreLined new posts
lined_taken old new more posts lined =
    lined_last old new posts posts more (same_posts_self posts) lined

pub lined_let_go : {A E : Type 0} (r : Result A E) (old new : CollectorView)
    → OnOk r (HasForgotten old new)
    → OnOk r ((posts : List PostView) → AreLined old posts → AreLined new posts)
lined_let_go (Ok x) old new done = λ posts lined. lined_forgotten old new posts done lined
lined_let_go (Err e) old new done = tt
