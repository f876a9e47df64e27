use Rattle.std.proofs.Common.{◌∙◌, ◌∷◌, sym, ap, subst}
use Rattle.line_posts.specs.Receipts.{BeginsWithMarker, BeginsWithMessage}
use Rattle.line_posts.proofs.receiving.round_first.Goals as goal

pub returns-in-Message : goal.returns-in-Message
returns-in-Message c = subst BeginsWithMessage
    (sym (c.front_at.ensures.1 ∙ ap (λ x. x ∷ c.front_at.ensures.0) c.in-Message.is)) tt

pub returns-in-Marker : goal.returns-in-Marker
returns-in-Marker c =
    subst (BeginsWithMarker c.in-Marker.round) (sym c.front_at.ensures.1) c.in-Marker.is
