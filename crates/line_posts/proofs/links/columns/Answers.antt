use Rattle.std.proofs.Common.{◌∙◌, ◌++◌, ◌∷◌, [], replicate, ap}
use Rattle.std.proofs.lemmas.List.{map-append, replicate_more}
use Rattle.line_posts.specs.Ends.{in_ends, in_rows}
use Rattle.line_posts.proofs.links.columns.Goals as goal

pub loop-q-preserved : goal.loop-q-preserved
loop-q-preserved g c =
    ap in_rows c.in_ok-push.ensures.items
    ∙ (map-append (λ v. in_ends v.items) c.loop-q.ins.items (c.in_ok-column.column ∷ [])
    ∙ (ap (λ t. t ++ in_ends c.in_ok-column.column.items ∷ []) c.loop-q.invariant ∙
    (ap (λ t. replicate c.loop-q._q [] ++ in_ends t ∷ []) c.in_ok-column.ensures.items ∙
    replicate_more c.loop-q._q [])))
