use Rattle.std.proofs.Common.{◌<◌, ◌+◌, ◌∙◌, ◌++◌, ◌∷◌, [], sym, ap, subst}
use Rattle.line_posts.specs.Ends.{End, producer_end}
use Rattle.line_posts.proofs.EndLemmas.{seen_more, producer_more, free_there, free_set, free_other}
use Rattle.line_posts.proofs.rooms.push_known.Goals as goal

pub push_reserved-requires : goal.push_reserved-requires
push_reserved-requires g c = (
  subst (λ v. 0 < v) (free_there c.args.outs.now.items c.args.q
      c.index_mut-end.result.now c.requires.within c.index_mut-end.ensures.value) c.requires.room,
  tt,
)

pub returns-clause-ends : goal.returns-clause-ends
returns-clause-ends g c =
    seen_more producer_end c.args.outs.now.items c.args.q c.push_reserved.new.self
    c.index_mut-end.result.now c.args.item c.requires.within
    (producer_more c.index_mut-end.result.now c.push_reserved.new.self c.args.item
    c.push_reserved.ensures.ring c.push_reserved.ensures.sent.0 ∙ ap (λ (e : End _). record e
    { items = e.items ++ c.args.item ∷ [] }) (ap producer_end c.index_mut-end.ensures.value))

pub returns-clause-others : goal.returns-clause-others
returns-clause-others g c =
    λ k ne. free_other c.args.outs.now.items c.args.q k c.push_reserved.new.self ne

pub returns-clause-free : goal.returns-clause-free
returns-clause-free g c =
    free_there c.args.outs.now.items c.args.q c.index_mut-end.result.now c.requires.within
    c.index_mut-end.ensures.value
    ∙ (c.push_reserved.ensures.sent.1 ∙ ap (λ v. v + 1)
    (sym (free_set c.args.outs.now.items c.args.q c.push_reserved.new.self c.requires.within)))
