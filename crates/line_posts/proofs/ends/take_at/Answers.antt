use Rattle.std.proofs.Common.{◌<◌, ◌++◌, ◌∷◌, [], ◌∙◌, length, sym, ap, subst}
use Rattle.line_posts.specs.Ends.{consumer_end, End}
use Rattle.line_posts.proofs.EndLemmas.{seen_more, consumer_more, known_there, known_set}
use Rattle.line_posts.proofs.EndLemmas.{known_other}
use Rattle.line_posts.proofs.ends.take_at.Goals as goal

pub pop_known-requires : goal.pop_known-requires
pop_known-requires g c = subst (λ t. 0 < length t) (known_there c.args.ins.now.items c.args.p
    c.index_mut-end.result.now c.requires.within c.index_mut-end.ensures.value) c.requires.known

pub returns-clause-ends : goal.returns-clause-ends
returns-clause-ends g c =
    seen_more consumer_end c.args.ins.now.items c.args.p c.pop_known.new.self
    c.index_mut-end.result.now c.pop_known.result c.requires.within
    (consumer_more c.index_mut-end.result.now c.pop_known.new.self c.pop_known.result
    c.pop_known.ensures.ring c.pop_known.ensures.received.0 ∙ ap
    (λ (e : End _). record e { items = e.items ++ c.pop_known.result ∷ [] })
    (ap consumer_end c.index_mut-end.ensures.value))

pub returns-clause-first : goal.returns-clause-first
returns-clause-first g c =
    known_there c.args.ins.now.items c.args.p c.index_mut-end.result.now c.requires.within
    c.index_mut-end.ensures.value
    ∙ (c.pop_known.ensures.received.1 ∙ ap (λ t. c.pop_known.result ∷ t)
    (sym (known_set c.args.ins.now.items c.args.p c.pop_known.new.self c.requires.within)))

pub returns-clause-others : goal.returns-clause-others
returns-clause-others g c =
    λ k ne. known_other c.args.ins.now.items c.args.p k c.pop_known.new.self ne
