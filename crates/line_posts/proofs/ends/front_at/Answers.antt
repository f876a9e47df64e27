use Rattle.std.proofs.Common.{◌<◌, ◌∙◌, length, sym, subst}
use Rattle.line_posts.proofs.EndLemmas.{known_there}
use Rattle.line_posts.proofs.ends.front_at.Goals as goal

pub peek_known-requires : goal.peek_known-requires
peek_known-requires g c = subst (λ t. 0 < length t) (known_there c.args.ins.now.items c.args.p
    c.index-end.result.now c.requires.within c.index-end.ensures) c.requires.known

pub returns : goal.returns
returns g c = (
  c.peek_known.ensures.0,
  known_there c.args.ins.now.items c.args.p
      c.index-end.result.now c.requires.within c.index-end.ensures ∙ sym c.peek_known.ensures.1,
)
