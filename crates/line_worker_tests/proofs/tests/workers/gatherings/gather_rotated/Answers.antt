use Rattle.std.proofs.Common.{List, subst, sym}
use Rattle.std.proofs.lemmas.Result.{IfErr-weaker}
use Rattle.line_posts.specs.Collected.{CollectorView}
use Rattle.line_posts.specs.Generations.{AreLined}
use Rattle.line_posts.specs.Posts.{PostView}
use Rattle.line_worker_tests.proofs.RotateLemmas.{rotated_generation, rotated_lined, rotated_some}
use Rattle.line_worker_tests.proofs.tests.workers.gatherings.gather_rotated.Goals as goal

pub gather-requires-clause-generation : goal.gather-requires-clause-generation
gather-requires-clause-generation c = rotated_generation c.args.posts.items c.rotate.new.posts.items
    c.rotate.ensures.0 c.rotate.ensures.1 c.rotate.ensures.2 c.rotate.ensures.3
    c.requires.generation

pub gather-requires-clause-lines : goal.gather-requires-clause-lines
gather-requires-clause-lines c = rotated_lined c.args.collector c.args.posts.items
    c.rotate.new.posts.items c.rotate.ensures.0 c.rotate.ensures.1 c.rotate.ensures.2
    c.rotate.ensures.3 c.requires.lines

pub returns-clause-some : goal.returns-clause-some
returns-clause-some c = IfErr-weaker c.gather.result _ _
    (λ e back. rw back.1 (rotated_some _ _ _ c.rotate.ensures.3)) c.gather.ensures.back

pub returns-clause-generation : goal.returns-clause-generation
returns-clause-generation c = IfErr-weaker c.gather.result _ _
    (λ e back. rw back.1
    (rotated_generation c.args.posts.items c.rotate.new.posts.items c.rotate.ensures.0
    c.rotate.ensures.1 c.rotate.ensures.2 c.rotate.ensures.3 c.requires.generation))
    c.gather.ensures.back

pub returns-clause-lines : goal.returns-clause-lines
returns-clause-lines c =
    let lined = rotated_lined c.args.collector c.args.posts.items c.rotate.new.posts.items
    c.rotate.ensures.0 c.rotate.ensures.1 c.rotate.ensures.2 c.rotate.ensures.3 c.requires.lines
    in
    IfErr-weaker c.gather.result _ _
    (λ e back. subst (λ (ps : List PostView). AreLined e.collector ps) (sym back.1)
    (subst (λ (v : CollectorView). AreLined v c.rotate.new.posts.items) (sym back.0.0) lined))
    c.gather.ensures.back
