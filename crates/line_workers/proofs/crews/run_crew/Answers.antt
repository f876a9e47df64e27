use Rattle.line_posts.proofs.SameLemmas.{generation_kept, lined_last}
use Rattle.line_workers.proofs.crews.run_crew.Goals as goal

pub returns-clause-generation : goal.returns-clause-generation
returns-clause-generation g c = λ is. generation_kept c.args.posts.items c.in_ok-back.back.1.items
    c.in_ok-back.ensures.workers is

pub returns-clause-lines : goal.returns-clause-lines
returns-clause-lines g c = λ lined. lined_last c.args.collector c.in_ok-back.back.0
    c.args.posts.items c.in_ok-back.back.1.items c.in_ok-back.ensures.collector
    c.in_ok-back.ensures.workers lined
