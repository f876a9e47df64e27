use Rattle.std.proofs.Common.{length}
use Rattle.line_posts.proofs.WholeLemmas.{none_below}
use Rattle.line_workers.proofs.RunLemmas.{memory_alone}
use Rattle.line_workers.proofs.runs.gather_all.Goals as goal

pub returns-in-Err-clause-why : goal.returns-in-Err-clause-why
returns-in-Err-clause-why c = λ whole.
    memory_alone c.in-Err.refused.why
    (λ e. c.in-Err.ensures.process.0 e (none_below (length c.args.collector.opening)
    c.empty.result c.empty.ensures.none)) (λ e. (c.in-Err.ensures.unfinished.0 e).1 whole)
