use Rattle.std.proofs.Common.{◌∙◌, ◌≡◌, length, ap, subst, sym}
use Rattle.line_tape.specs.History.{incarnation_at}
use Rattle.line_posts.specs.Collected.{CollectorView}
use Rattle.line_posts.specs.declared.refusals.GatherWhy.{GatherWhy}
use Rattle.line_posts.specs.declared.refusals.GatherWhy.TheVariants.{OutOfMemory}
use Rattle.line_posts.proofs.WholeLemmas.{incarnation_start, whole_kept}
use Rattle.line_workers.proofs.runs.run.Goals as goal

pub gather_all-requires-clause-generation : goal.gather_all-requires-clause-generation
gather_all-requires-clause-generation g c =
    c.in_ok-collector-2.ensures.generation c.in_ok-collector.ensures.generation.0

pub gather_all-requires-clause-lines : goal.gather_all-requires-clause-lines
gather_all-requires-clause-lines g c =
    c.in_ok-collector-2.ensures.lines c.in_ok-collector.ensures.generation.1

pub returns-in-Ok-clause-incarnations : goal.returns-in-Ok-clause-incarnations
returns-in-Ok-clause-incarnations g c = λ q. c.in-Ok.ensures.onward.incarnations q
    ∙ (c.in_ok-collector-2.ensures.collector.incarnations q ∙
    (ap (λ (x : CollectorView). incarnation_at x.processes q)
    c.in_ok-collector.ensures.collector ∙ incarnation_start c.args.n q))

pub returns-in-Ok-clause-marks : goal.returns-in-Ok-clause-marks
returns-in-Ok-clause-marks g c = c.in-Ok.ensures.marks ∙
    (c.in_ok-collector-2.ensures.collector.marks ∙ ap
    (λ (x : CollectorView). x.marks) c.in_ok-collector.ensures.collector)

pub returns-in-Ok-clause-slots : goal.returns-in-Ok-clause-slots
returns-in-Ok-clause-slots g c = c.in-Ok.ensures.slots ∙
    (c.in_ok-collector-2.ensures.collector.capacity ∙ ap
    (λ (x : CollectorView). x.capacity) c.in_ok-collector.ensures.collector)

pub returns-in-Err-clause-gathering : goal.returns-in-Err-clause-gathering
returns-in-Err-clause-gathering g c =
    let first = c.in_ok-collector.collector in
    let last = c.in_ok-collector-2.collector in
    let opened = c.in_ok-collector.ensures.opened in
    let opening = ap (λ (x : CollectorView). x.opening) c.in_ok-collector.ensures.collector in
    let whole = whole_kept first last c.in_ok-collector.posts.items c.in_ok-collector-2.posts.items
    c.in_ok-collector-2.ensures.collector.opening c.in_ok-collector-2.ensures.workers
    (opened.count ∙ ap length (sym opening), opened.order) in
    λ why same. subst (λ (w : GatherWhy). w ≡ OutOfMemory) (cc same) (c.in-Err.ensures.why whole)
