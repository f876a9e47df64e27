use Rattle.std.proofs.Common.{◌∙◌, length, ap}
use Rattle.line_posts.specs.Collected.{CollectorView}
use Rattle.line_posts.specs.Ends.{in_ends}
use Rattle.line_posts.specs.Forgotten.{taken_history}
use Rattle.line_posts.proofs.ForgetLemmas.{kept_long}
use Rattle.line_posts.proofs.collectors.Collector.n.Goals as goal

pub returns-clause-value : goal.returns-clause-value
returns-clause-value c =
    let I = c.self.inside in
    let H = taken_history I.opening.value.processes (in_ends I.lines.items) in
    c.n.ensures.value ∙ kept_long I.forgotten H I.catalogue.processes I.catalogue.marks
    c.self.invariant.1 ∙ c.self.invariant.0.count ∙ ap
    (λ (v : CollectorView). length v.opening) c.self.view_is
