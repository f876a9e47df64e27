use Rattle.std.proofs.Common.{◌∙◌, ap}
use Rattle.line_posts.specs.Collected.{CollectorView}
use Rattle.line_posts.specs.Ends.{in_ends}
use Rattle.line_posts.specs.Forgotten.{history_kept, taken_history}
use Rattle.line_posts.proofs.ForgetLemmas.{kept_is}
use Rattle.line_posts.proofs.collectors.Collector.history.Goals as goal

pub returns-clause-value : goal.returns-clause-value
returns-clause-value c =
    let I = c.self.inside in
    let H = taken_history I.opening.value.processes (in_ends I.lines.items) in
    c.history.ensures.processes ∙ kept_is I.forgotten H I.catalogue.processes I.catalogue.marks
    c.self.invariant.1 ∙ ap
    (λ (v : CollectorView). history_kept v.floor v.processes) c.self.view_is
