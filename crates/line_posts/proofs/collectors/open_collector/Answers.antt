use Rattle.std.proofs.Common.{◌≡◌, ◌∙◌, List, length, ap, sym}
use Rattle.std.specs.Prelude.{None}
use Rattle.std.proofs.lemmas.List.{length-map}
use Rattle.line_tape.specs.History.{Process}
use Rattle.line_tape.specs.Views.{HistoryView}
use Rattle.line_posts.specs.Collected.{collector_of, CollectorView}
use Rattle.line_posts.specs.Ends.{consumer_end, in_ends, known_rows}
use Rattle.line_posts.proofs.ReportLemmas.{collects, taken_fresh}
use Rattle.line_posts.proofs.collectors.open_collector.Goals as goal

pub invariant_of-result : goal.invariant_of-result
invariant_of-result c =
    let same : c.of-opening.result.value.processes ≡ c.args.catalogue.processes = ap
    (λ (v : HistoryView). v.processes) c.of-opening.ensures ∙ c.history.ensures.processes in
    let O : List Process = c.of-opening.result.value.processes in (
      collects O None c.args.catalogue.marks (in_ends c.args.lines.items)
          (known_rows c.args.lines.items) c.args.capacity (length-map c.args.lines.items
          consumer_end ∙ c.requires.count ∙ ap (λ (h : List Process). length h) (sym same)),
      sym same ∙ sym (taken_fresh O (in_ends c.args.lines.items) c.requires.fresh),
    )

pub returns : goal.returns
returns c =
    let K = c.args.catalogue in
    let L = in_ends c.args.lines.items in
    let same : c.of-opening.result.value.processes ≡ K.processes = ap
    (λ (v : HistoryView). v.processes) c.of-opening.ensures ∙ c.history.ensures.processes in
    ap (λ (h : List Process). let v : CollectorView = record
    (collector_of c.of-opening.result.value.processes K.processes K.marks L
    (known_rows c.args.lines.items) c.args.capacity) { processes = h } in v)
    (taken_fresh c.of-opening.result.value.processes L c.requires.fresh)
    ∙ ap (λ (h : List Process). collector_of h h K.marks L
    (known_rows c.args.lines.items) c.args.capacity) same
