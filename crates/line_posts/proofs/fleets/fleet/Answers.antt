use Rattle.std.proofs.Common.{◌∙◌, List, length, replicate, sym, ap, subst}
use Rattle.std.proofs.lemmas.List.{length-map}
use Rattle.line_tape.specs.History.{fresh, Process}
use Rattle.line_tape.specs.declared.events.Event.{Event}
use Rattle.line_posts.specs.Ends.{consumer_end, in_ends, End}
use Rattle.line_posts.specs.Collected.{CollectorView}
use Rattle.line_posts.specs.Openings.{AreOpened}
use Rattle.line_posts.specs.Preparations.{IsPrepared}
use Rattle.line_posts.proofs.FleetLemmas.{opened_lined, opened_same}
use Rattle.line_posts.proofs.fleets.fleet.Goals as goal

pub open_collector-collector-requires-clause-count :
    goal.open_collector-collector-requires-clause-count
open_collector-collector-requires-clause-count c =
    let is = c.history.ensures.processes ∙ c.in-Ok.ensures.processes in
    let opened = c.open_all-opened.ensures 0 c.args.capacity
    (subst (λ (h : List Process). IsPrepared h 0 c.args.capacity c.in_ok-prepared.prepared)
    (sym is) c.in_ok-prepared.ensures) in
    sym (length-map c.open_all-opened.result.lines.items consumer_end) ∙
    (opened.line_count ∙ ap (λ (h : List Process). length h) c.history.ensures.processes)

pub open_collector-collector-requires-clause-fresh :
    goal.open_collector-collector-requires-clause-fresh
open_collector-collector-requires-clause-fresh c =
    let is = c.history.ensures.processes ∙ c.in-Ok.ensures.processes in
    (c.open_all-opened.ensures 0 c.args.capacity (subst (λ (h : List Process). IsPrepared h 0
    c.args.capacity c.in_ok-prepared.prepared) (sym is) c.in_ok-prepared.ensures)).fresh

pub returns-clause-opened : goal.returns-clause-opened
returns-clause-opened c =
    let is = c.history.ensures.processes ∙ c.in-Ok.ensures.processes in
    let opened = c.open_all-opened.ensures 0 c.args.capacity
    (subst (λ (h : List Process). IsPrepared h 0 c.args.capacity c.in_ok-prepared.prepared)
    (sym is) c.in_ok-prepared.ensures) in
    let same = opened_same _ _ 0 c.open_all-opened.result.posts.items
    (in_ends c.open_all-opened.result.lines.items) is opened in
    subst (λ (lines : List (End Event)). AreOpened
    (replicate c.args.n fresh) 0 c.args.capacity c.open_all-opened.result.posts.items lines)
    (sym (ap (λ (v : CollectorView). v.lines) c.open_collector-collector.ensures)) same

pub returns-clause-generation : goal.returns-clause-generation
returns-clause-generation c =
    let is = c.history.ensures.processes ∙ c.in-Ok.ensures.processes in
    let opened = c.open_all-opened.ensures 0 c.args.capacity
    (subst (λ (h : List Process). IsPrepared h 0 c.args.capacity c.in_ok-prepared.prepared)
    (sym is) c.in_ok-prepared.ensures) in
    opened_lined _ _ _ _ _ _ _ _ c.open_all-opened.result.posts.items
    c.open_collector-collector.ensures
    (opened_same _ _ 0 c.open_all-opened.result.posts.items
    (in_ends c.open_all-opened.result.lines.items) c.history.ensures.processes opened)
