use Rattle.std.proofs.Common.{◌∙◌, List, length, sym, ap, subst}
use Rattle.std.proofs.lemmas.List.{length-map}
use Rattle.line_tape.specs.Fit.{IsFitFifo}
use Rattle.line_tape.specs.History.{Process}
use Rattle.line_tape.specs.Line.{IsConsistent}
use Rattle.line_tape.specs.Restart.{restarted_history}
use Rattle.line_posts.specs.Ends.{consumer_end, in_ends, End}
use Rattle.line_tape.specs.declared.events.Event.{Event}
use Rattle.line_posts.specs.Collected.{CollectorView}
use Rattle.line_posts.specs.Gathered.{GatheredView}
use Rattle.line_posts.specs.Openings.{AreOpened}
use Rattle.line_posts.specs.Preparations.{IsPrepared}
use Rattle.line_posts.proofs.FleetLemmas.{opened_same}
use Rattle.line_posts.proofs.gathering.Gathered.open_next.Goals as goal

pub go_on-requires-clause-consistent : goal.go_on-requires-clause-consistent
go_on-requires-clause-consistent c = subst (λ (g : GatheredView). IsConsistent g.processes
    c.args.line.now) (sym c.self.view_is) c.requires.latest.recoverable.consistent

pub open_all-opened-requires-clause-fit : goal.open_all-opened-requires-clause-fit
open_all-opened-requires-clause-fit c =
    let is = c.history.ensures.processes ∙ (c.go_on.ensures.processes ∙ ap
    (λ (g : GatheredView). restarted_history g.processes c.args.line.now) c.self.view_is) in
    subst IsFitFifo (sym is) c.requires.fit

pub open_all-opened-requires-clause-prepared : goal.open_all-opened-requires-clause-prepared
open_all-opened-requires-clause-prepared c =
    let is = c.history.ensures.processes ∙ (c.go_on.ensures.processes ∙ ap
    (λ (g : GatheredView). restarted_history g.processes c.args.line.now) c.self.view_is) in (
      c.args.self.floor,
      c.args.self.capacity,
      subst (λ (h : List Process). IsPrepared h
          c.args.self.floor c.args.self.capacity c.args.prepared) (sym is) c.requires.prepared,
    )

pub open_collector-collector-requires-clause-count :
    goal.open_collector-collector-requires-clause-count
open_collector-collector-requires-clause-count c =
    let is = c.history.ensures.processes ∙ (c.go_on.ensures.processes ∙ ap
    (λ (g : GatheredView). restarted_history g.processes c.args.line.now) c.self.view_is) in
    let opened = c.open_all-opened.ensures c.args.self.floor c.args.self.capacity
    (subst (λ (h : List Process). IsPrepared h c.args.self.floor c.args.self.capacity
    c.args.prepared) (sym is) c.requires.prepared) in
    sym (length-map c.open_all-opened.result.lines.items consumer_end) ∙
    (opened.line_count ∙ ap (λ (h : List Process). length h) c.history.ensures.processes)

pub open_collector-collector-requires-clause-fresh :
    goal.open_collector-collector-requires-clause-fresh
open_collector-collector-requires-clause-fresh c =
    let is = c.history.ensures.processes ∙ (c.go_on.ensures.processes ∙ ap
    (λ (g : GatheredView). restarted_history g.processes c.args.line.now) c.self.view_is) in
    (c.open_all-opened.ensures c.args.self.floor c.args.self.capacity
    (subst (λ (h : List Process). IsPrepared h c.args.self.floor c.args.self.capacity
    c.args.prepared) (sym is) c.requires.prepared)).fresh

pub returns-clause-posts : goal.returns-clause-posts
returns-clause-posts c =
    let is = c.history.ensures.processes ∙ (c.go_on.ensures.processes ∙ ap
    (λ (g : GatheredView). restarted_history g.processes c.args.line.now) c.self.view_is) in
    let opened = c.open_all-opened.ensures c.args.self.floor c.args.self.capacity
    (subst (λ (h : List Process). IsPrepared h c.args.self.floor c.args.self.capacity
    c.args.prepared) (sym is) c.requires.prepared) in
    let same = opened_same _ _ c.args.self.floor c.open_all-opened.result.posts.items
    (in_ends c.open_all-opened.result.lines.items) is opened in
    subst (λ (lines : List (End Event)). AreOpened
    (restarted_history c.args.self.processes c.args.line.now) c.args.self.floor
    c.args.self.capacity c.open_all-opened.result.posts.items lines)
    (sym (ap (λ (v : CollectorView). v.lines) c.open_collector-collector.ensures)) same
