-- The tape has room for one check more.
use Rattle.std.proofs.Common.{◌≡◌, ◌<◌, ◌≤◌, List, length, ap, ◌∙◌, subst, sym, arith}
use Rattle.line_collect.specs.declared.reports.Report.TheVariants as reports
use Rattle.line_collect.specs.Collections.{CollectionView}
use Rattle.line_collect.specs.Lives.{LiveCollectionView}
use Rattle.line_collect.proofs.CallLemmas.{check_few}
use Rattle.line_collect.proofs.ToldLemmas.{takes_told}
use Rattle.line_tape.specs.declared.limits.TheConstants.{MOST_EVENTS}
use Rattle.line_tape.specs.Event.{checks}
use Rattle.line_tape.specs.History.{Process, tape_at}
use Rattle.line_collect.proofs.live_collections.LiveCollection.check.Goals as goal

pub whole_check-check-requires : goal.whole_check-check-requires
whole_check-check-requires c =
    let kept : CollectionView = c.self.inside.kept in
    let by = c.args.by in
    let few : length (tape_at kept.history by) ≤ MOST_EVENTS = subst (λ (h : List Process). length
    (tape_at h by) ≤ MOST_EVENTS) c.history.ensures.value c.tape.ensures.limits.tape.few in
    let value : c.checks-check.result
    ≡ checks (tape_at kept.history by) = c.checks-check.ensures.value ∙ ap checks
    c.tape.ensures.events ∙ ap
    (λ (h : List Process). checks (tape_at h by)) c.history.ensures.value in
    omega (
      arith,
      value,
      check_few kept by c.args.incarnation c.args.state.now c.args.round few
          c.in-Ok.ensures.0,
      (c.self.invariant.numbers by).0,
    )

pub invariant_of-self : goal.invariant_of-self
invariant_of-self c =
    let live : LiveCollectionView = record
    { floor = c.self.inside.floor; kept = c.self.inside.kept } in
    let by : c.args.by < length live.kept.history = subst (λ (l : LiveCollectionView). c.args.by <
    length l.kept.history) (sym c.self.view_is) c.requires in
    takes_told live c.self.invariant (reports.Check c.args.by c.args.incarnation c.args.state.now
    c.args.round) c.check.result c.check.new.self by c.check.ensures
