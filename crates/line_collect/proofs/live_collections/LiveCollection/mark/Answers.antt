use Rattle.std.proofs.Common.{◌<◌, length, subst, sym}
use Rattle.line_collect.specs.declared.reports.Report.TheVariants as reports
use Rattle.line_collect.specs.Lives.{LiveCollectionView}
use Rattle.line_collect.proofs.ToldLemmas.{takes_told}
use Rattle.line_collect.proofs.live_collections.LiveCollection.mark.Goals as goal

pub invariant_of-self : goal.invariant_of-self
invariant_of-self c =
    let live : LiveCollectionView = record
    { floor = c.self.inside.floor; kept = c.self.inside.kept } in
    let by : c.args.by < length live.kept.history = subst (λ (l : LiveCollectionView). c.args.by <
    length l.kept.history) (sym c.self.view_is) c.requires.by in
    takes_told live c.self.invariant (reports.Mark c.args.by c.args.incarnation c.args.from
    c.args.round) c.mark.result c.mark.new.self by c.mark.ensures
