use Rattle.line_collect.specs.declared.reports.Report.TheVariants as reports
use Rattle.line_collect.specs.Lives.{LiveCollectionView}
use Rattle.line_collect.proofs.ToldLemmas.{takes_told}
use Rattle.line_collect.proofs.live_collections.LiveCollection.damage.Goals as goal

pub invariant_of-self : goal.invariant_of-self
invariant_of-self c =
    let live : LiveCollectionView = record
    { floor = c.self.inside.floor; kept = c.self.inside.kept } in
    takes_told live c.self.invariant (reports.Damage c.args.by c.kept_check.result) c.damage.result
    c.damage.new.self tt c.damage.ensures
