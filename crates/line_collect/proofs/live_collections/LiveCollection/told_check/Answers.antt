-- A check that there is has a low index.
use Rattle.std.proofs.Common.{subst, sym, arith}
use Rattle.line_collect.specs.Lives.{LiveCollectionView}
use Rattle.line_collect.proofs.ToldPlans.{check_told}
use Rattle.line_names.specs.declared.choices.Choice.TheVariants.{Check as AtCheck}
use Rattle.line_tape.specs.Front.{HasChoice}
use Rattle.line_tape.specs.History.{IsHistory, tape_at}
use Rattle.line_collect.proofs.live_collections.LiveCollection.told_check.Goals as goal

pub whole_check-requires : goal.whole_check-requires
whole_check-requires c =
    let live : LiveCollectionView = record
    { floor = c.self.inside.floor; kept = c.self.inside.kept } in
    let limits : IsHistory live.kept.history = subst IsHistory c.history.ensures.value
    c.n-n.ensures.limits in
    let there : HasChoice (tape_at live.kept.history c.args.p) (AtCheck c.args.check) = subst
    (λ (l : LiveCollectionView). HasChoice (tape_at l.kept.history c.args.p)
    (AtCheck c.args.check)) (sym c.self.view_is) c.requires in
    omega (
      arith,
      check_told live.kept.history limits c.args.p c.args.check there,
      (c.self.invariant.numbers c.args.p).0,
    )
