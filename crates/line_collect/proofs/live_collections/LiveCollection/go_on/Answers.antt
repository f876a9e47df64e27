-- What is kept goes back.
use Rattle.std.proofs.Common.{◌≡◌, ap, ◌∙◌, subst, sym}
use Rattle.line_collect.specs.Brought.{HasWholeNumbers}
use Rattle.line_collect.specs.Collections.{CollectionView, gone_back}
use Rattle.line_collect.specs.Lives.{LiveCollectionView, keeping}
use Rattle.line_collect.proofs.ToldLemmas.{restart_told}
use Rattle.line_tape.specs.Line.{IsConsistent, IsLine}
use Rattle.line_tape.specs.Restart.{HaveFurther}
use Rattle.line_tape.specs.Transit.{in_transit}
use Rattle.line_collect.proofs.live_collections.LiveCollection.go_on.Goals as goal

pub go_on-requires-clause-line : goal.go_on-requires-clause-line
go_on-requires-clause-line c = subst (λ (l : LiveCollectionView). IsLine l.kept.history
    c.args.line.now) (sym c.self.view_is) c.requires.line

pub go_on-requires-clause-consistent : goal.go_on-requires-clause-consistent
go_on-requires-clause-consistent c = subst (λ (l : LiveCollectionView). IsConsistent l.kept.history
    c.args.line.now) (sym c.self.view_is) c.requires.consistent

pub go_on-requires-clause-further : goal.go_on-requires-clause-further
go_on-requires-clause-further c = subst (λ (l : LiveCollectionView). HaveFurther l.kept.history
    c.args.line.now) (sym c.self.view_is) c.requires.further

pub go_on-requires-clause-replays : goal.go_on-requires-clause-replays
go_on-requires-clause-replays c = subst (λ (l : LiveCollectionView). c.args.replays.items
    ≡ in_transit l.kept.history c.args.line.now) (sym c.self.view_is) c.requires.replays

pub invariant_of-self : goal.invariant_of-self
invariant_of-self c =
    let live : LiveCollectionView = record
    { floor = c.self.inside.floor; kept = c.self.inside.kept } in
    let there : IsLine live.kept.history c.args.line.now = subst (λ (l : LiveCollectionView). IsLine
    l.kept.history c.args.line.now) (sym c.self.view_is) c.requires.line in
    subst (λ (k : CollectionView). HasWholeNumbers
    (record { floor = c.self.inside.floor; kept = k })) (sym c.go_on.ensures)
    (restart_told live c.self.invariant c.args.line.now there.length_is)
