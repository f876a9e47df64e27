use Rattle.std.proofs.Common.{subst}
use Rattle.line_posts.specs.Gathered.{GatheredView, HasOwn}
use Rattle.line_posts.proofs.OwnLemmas.{none_lost}
use Rattle.line_posts.proofs.RoundsGathered.{rounds_hold}
use Rattle.line_posts.proofs.gathering.Gathered.history.Goals as goal

pub returns-clause-rounds : goal.returns-clause-rounds
returns-clause-rounds c =
    rounds_hold c.args.self.now.failed c.args.self.now.processes
    (subst (λ (g : GatheredView). HasOwn g.failed g.processes) c.self.view_is c.self.invariant)

pub returns-clause-prefix : goal.returns-clause-prefix
returns-clause-prefix c =
    subst (λ (g : GatheredView). HasOwn g.failed g.processes) c.self.view_is c.self.invariant

pub returns-clause-fit : goal.returns-clause-fit
returns-clause-fit c =
    none_lost c.args.self.now.failed c.args.self.now.processes
    (subst (λ (g : GatheredView). HasOwn g.failed g.processes) c.self.view_is c.self.invariant)
