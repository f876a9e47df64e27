use Rattle.std.proofs.Common.{subst, sym}
use Rattle.line_tape.specs.Line.{IsConsistent}
use Rattle.line_collect.specs.Collections.{CollectionView}
use Rattle.line_collect.proofs.collections.Collection.go_back.Goals as goal

pub restart_with-requires-clause-consistent : goal.restart_with-requires-clause-consistent
restart_with-requires-clause-consistent c = subst (λ (v : CollectionView). IsConsistent v.history
    c.args.plan.line) (sym c.self.view_is) c.requires.consistent
