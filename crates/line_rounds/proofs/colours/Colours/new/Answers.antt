-- No process has a turn.
use Rattle.std.proofs.Common.{◌≡◌, replicate, sym, ap, ◌∙◌, subst, arith}
use Rattle.line_tape.specs.History.{fresh}
use Rattle.line_rounds.specs.Kept.{no_turns, AreTurned}
use Rattle.line_rounds.proofs.TurnedLemmas.{AreTurned-fresh}
use Rattle.line_rounds.proofs.colours.Colours.new.Goals as goal

pub returns-clause-turned : goal.returns-clause-turned
returns-clause-turned c =
    let all : c.loop-p._p ≡ c.args.n = omega arith in
    subst (AreTurned (replicate c.args.n fresh))
    (sym (c.loop-p.invariant ∙ ap (λ n. replicate n no_turns) all)) (AreTurned-fresh c.args.n)
