-- No process has a send.
use Rattle.std.proofs.Common.{◌≡◌, Bool, List, [], replicate, sym, ap, ◌∙◌, subst, arith}
use Rattle.line_tape.specs.History.{fresh}
use Rattle.line_rounds.specs.Flags.{AreFlagged}
use Rattle.line_rounds.proofs.FlagLemmas.{AreFlagged-fresh}
use Rattle.line_rounds.proofs.received.ReceivedSends.new.Goals as goal

pub returns-clause-flagged : goal.returns-clause-flagged
returns-clause-flagged c =
    let none : List Bool = [] in
    let all : c.loop-p._p ≡ c.args.n = omega arith in
    subst (AreFlagged (replicate c.args.n fresh))
    (sym (c.loop-p.invariant ∙ ap (λ n. replicate n none) all)) (AreFlagged-fresh c.args.n)
