-- Once all parts are laid it is told where they begin.
use Rattle.std.proofs.Common.{arith}
use Rattle.line_catalogue.proofs.LayLemmas.{told-of}
use Rattle.line_catalogue.proofs.laid.lay.Goals as goal

pub returns-after-loop-k-clause-last : goal.returns-after-loop-k-clause-last
returns-after-loop-k-clause-last c =
    rw (c.extend_from_slice.ensures.items, c.unwrap.ensures, c.loop-k.invariant.ends)
    (told-of c.loop-k.lanes.items c.loop-k.starts c.args.present.now
    (omega (arith, c.loop-k.invariant.count, c.loop-k.invariant.few_parts))
    c.loop-k.invariant.held (λ j h. c.loop-k.invariant.laid j
    (omega (arith, h, c.loop-k-test.false, c.loop-k.invariant.ends))))
