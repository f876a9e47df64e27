use Rattle.std.proofs.Common.{◌<◌, arith}
use Rattle.line_claims.proofs.ReadingLemmas.{event_fault, event_taken}
use Rattle.line_claims.proofs.histories.take_event.Goals as goal

pub returns-in-Ok-event_at-clause-exact : goal.returns-in-Ok-event_at-clause-exact
returns-in-Ok-event_at-clause-exact c = λ rest.
    let some : 0 < c.args.tapes = omega arith in
    event_taken _ _ _ _ _ _ _ some c.in-Some.ensures.0
    (rw c.in-Ok.ensures.1 at c.in-Ok-event_at.ensures.exact)

pub returns-in-Err-clause-err : goal.returns-in-Err-clause-err
returns-in-Err-clause-err c = λ rest.
    let some : 0 < c.args.tapes = omega arith in
    rw c.error_at.ensures (event_fault _ _ _ _ _ _ _ some c.in-Some.ensures.0
    (rw c.in-Ok.ensures.1 at c.in-Err.ensures.exact))
