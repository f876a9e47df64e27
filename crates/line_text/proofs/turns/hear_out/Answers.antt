use Rattle.std.proofs.Common.{◌≡◌}
use Rattle.std.specs.Prelude.{Err}
use Rattle.line_text.specs.declared.faults.ServeError.TheVariants as errors
use Rattle.line_text.proofs.turns.hear_out.Goals as goal

pub returns-in-Ok-serve_all-clause-done : goal.returns-in-Ok-serve_all-clause-done
returns-in-Ok-serve_all-clause-done g c =
    rw c.into_answerer.ensures (rw c.in-Ok-new.ensures at c.in-Ok-serve_all.ensures.state)

pub returns-clause-cause : goal.returns-clause-cause
returns-clause-cause g c is =
    let was : c.serve_all.result ≡ Err c.in-Err.error = c.in-Err.is in
    let same : c.serve_all.result ≡ Err errors.Read = cc in
    c.serve_all.ensures.cause same
