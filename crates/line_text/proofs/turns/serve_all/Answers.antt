use Rattle.std.proofs.Common.{◌≡◌}
use Rattle.std.specs.Prelude.{Err}
use Rattle.std.proofs.lemmas.Result.{err_from_is_err_and}
use Rattle.line_text.specs.declared.faults.ServeError.TheVariants as errors
use Rattle.line_text.proofs.TurnLemmas.{answers_whole, breaks_at_end, breaks_before}
use Rattle.line_text.proofs.TurnLemmas.{heard_out}
use Rattle.line_text.proofs.turns.serve_all.Goals as goal

pub returns-in_err-serve_lines-clause-read : goal.returns-in_err-serve_lines-clause-read
returns-in_err-serve_lines-clause-read g c is =
    let passed_on = err_from_is_err_and c.from_residual.result c.from_residual.ensures.1 in
    let was : c.serve_lines.result
    ≡ Err c.in_err-serve_lines.field-0.0 = c.in_err-serve_lines.was in
    let same : c.serve_lines.result ≡ Err errors.Read = cc in
    c.serve_lines.ensures.read same

pub returns-in_err-serve_lines-clause-cause : goal.returns-in_err-serve_lines-clause-cause
returns-in_err-serve_lines-clause-cause g c is =
    let passed_on = err_from_is_err_and c.from_residual.result c.from_residual.ensures.1 in
    let was : c.serve_lines.result
    ≡ Err c.in_err-serve_lines.field-0.0 = c.in_err-serve_lines.was in
    let same : c.serve_lines.result ≡ Err errors.Read = cc in
    c.serve_lines.ensures.cause same

pub returns-in_err-serve_lines-clause-write : goal.returns-in_err-serve_lines-clause-write
returns-in_err-serve_lines-clause-write g c is =
    let passed_on = err_from_is_err_and c.from_residual.result c.from_residual.ensures.1 in
    let was : c.serve_lines.result
    ≡ Err c.in_err-serve_lines.field-0.0 = c.in_err-serve_lines.was in
    let same : c.serve_lines.result ≡ Err errors.Write = cc in
    breaks_before _ _ _ _ _ _ _ _ (c.serve_lines.ensures.write same)

pub returns-in-Ok-clause-done : goal.returns-in-Ok-clause-done
returns-in-Ok-clause-done g c =
    let lines = c.in_ok-serve_lines.ensures.ok in (
      lines.text,
      lines.gives,
      answers_whole _ _ _ _ _ _ _ _ _ lines.answered c.in-Ok.ensures.ok
          c.outcome.ensures,
    )

pub returns-in-Ok-clause-state : goal.returns-in-Ok-clause-state
returns-in-Ok-clause-state g c =
    heard_out _ _ _ _ _ _ _ _ _ _ _ c.in_ok-serve_lines.ensures.ok c.in-Ok.ensures.ok

pub returns-in-Err-clause-write : goal.returns-in-Err-clause-write
returns-in-Err-clause-write g c is =
    breaks_at_end _ _ _ _ _ _ _ _ _ _ c.in_ok-serve_lines.ensures.ok c.in-Err.ensures.err
