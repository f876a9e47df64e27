use Rattle.std.proofs.Common.{◌<◌, ◌≤◌, List, length, arith}
use Rattle.line_check.specs.Answers.{start_due}
use Rattle.line_devices.proofs.OutputLemmas.{out_all, out_front, out_more, out_none}
use Rattle.line_names.specs.declared.choices.Choice.{Choice}
use Rattle.line_tape.specs.History.{Process}
use Rattle.line_claims.proofs.WalkLemmas.{next_starts, no_starts}
use Rattle.line_claims.proofs.answers.put_starts.Goals as goal

pub loop-value-init : goal.loop-value-init
loop-value-init g c = out_none _ _ _ _

pub loop-value-preserved : goal.loop-value-preserved
loop-value-preserved g c =
    let history : List Process = c.args.history.now.processes in
    let line : List Choice = c.args.line.now in
    let lt : c.loop-value.value < length history = omega arith in
    let next = next_starts (start_due history line) (length history) c.loop-value.value lt in
    out_more _ _ next c.loop-value.invariant (rw c.in-Ok.ensures.1 at c.in_ok-put_start.ensures)

pub returns-in_err-put_start : goal.returns-in_err-put_start
returns-in_err-put_start g c =
    let history : List Process = c.args.history.now.processes in
    let line : List Choice = c.args.line.now in
    let lt : c.loop-value.value < length history = omega arith in
    let next = next_starts (start_due history line) (length history) c.loop-value.value lt in
    out_front _ _ _ _ _ next c.loop-value.invariant
    (rw c.in-Ok.ensures.1 at c.in_err-put_start.ensures) c.from_residual.ensures.1

pub returns : goal.returns
returns g c =
    let history : List Process = c.args.history.now.processes in
    let line : List Choice = c.args.line.now in
    let le : length history ≤ c.loop-value.value = omega arith in
    out_all tt (no_starts (start_due history line) (length history) c.loop-value.value le)
    c.loop-value.invariant
