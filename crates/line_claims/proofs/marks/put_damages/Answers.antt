use Rattle.std.proofs.Common.{◌<◌, ◌≤◌, List, length, arith}
use Rattle.line_devices.proofs.OutputLemmas.{out_all, out_front, out_more, out_none}
use Rattle.line_tape.specs.History.{Process}
use Rattle.line_claims.specs.Records.{damaged_of}
use Rattle.line_claims.proofs.PartLemmas.{next_damages, no_damages}
use Rattle.line_claims.proofs.marks.put_damages.Goals as goal

pub loop-value-init : goal.loop-value-init
loop-value-init g c = out_none _ _ _ _

pub loop-value-preserved : goal.loop-value-preserved
loop-value-preserved g c =
    let history : List Process = c.args.history.now.processes in
    let lt : c.loop-value.value < length history = omega arith in
    let next = next_damages (damaged_of history c.args.marks.now)
    (length history) c.loop-value.value lt in
    out_more _ _ next c.loop-value.invariant (rw (
      c.checks-last.ensures.value,
      c.tape.ensures.events,
      c.in-Ok.ensures.1,
    ) at c.in_ok-put_damages_of.ensures)

pub returns-in_err-put_damages_of : goal.returns-in_err-put_damages_of
returns-in_err-put_damages_of g c =
    let history : List Process = c.args.history.now.processes in
    let lt : c.loop-value.value < length history = omega arith in
    let next = next_damages (damaged_of history c.args.marks.now)
    (length history) c.loop-value.value lt in
    out_front _ _ _ _ _ next c.loop-value.invariant
    (rw (c.checks-last.ensures.value, c.tape.ensures.events, c.in-Ok.ensures.1) at
    c.in_err-put_damages_of.ensures) c.from_residual.ensures.1

pub returns : goal.returns
returns g c =
    let history : List Process = c.args.history.now.processes in
    let le : length history ≤ c.loop-value.value = omega arith in
    out_all tt (no_damages (damaged_of history c.args.marks.now)
    (length history) c.loop-value.value le) c.loop-value.invariant
