use Rattle.std.proofs.Common.{◌≡◌, ◌<◌, ◌≤◌, List, length, take, arith}
use Rattle.std.proofs.lemmas.List.{get_or_default, take_all}
use Rattle.line_devices.proofs.OutputLemmas.{out_all, out_front, out_more, out_none}
use Rattle.line_tape.specs.History.{Process, process_at}
use Rattle.line_claims.specs.Ranges.{FitsProcess}
use Rattle.line_claims.proofs.MemoryLemmas.{front_fits, history_in_range}
use Rattle.line_claims.proofs.PartLemmas.{next_tape, no_tape}
use Rattle.line_claims.proofs.writers.put_tapes.Goals as goal

pub loop-p-init : goal.loop-p-init
loop-p-init g c = record { part = out_none _ _ _ _; fits = tt }

pub loop-p-preserved : goal.loop-p-preserved
loop-p-preserved g c =
    let history : List Process = c.args.history.now.processes in
    let lt : c.loop-p.p < length history = omega arith in
    let next = next_tape history c.loop-p.p lt in
    record {
      part = out_more _ _ next c.loop-p.invariant.part
          (rw c.in-Ok.ensures.1 at c.in_ok-put_tape_of.ensures.put);
      fits = front_fits FitsProcess history c.loop-p.p (process_at history c.loop-p.p) lt
          (get_or_default history c.loop-p.p _ _ lt) c.loop-p.invariant.fits
          (rw c.in-Ok.ensures.1 at c.in_ok-put_tape_of.ensures.fits);
    }

pub returns-in_err-put_tape_of-clause-put : goal.returns-in_err-put_tape_of-clause-put
returns-in_err-put_tape_of-clause-put g c =
    let history : List Process = c.args.history.now.processes in
    let lt : c.loop-p.p < length history = omega arith in
    let next = next_tape history c.loop-p.p lt in
    out_front _ _ _ _ _ next c.loop-p.invariant.part
    (rw c.in-Ok.ensures.1 at c.in_err-put_tape_of.ensures.put) c.from_residual.ensures.1

pub returns-clause-put : goal.returns-clause-put
returns-clause-put g c =
    let history : List Process = c.args.history.now.processes in
    let le : length history ≤ c.loop-p.p = omega arith in
    out_all tt (no_tape history c.loop-p.p le) c.loop-p.invariant.part

pub returns-clause-fits : goal.returns-clause-fits
returns-clause-fits g c =
    let history : List Process = c.args.history.now.processes in
    let whole : take c.loop-p.p history ≡ history = take_all c.loop-p.p history (omega arith) in
    let few = c.n-n.ensures.limits.few in
    record { few = omega (arith, few); processes = rw whole at c.loop-p.invariant.fits }

pub returns-clause-range : goal.returns-clause-range
returns-clause-range g c rounds =
    let history : List Process = c.args.history.now.processes in
    let whole : take c.loop-p.p history ≡ history = take_all c.loop-p.p history (omega arith) in
    let few = c.n-n.ensures.limits.few in
    history_in_range history c.n-n.ensures.limits (record
    { few = omega (arith, few); processes = rw whole at c.loop-p.invariant.fits }) rounds
