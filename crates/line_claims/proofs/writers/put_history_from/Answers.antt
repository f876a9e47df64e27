-- The first record, what was let go, and the tapes are written one after another.
use Rattle.std.proofs.Common.{List, ℕ, length, refl}
use Rattle.line_devices.proofs.OutputLemmas.{out_front, out_more, out_none}
use Rattle.line_tape.specs.History.{Process}
use Rattle.line_claims.specs.Records.{floors_at}
use Rattle.line_claims.proofs.WriteLemmas.{floors_next, head_next, out_last}
use Rattle.line_claims.proofs.writers.put_history_from.Goals as goal

pub returns-in_err-put_numbers-clause-put : goal.returns-in_err-put_numbers-clause-put
returns-in_err-put_numbers-clause-put g c =
    let history : List Process = c.args.history.now.processes in
    let floors : List (ℕ × ℕ) = floors_at
    (length history) c.args.floor.now.checks.now c.args.floor.now.sends.now in
    out_front _ _ _ _ _ (head_next 4 floors history) (out_none _ _ _ _)
    (rw c.n-n.ensures.value at c.in_err-put_numbers.ensures) c.from_residual.ensures.1

pub returns-in_err-put_floors-clause-put : goal.returns-in_err-put_floors-clause-put
returns-in_err-put_floors-clause-put g c =
    let history : List Process = c.args.history.now.processes in
    let floors : List (ℕ × ℕ) = floors_at
    (length history) c.args.floor.now.checks.now c.args.floor.now.sends.now in
    let head = out_more _ _ (head_next 4 floors history) (out_none _ _ _ _)
    (rw c.n-n.ensures.value at c.in_ok-put_numbers.ensures) in
    out_front _ _ _ _ _ (floors_next floors history) head (rw c.n-n.ensures.value at
    c.in_err-put_floors.ensures) c.from_residual-in_err-put_floors.ensures.1

pub returns-clause-put : goal.returns-clause-put
returns-clause-put g c =
    let history : List Process = c.args.history.now.processes in
    let floors : List (ℕ × ℕ) = floors_at
    (length history) c.args.floor.now.checks.now c.args.floor.now.sends.now in
    let head = out_more _ _ (head_next 4 floors history) (out_none _ _ _ _)
    (rw c.n-n.ensures.value at c.in_ok-put_numbers.ensures) in
    let told = out_more _ _ (floors_next floors history) head
    (rw c.n-n.ensures.value at c.in_ok-put_floors.ensures) in
    out_last _ refl told c.put_tapes.ensures.put
