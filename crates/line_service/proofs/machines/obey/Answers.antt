use Rattle.std.proofs.Common.{refl}
use Rattle.line_service.proofs.RecordLemmas.{done_told, front_told}
use Rattle.line_service.proofs.machines.obey.Goals as goal

pub returns-in-Ok-true-clause-ok : goal.returns-in-Ok-true-clause-ok
returns-in-Ok-true-clause-ok g c =
    done_told _ _ _ _ _ _ _ _ _ _
    (rw (c.n-n.ensures.value, c.history.ensures.value, c.kept.ensures) at c.in-Ok.ensures)
    (rw c.command.ensures.value at c.in-Ok-true.ensures.ok) (rw c.in-Ok-true.field-0-test refl)

pub returns-in-Ok-false-clause-ok : goal.returns-in-Ok-false-clause-ok
returns-in-Ok-false-clause-ok g c =
    done_told _ _ _ _ _ _ _ _ _ _
    (rw (c.n-n.ensures.value, c.history.ensures.value, c.kept.ensures) at c.in-Ok.ensures) (rw
    c.command.ensures.value at c.in-Ok-false.ensures.ok) (rw c.in-Ok-false.field-0-test refl)

pub returns-in-Err-Write-clause-err : goal.returns-in-Err-Write-clause-err
returns-in-Err-Write-clause-err g c =
    front_told _ _ _ _ _ _ _
    (rw (c.n-n.ensures.value, c.history.ensures.value, c.kept.ensures) at c.in-Ok.ensures)
    (rw c.command.ensures.value at (c.in-Err-Write.ensures.write c.in-Err-Write.field-0-is))
