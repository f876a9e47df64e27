use Rattle.line_claims.proofs.writers.put_event.Goals as goal

pub returns-in-Send-clause-put : goal.returns-in-Send-clause-put
returns-in-Send-clause-put g c = rw c.in-Send.is c.put_send.ensures.put

pub returns-in-Recv-clause-put : goal.returns-in-Recv-clause-put
returns-in-Recv-clause-put g c = rw c.in-Recv.is c.put_recv.ensures.put

pub returns-in-Check-clause-put : goal.returns-in-Check-clause-put
returns-in-Check-clause-put g c = rw c.in-Check.is c.put_check.ensures.put

pub returns-in-Mark-clause-put : goal.returns-in-Mark-clause-put
returns-in-Mark-clause-put g c =
    rw c.in-Mark.is (rw c.get-place.ensures.value at c.put_numbers.ensures)
