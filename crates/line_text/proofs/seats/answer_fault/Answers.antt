use Rattle.line_text.proofs.seats.answer_fault.Goals as goal

pub returns-clause-ok : goal.returns-clause-ok
returns-clause-ok g c one heard = c.tell_fault.ensures.ok _ one (rw c.miss.ensures heard)

pub returns-clause-err : goal.returns-clause-err
returns-clause-err g c one heard = c.tell_fault.ensures.err _ one (rw c.miss.ensures heard)
