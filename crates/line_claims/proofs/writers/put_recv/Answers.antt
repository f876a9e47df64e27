use Rattle.line_claims.proofs.writers.put_recv.Goals as goal

pub returns-clause-put : goal.returns-clause-put
returns-clause-put g c = rw c.numbers_of.ensures at c.put_numbers.ensures
