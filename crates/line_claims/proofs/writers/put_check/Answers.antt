use Rattle.line_claims.proofs.writers.put_check.Goals as goal

pub returns-clause-put : goal.returns-clause-put
returns-clause-put g c = rw c.number_field-last.ensures at c.put_fields.ensures
