use Rattle.line_claims.proofs.judgements.put_pass.Goals as goal

pub returns : goal.returns
returns g c = rw c.in-Check.is
    (rw (c.get-at.ensures.value, c.get-from.ensures.value) at c.put_numbers.ensures)
