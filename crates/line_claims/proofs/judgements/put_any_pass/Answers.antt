use Rattle.line_claims.proofs.judgements.put_any_pass.Goals as goal

pub returns : goal.returns
returns g c = rw (c.get-at.ensures.value, c.choice_field-choice.ensures, c.get-from.ensures.value)
    at c.put_fields.ensures
