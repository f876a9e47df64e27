use Rattle.line_claims.proofs.answers.put_replay.Goals as goal

pub returns : goal.returns
returns g c = rw (c.get-from.ensures.value, c.get-to.ensures.value) at c.put_ending.ensures
