use Rattle.line_text.proofs.replies.put_refusal.Goals as goal

pub returns : goal.returns
returns g c = rw (c.as_bytes-name.ensures.value, c.name_of.ensures.name) at c.put_ending.ensures
