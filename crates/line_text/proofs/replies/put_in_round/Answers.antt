use Rattle.line_text.proofs.replies.put_in_round.Goals as goal

pub returns : goal.returns
returns g c = rw c.get.ensures.value at c.put_numbers.ensures
