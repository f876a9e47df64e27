use Rattle.line_text.proofs.replies.put_named.Goals as goal

pub returns : goal.returns
returns g c = rw c.numbers_of.ensures at c.put_numbers.ensures
