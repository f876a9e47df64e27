use Rattle.line_text.proofs.replies.put_took.Goals as goal

pub returns : goal.returns
returns g c = rw (c.numbers_of.ensures, c.number_field-last.ensures) at c.put_ending.ensures
