use Rattle.line_collect.proofs.answering.put_told.Goals as goal

pub returns-in-Sent : goal.returns-in-Sent
returns-in-Sent g c = rw c.in-Sent.is (rw c.numbers_of.ensures at c.put_numbers.ensures)

pub returns-in-Took : goal.returns-in-Took
returns-in-Took g c = rw c.in-Took.is (rw c.numbers_of-in-Took.ensures at c.put_ending.ensures)

pub returns-in-Checked : goal.returns-in-Checked
returns-in-Checked g c =
    rw c.in-Checked.is (rw c.get.ensures.value at c.put_numbers-in-Checked.ensures)

pub returns-in-Damaged : goal.returns-in-Damaged
returns-in-Damaged g c =
    rw c.in-Damaged.is (rw c.get-in-Damaged.ensures.value at c.put_numbers-in-Damaged.ensures)

pub returns-in-Barred : goal.returns-in-Barred
returns-in-Barred g c =
    rw c.in-Barred.is (rw c.get-in-Barred.ensures.value at c.put_numbers-in-Barred.ensures)
