use Rattle.line_text.proofs.replies.recoveries.put_line.Goals as goal

pub returns-in-Check : goal.returns-in-Check
returns-in-Check g c = rw (← c.in-Check.ensures)
    (rw (c.incarnation_at-inc.ensures, c.state_field-state.ensures) at c.put_ending.ensures)

pub returns-in-Now : goal.returns-in-Now
returns-in-Now g c = rw (← c.in-Now.ensures)
    (rw (c.incarnation_at-inc.ensures, c.state_field-state.ensures) at c.put_now.ensures)
