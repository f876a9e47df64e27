use Rattle.line_posts.proofs.replays.send_count.Goals as goal

pub returns-in-Send-clause-value : goal.returns-in-Send-clause-value
returns-in-Send-clause-value c = rw c.in-Send.is

pub returns-in-Recv-clause-value : goal.returns-in-Recv-clause-value
returns-in-Recv-clause-value c = rw c.in-Recv.is

pub returns-in-Check-clause-value : goal.returns-in-Check-clause-value
returns-in-Check-clause-value c = rw c.in-Check.is

pub returns-in-Mark-clause-value : goal.returns-in-Mark-clause-value
returns-in-Mark-clause-value c = rw c.in-Mark.is
