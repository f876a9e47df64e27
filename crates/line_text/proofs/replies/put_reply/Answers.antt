use Rattle.std.proofs.Common.{ap, sym}
use Rattle.std.specs.Prelude.{codes}
use Rattle.line_devices.proofs.OutputLemmas.{outputs_as}
use Rattle.line_fields.proofs.OutletLemmas.{one_text}
use Rattle.line_fields.specs.Texts.{records_text}
use Rattle.line_plan.specs.declared.plans.Plan.{Plan}
use Rattle.line_text.specs.Replies.{recovery_records, sent_record, took_record, marked_record}
use Rattle.line_text.specs.Replies.{stale_record, repeated_record, checked_record, begun_record}
use Rattle.line_text.specs.Replies.{turned_record, damaged_record, barred_record}
use Rattle.line_text.proofs.replies.put_reply.Goals as goal

pub returns-in-Sent : goal.returns-in-Sent
returns-in-Sent g c = rw c.in-Sent.is
    (outputs_as _ _ _ _ _ _ _ _ _ (one_text (sent_record c.in-Sent.message)) c.put_named.ensures)

pub returns-in-Took : goal.returns-in-Took
returns-in-Took g c = rw c.in-Took.is (outputs_as _ _ _ _ _ _ _ _ _
    (one_text (took_record c.in-Took.message c.in-Took.forced)) c.put_took.ensures)

pub returns-in-Marked : goal.returns-in-Marked
returns-in-Marked g c = rw c.in-Marked.is (outputs_as _ _ _ _ _ _ _ _ _
    (one_text (marked_record c.in-Marked.round c.in-Marked.forced)) c.put_marked.ensures)

pub returns-in-Stale : goal.returns-in-Stale
returns-in-Stale g c = rw c.in-Stale.is (outputs_as _ _ _ _ _ _ _ _ _
    (one_text (stale_record c.in-Stale.message)) c.put_named-in-Stale.ensures)

pub returns-in-Repeated : goal.returns-in-Repeated
returns-in-Repeated g c = rw c.in-Repeated.is (outputs_as _ _ _ _ _ _ _ _ _
    (one_text (repeated_record c.in-Repeated.message)) c.put_named-in-Repeated.ensures)

pub returns-in-Checked : goal.returns-in-Checked
returns-in-Checked g c = rw c.in-Checked.is (outputs_as _ _ _ _ _ _ _ _ _
    (one_text (checked_record c.in-Checked.at c.in-Checked.check)) c.put_at_check.ensures)

pub returns-in-Begun : goal.returns-in-Begun
returns-in-Begun g c = rw c.in-Begun.is (outputs_as _ _ _ _ _ _ _ _ _ (one_text
    (begun_record c.in-Begun.at c.in-Begun.check c.in-Begun.round)) c.put_in_round.ensures)

pub returns-in-Turned : goal.returns-in-Turned
returns-in-Turned g c = rw c.in-Turned.is (outputs_as _ _ _ _ _ _ _ _ _ (one_text (turned_record
    c.in-Turned.at c.in-Turned.check c.in-Turned.round)) c.put_in_round-in-Turned.ensures)

pub returns-in-Damaged : goal.returns-in-Damaged
returns-in-Damaged g c = rw c.in-Damaged.is (outputs_as _ _ _ _ _ _ _ _ _ (one_text
    (damaged_record c.in-Damaged.at c.in-Damaged.check)) c.put_at_check-in-Damaged.ensures)

pub returns-in-Barred : goal.returns-in-Barred
returns-in-Barred g c = rw c.in-Barred.is (outputs_as _ _ _ _ _ _ _ _ _
    (one_text (barred_record c.in-Barred.at c.in-Barred.check)) c.put_at_check-in-Barred.ensures)

pub returns-in-Recovered : goal.returns-in-Recovered
returns-in-Recovered g c =
    rw c.in-Recovered.is
    (outputs_as _ _ _ _ _ _ _ _ _
    (ap (λ (p : Plan). records_text
    (recovery_records (codes "recovered") p.sweeps p.certificate.items p.replays.items p.line
    c.in-Recovered.incarnations.items c.in-Recovered.states.items)) (sym c.deref.ensures))
    c.put_recovery.ensures)
