use Rattle.std.proofs.Common.{refl, inl}
use Rattle.line_text.specs.Replies.{refusal_record}
use Rattle.line_fields.proofs.OutletLemmas.{one_text}
use Rattle.line_collect.specs.Answers.{Refused}
use Rattle.line_collect.specs.declared.reports.Report.TheVariants as reports
use Rattle.line_collect.proofs.AnswerLemmas.{does_written, taken_told}
use Rattle.line_collect.proofs.answering.answer_report.Goals as goal

pub returns-in-Send : goal.returns-in-Send
returns-in-Send g c = rw c.in-Send.is
    (c.tell.ensures _ _ _ (taken_told c.args.live.now c.send.new.self (reports.Send c.in-Send.by
    c.in-Send.incarnation c.in-Send.to c.in-Send.body.now) c.send.result c.send.ensures))

pub returns-in-Receive : goal.returns-in-Receive
returns-in-Receive g c = rw c.in-Receive.is
    (c.tell-in-Receive.ensures _ _ _
    (taken_told c.args.live.now c.receive.new.self (reports.Receive c.in-Receive.by
    c.in-Receive.incarnation c.in-Receive.message) c.receive.result c.receive.ensures))

pub returns-in-Check : goal.returns-in-Check
returns-in-Check g c = rw c.in-Check.is
    (c.tell-in-Check.ensures _ _ _
    (taken_told c.args.live.now c.check-answer.new.self
    (reports.Check c.in-Check.by c.in-Check.incarnation c.in-Check.state.now c.in-Check.round)
    c.check-answer.result c.check-answer.ensures))

pub returns-in-Mark : goal.returns-in-Mark
returns-in-Mark g c = rw c.in-Mark.is
    (c.tell-in-Mark.ensures _ _ _
    (taken_told c.args.live.now c.mark.new.self (reports.Mark c.in-Mark.by c.in-Mark.incarnation
    c.in-Mark.from c.in-Mark.round) c.mark.result c.mark.ensures))

pub returns-in-Damage : goal.returns-in-Damage
returns-in-Damage g c = rw c.in-Damage.is
    (c.tell-in-Damage.ensures _ _ _ (taken_told c.args.live.now c.damage.new.self
    (reports.Damage c.in-Damage.by c.in-Damage.check) c.damage.result c.damage.ensures))

pub returns-in-Bar : goal.returns-in-Bar
returns-in-Bar g c = rw c.in-Bar.is (c.tell-in-Bar.ensures _ _ _ (taken_told c.args.live.now
    c.bar.new.self (reports.Bar c.in-Bar.by c.in-Bar.check) c.bar.result c.bar.ensures))

pub returns-in-Plan : goal.returns-in-Plan
returns-in-Plan g c = rw c.in-Plan.is c.put_plan_for.ensures

pub returns-in-Live : goal.returns-in-Live
returns-in-Live g c = rw c.in-Live.is c.put_live_plan.ensures

pub returns-in-Recover : goal.returns-in-Recover
returns-in-Recover g c = rw c.in-Recover.is c.recover.ensures

pub returns-in-Forget : goal.returns-in-Forget
returns-in-Forget g c = rw c.in-Forget.is c.forget.ensures

pub returns-in-History : goal.returns-in-History
returns-in-History g c = rw c.in-History.is c.put_collected.ensures

pub returns-in-Bundle : goal.returns-in-Bundle
returns-in-Bundle g c = rw c.in-Bundle.is c.put_bundle.ensures

pub returns-in-Refused : goal.returns-in-Refused
returns-in-Refused g c =
    rw (c.in-Refused.is, c.outcome_if_written.ensures)
    (does_written _ _ _ (Refused c.in-Refused.code) _ _ _ _ _ _ _ _ _ (inl refl, refl) refl
    (one_text (refusal_record c.in-Refused.code)) c.put_refusal-put.ensures)
