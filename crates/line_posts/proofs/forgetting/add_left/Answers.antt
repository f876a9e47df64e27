-- What is left of an event may be added, and then that is left.
use Rattle.std.proofs.Common.{◌<◌, ℕ, Option, length, subst, sym, ap, ◌∙◌, arith}
use Rattle.std.specs.Prelude.{Some}
use Rattle.line_names.specs.declared.messages.MsgName.{MsgName}
use Rattle.line_tape.specs.declared.events.Event.{Event}
use Rattle.line_tape.specs.declared.events.Event.TheVariants.{Recv, Check}
use Rattle.line_tape.specs.History.{with_event}
use Rattle.line_catalogue.specs.Agreement.{AgreesNext}
use Rattle.line_cuts.specs.Cuts.{cut_round}
use Rattle.line_posts.specs.Kept.{IsLeftAt, MayAdd}
use Rattle.line_posts.proofs.LeftLemmas.{check_added, check_addable, mark_dropped, other_addable}
use Rattle.line_posts.proofs.LeftLemmas.{receipt_added, receipt_addable, send_added, there}
use Rattle.line_posts.proofs.forgetting.add_left.Goals as goal

pub append-requires-clause-process : goal.append-requires-clause-process
append-requires-clause-process c = let (history, marks, left, may) = c.requires.may in there
    c.args.floor.now history marks _ _ left c.args.p c.args.event may

pub append-requires-clause-named : goal.append-requires-clause-named
append-requires-clause-named c =
    let (history, marks, left, may) = c.requires.may in
    (other_addable c.args.floor.now history marks _ _ left c.args.p _ (λ x e. cc e)
    (subst (MayAdd (Some c.args.floor.now) history c.args.p) c.in-Send.is may)).named

pub append-requires-clause-agrees : goal.append-requires-clause-agrees
append-requires-clause-agrees c =
    let (history, marks, left, may) = c.requires.may in
    (other_addable c.args.floor.now history marks _ _ left c.args.p _ (λ x e. cc e)
    (subst (MayAdd (Some c.args.floor.now) history c.args.p) c.in-Send.is may)).agrees

pub append-requires-in-Recv-clause-process : goal.append-requires-in-Recv-clause-process
append-requires-in-Recv-clause-process c = let (history, marks, left, may) = c.requires.may in there
    c.args.floor.now history marks _ _ left c.args.p c.args.event may

pub append-requires-in-Recv-clause-named : goal.append-requires-in-Recv-clause-named
append-requires-in-Recv-clause-named c =
    let (history, marks, left, may) = c.requires.may in
    subst (λ (m : MsgName). m.from < length c.args.catalogue.now.processes)
    (sym c.cut_name-message.ensures)
    (receipt_addable c.args.floor.now history marks _ _ left c.args.p c.in-Recv.message
    (subst (MayAdd (Some c.args.floor.now) history c.args.p) c.in-Recv.is may)).named

pub append-requires-in-Recv-clause-agrees : goal.append-requires-in-Recv-clause-agrees
append-requires-in-Recv-clause-agrees c =
    let (history, marks, left, may) = c.requires.may in
    subst (λ (m : MsgName). AgreesNext c.args.catalogue.now.processes c.args.p (Recv m))
    (sym c.cut_name-message.ensures)
    (receipt_addable c.args.floor.now history marks _ _ left c.args.p c.in-Recv.message
    (subst (MayAdd (Some c.args.floor.now) history c.args.p) c.in-Recv.is may)).agrees

pub append-requires-in-Check-clause-process : goal.append-requires-in-Check-clause-process
append-requires-in-Check-clause-process c = let (history, marks, left, may) = c.requires.may in
    there c.args.floor.now history marks _ _ left c.args.p c.args.event may

pub append-requires-in-Check-clause-agrees : goal.append-requires-in-Check-clause-agrees
append-requires-in-Check-clause-agrees c =
    let (history, marks, left, may) = c.requires.may in
    subst (λ (r : Option ℕ). AgreesNext c.args.catalogue.now.processes c.args.p
    (Check c.in-Check.state r))
    (ap (λ (n : ℕ). cut_round n c.in-Check.round)
    (sym c.round.ensures) ∙ sym c.cut_round-round.ensures)
    (check_addable c.args.floor.now history marks _ _ left c.args.p c.in-Check.state
    c.in-Check.round
    (subst (MayAdd (Some c.args.floor.now) history c.args.p) c.in-Check.is may)).agrees

pub returns-in-Send-clause-left : goal.returns-in-Send-clause-left
returns-in-Send-clause-left c = λ history marks left may.
    subst (λ (e : Event). IsLeftAt c.args.floor.now (with_event history c.args.p e) marks
    c.append.new.self.processes c.append.new.self.marks) (sym c.in-Send.is)
    (send_added c.args.floor.now history marks _ _ left c.args.p c.append.new.self.processes
    c.append.new.self.marks c.append.ensures.marks c.in-Send.to c.in-Send.inc c.in-Send.body
    (subst (MayAdd (Some c.args.floor.now) history c.args.p) c.in-Send.is may)
    c.append.ensures.processes)

pub returns-in-Recv-clause-left : goal.returns-in-Recv-clause-left
returns-in-Recv-clause-left c = λ history marks left may.
    let A = c.append-in-Recv in
    subst (λ (e : Event). IsLeftAt c.args.floor.now (with_event history c.args.p e) marks
    A.new.self.processes A.new.self.marks) (sym c.in-Recv.is)
    (receipt_added c.args.floor.now history marks _ _ left c.args.p A.new.self.processes
    A.new.self.marks A.ensures.marks c.in-Recv.message
    (subst (MayAdd (Some c.args.floor.now) history c.args.p) c.in-Recv.is may)
    (A.ensures.processes ∙ ap (λ (m : MsgName). with_event c.args.catalogue.now.processes c.args.p
    (Recv m)) c.cut_name-message.ensures))

pub returns-in-Check-clause-left : goal.returns-in-Check-clause-left
returns-in-Check-clause-left c = λ history marks left may.
    let A = c.append-in-Check in
    subst (λ (e : Event). IsLeftAt c.args.floor.now (with_event history c.args.p e) marks
    A.new.self.processes A.new.self.marks) (sym c.in-Check.is)
    (check_added c.args.floor.now history marks _ _ left c.args.p A.new.self.processes
    A.new.self.marks A.ensures.marks c.in-Check.state c.in-Check.round
    (subst (MayAdd (Some c.args.floor.now) history c.args.p) c.in-Check.is may)
    (A.ensures.processes ∙ ap
    (λ (r : Option ℕ). with_event c.args.catalogue.now.processes c.args.p
    (Check c.in-Check.state r)) (c.cut_round-round.ensures ∙ ap
    (λ (n : ℕ). cut_round n c.in-Check.round) c.round.ensures)))

pub returns-else-last-round-clause-left : goal.returns-else-last-round-clause-left
returns-else-last-round-clause-left c = λ history marks left may.
    subst (λ (e : Event). IsLeftAt c.args.floor.now (with_event history c.args.p e) marks
    c.args.catalogue.now.processes c.args.catalogue.now.marks) (sym c.in-Mark.is)
    (mark_dropped c.args.floor.now history marks _ _ left c.args.p c.in-Mark.from c.in-Mark.round
    (omega (arith, c.if-last-round.false, c.round-last.ensures))
    (subst (MayAdd (Some c.args.floor.now) history c.args.p) c.in-Mark.is may))
