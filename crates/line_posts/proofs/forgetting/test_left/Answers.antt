-- What a test of what is left says of the whole.
use Rattle.std.proofs.Common.{subst, sym, arith}
use Rattle.std.specs.Prelude.{Some}
use Rattle.line_names.specs.declared.messages.MsgName.{MsgName}
use Rattle.line_tape.specs.declared.events.Event.{Event}
use Rattle.line_tape.specs.declared.events.Event.TheVariants.{Recv}
use Rattle.line_catalogue.specs.declared.refusals.AddError.TheVariants.{NamesDisagree}
use Rattle.line_posts.specs.Collected.{IsNotAdded}
use Rattle.line_posts.specs.Kept.{IsTested, IsTestRefused, MayAdd}
use Rattle.line_posts.proofs.LeftLemmas.{err_at, gone_refused, ok_then, other_may, other_refused}
use Rattle.line_posts.proofs.LeftLemmas.{receipt_may, receipt_refused, refused_of}
use Rattle.line_posts.proofs.forgetting.test_left.Goals as goal

pub returns-in_default : goal.returns-in_default
returns-in_default c =
    let K = c.args.catalogue.now in
    let t = c.test.ensures in
    record {
      ok = ok_then c.test.result _ _
          (λ tested history marks left. other_may c.args.floor.now history marks K.processes K.marks
          left c.args.p c.args.event.now c.in_default.not-Recv tested) t.ok;
      why = err_at c.test.result _
          (λ why is history marks left within. other_refused c.args.floor.now history marks
          K.processes K.marks left c.args.p c.args.event.now c.in_default.not-Recv why within
          (refused_of K.processes c.args.p c.args.event.now c.test.result why is t.process.0
          t.long.0 t.full.0 t.names.0 t.never));
    }

pub returns-then-message-sends-clause-why : goal.returns-then-message-sends-clause-why
returns-then-message-sends-clause-why c = λ history marks left within.
    let K = c.args.catalogue.now in
    let F = c.args.floor.now in
    let m : MsgName = c.in-Recv.message in
    let tested : IsTested K.processes c.args.p (Recv _) = subst (λ (n : MsgName). IsTested
    K.processes c.args.p (Recv n)) c.cut_name.ensures c.in-Ok.ensures.ok in
    subst (λ (e : Event). IsNotAdded (Some F) history c.args.p e NamesDisagree) (sym c.in-Recv.is)
    (gone_refused F history marks K.processes K.marks left c.args.p m
    (omega (arith, c.if-message-sends.true, c.sends.ensures)) tested)

pub returns-else-message-sends-clause-ok : goal.returns-else-message-sends-clause-ok
returns-else-message-sends-clause-ok c = λ history marks left.
    let K = c.args.catalogue.now in
    let F = c.args.floor.now in
    let m : MsgName = c.in-Recv.message in
    let tested : IsTested K.processes c.args.p (Recv _) = subst (λ (n : MsgName). IsTested
    K.processes c.args.p (Recv n)) c.cut_name.ensures c.in-Ok.ensures.ok in
    subst (λ (e : Event). MayAdd (Some F) history c.args.p e) (sym c.in-Recv.is)
    (receipt_may F history marks K.processes K.marks left c.args.p m
    (omega (arith, c.if-message-sends.false, c.sends.ensures)) tested)

pub returns-in-Err-clause-why : goal.returns-in-Err-clause-why
returns-in-Err-clause-why c = λ history marks left within.
    let K = c.args.catalogue.now in
    let F = c.args.floor.now in
    let m : MsgName = c.in-Recv.message in
    let refused : IsTestRefused K.processes c.args.p (Recv _) c.in-Err.why = subst
    (λ (n : MsgName). IsTestRefused K.processes c.args.p (Recv n) c.in-Err.why)
    c.cut_name.ensures c.in-Err.ensures.why in
    subst (λ (e : Event). IsNotAdded (Some F) history c.args.p e c.in-Err.why) (sym c.in-Recv.is)
    (receipt_refused F history marks K.processes K.marks left c.args.p m c.in-Err.why within
    refused)
