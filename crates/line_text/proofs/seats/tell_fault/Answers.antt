use Rattle.std.proofs.Common.{refl}
use Rattle.std.proofs.lemmas.Result.{on_err_weaker, on_ok_weaker}
use Rattle.line_text.proofs.RecordLemmas.{fault_answered, fault_front}
use Rattle.line_text.proofs.seats.tell_fault.Goals as goal

pub returns-clause-ok : goal.returns-clause-ok
returns-clause-ok g c before one heard = on_ok_weaker c.put_fault.result
    (λ put. fault_answered _ _ g.met.C.Answerer.fault_records g.met.C.Answerer.fault_outcome _ _ one
    c.args.error _ _ heard refl put) c.put_fault.ensures.ok

pub returns-clause-err : goal.returns-clause-err
returns-clause-err g c before one heard = on_err_weaker c.put_fault.result (λ put. fault_front _ _
    g.met.C.Answerer.fault_records _ _ _ one c.args.error _ _ heard put) c.put_fault.ensures.err
