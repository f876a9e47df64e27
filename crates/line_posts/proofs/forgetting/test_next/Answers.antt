-- What a test of what is kept says of the whole.
use Rattle.std.proofs.Common.{◌<◌, List, length, subst, sym}
use Rattle.std.specs.Prelude.{IfErr, OnOk, Option}
use Rattle.line_tape.specs.History.{Process}
use Rattle.line_posts.specs.Collected.{IsNotAdded}
use Rattle.line_posts.specs.Kept.{floor_of, IsKeptOf, MayAdd}
use Rattle.line_posts.specs.declared.forgetting.Forgotten.{Forgotten}
use Rattle.line_posts.proofs.LeftLemmas.{err_at, err_then, none_may, none_refused, ok_then}
use Rattle.line_posts.proofs.LeftLemmas.{refused_of}
use Rattle.line_posts.proofs.forgetting.test_next.Goals as goal

pub returns-in-None : goal.returns-in-None
returns-in-None c =
    let K = c.args.catalogue.now in
    let t = c.test.ensures in
    record {
      ok = subst (λ (f : Option Forgotten). OnOk c.test.result
          ((history : List Process) → IsKeptOf f history K.processes K.marks
          → MayAdd (floor_of f) history c.args.p c.args.event.now)) (sym c.in-None.is)
          (ok_then c.test.result _ _ (λ tested history same. none_may history K.processes c.args.p
          c.args.event.now same tested) t.ok);
      why = subst (λ (f : Option Forgotten). IfErr c.test.result
          (λ why. (history : List Process) → IsKeptOf f history K.processes K.marks
          → c.args.p < length history
          → IsNotAdded (floor_of f) history c.args.p c.args.event.now why)) (sym c.in-None.is)
          (err_at c.test.result _
          (λ why is history same within. none_refused history K.processes c.args.p
          c.args.event.now why same within (refused_of K.processes c.args.p c.args.event.now
          c.test.result why is t.process.0 t.long.0 t.full.0 t.names.0 t.never)));
    }

pub returns-in-Some : goal.returns-in-Some
returns-in-Some c =
    let K = c.args.catalogue.now in
    let R = c.test_left.result in
    record {
      ok = subst (λ (f : Option Forgotten). OnOk R
          ((history : List Process) → IsKeptOf f history K.processes K.marks
          → MayAdd (floor_of f) history c.args.p c.args.event.now)) (sym c.in-Some.is)
          (ok_then R _ _ (λ may history left. may history _ left) c.test_left.ensures.ok);
      why = subst (λ (f : Option Forgotten). IfErr R
          (λ why. (history : List Process) → IsKeptOf f history K.processes K.marks
          → c.args.p < length history
          → IsNotAdded (floor_of f) history c.args.p c.args.event.now why)) (sym c.in-Some.is)
          (err_then R _ _ (λ why refused history left within. refused history _ left within)
          c.test_left.ensures.why);
    }
