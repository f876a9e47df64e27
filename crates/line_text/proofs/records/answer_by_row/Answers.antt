use Rattle.std.proofs.Common.{◌≡◌, ◌∙◌, false, sym}
use Rattle.std.specs.Prelude.{Err}
use Rattle.std.proofs.lemmas.Result.{on_ok_weaker}
use Rattle.line_fields.specs.declared.faults.Fault.TheVariants.{BadRecord}
use Rattle.line_fields.specs.Bytes.{is_line_text}
use Rattle.line_text.proofs.ByteLemmas.{other_answers}
use Rattle.line_text.proofs.HeardLemmas.{some_record}
use Rattle.line_text.proofs.records.answer_by_row.Goals as goal

pub returns-in-Ok-false-clause-ok : goal.returns-in-Ok-false-clause-ok
returns-in-Ok-false-clause-ok g c =
    let bad : is_line_text c.args.line.now
    ≡ false = sym c.in-Ok-false.ensures.plain ∙ c.in-Ok-false.field-0-test in
    rw bad (c.answer_fault.ensures.ok (Err BadRecord) (g.met.C.Answerer.bad_record _))

pub returns-in-Err-clause-ok : goal.returns-in-Err-clause-ok
returns-in-Err-clause-ok g c =
    let one = some_record (is_line_text c.args.line.now) c.args.line.now
    (sym c.is_empty.ensures ∙ c.if-is_empty.false) in
    on_ok_weaker c.answer_fault-in-Err.result (λ h. other_answers _ _ _ _ _ _ _ (sym one.1) h)
    (c.answer_fault-in-Err.ensures.ok one.0 (g.met.C.Answerer.no_memory _ one.0))
