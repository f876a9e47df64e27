-- The parts are written one after another.
use Rattle.std.proofs.Common.{List, ◌∷◌, length, refl}
use Rattle.std.specs.Prelude.{map}
use Rattle.line_devices.proofs.OutputLemmas.{out_front, out_more, out_none}
use Rattle.line_fields.proofs.OutletLemmas.{both_texts}
use Rattle.line_fields.specs.Records.{Record}
use Rattle.line_fields.specs.Texts.{records_text}
use Rattle.line_claims.specs.Records.{failed_record, in_order, line_record, marks_records}
use Rattle.line_claims.specs.Records.{pass_record}
use Rattle.line_claims.proofs.WriteLemmas.{out_last}
use Rattle.line_claims.proofs.judgements.put_claim.Goals as goal

pub returns-in_err-put_marks : goal.returns-in_err-put_marks
returns-in_err-put_marks g c =
    let marks : List Record = marks_records
    (in_order c.args.history.now.processes c.args.claim.now.marks.now) in
    let lined : List Record = line_record c.args.claim.now.line.now
    ∷ map pass_record c.args.claim.now.certificate.now in
    let judged : List Record = failed_record
    (length c.args.history.now.processes) c.args.claim.now.failed.now ∷ lined in
    out_front _ _ _ _ _ (both_texts marks judged)
    (out_none _ _ _ _) c.in_err-put_marks.ensures c.from_residual.ensures.1

pub returns-in_err-put_failed : goal.returns-in_err-put_failed
returns-in_err-put_failed g c =
    let marks : List Record = marks_records
    (in_order c.args.history.now.processes c.args.claim.now.marks.now) in
    let lined : List Record = line_record c.args.claim.now.line.now
    ∷ map pass_record c.args.claim.now.certificate.now in
    let judged : List Record = failed_record
    (length c.args.history.now.processes) c.args.claim.now.failed.now ∷ lined in
    let front = out_more _ _ (both_texts marks judged)
    (out_none _ _ _ _) c.in_ok-put_marks.ensures in
    out_front _ _ _ _ (records_text lined) refl front (rw c.n.ensures.value at
    c.in_err-put_failed.ensures) c.from_residual-in_err-put_failed.ensures.1

pub returns-in_err-put_line : goal.returns-in_err-put_line
returns-in_err-put_line g c =
    let marks : List Record = marks_records
    (in_order c.args.history.now.processes c.args.claim.now.marks.now) in
    let lined : List Record = line_record c.args.claim.now.line.now
    ∷ map pass_record c.args.claim.now.certificate.now in
    let judged : List Record = failed_record
    (length c.args.history.now.processes) c.args.claim.now.failed.now ∷ lined in
    let front = out_more _ _ (both_texts marks judged)
    (out_none _ _ _ _) c.in_ok-put_marks.ensures in
    let failed = out_more _ (records_text lined) refl front
    (rw c.n.ensures.value at c.in_ok-put_failed.ensures) in
    out_front _ _ _ _ (records_text (map pass_record c.args.claim.now.certificate.now)) refl failed
    c.in_err-put_line.ensures c.from_residual-in_err-put_line.ensures.1

pub returns : goal.returns
returns g c =
    let marks : List Record = marks_records
    (in_order c.args.history.now.processes c.args.claim.now.marks.now) in
    let lined : List Record = line_record c.args.claim.now.line.now
    ∷ map pass_record c.args.claim.now.certificate.now in
    let judged : List Record = failed_record
    (length c.args.history.now.processes) c.args.claim.now.failed.now ∷ lined in
    let front = out_more _ _ (both_texts marks judged)
    (out_none _ _ _ _) c.in_ok-put_marks.ensures in
    let failed = out_more _ (records_text lined) refl front
    (rw c.n.ensures.value at c.in_ok-put_failed.ensures) in
    let line = out_more _ (records_text (map pass_record c.args.claim.now.certificate.now)) refl
    failed c.in_ok-put_line.ensures in
    out_last _ refl line c.put_passes.ensures
