use Rattle.std.proofs.Common.{◌<◌, ◌≤◌, length, arith}
use Rattle.line_devices.proofs.OutputLemmas.{out_all, out_front, out_more, out_none}
use Rattle.line_fields.proofs.OutletLemmas.{item_left, no_item_left}
use Rattle.line_claims.specs.Records.{pass_record}
use Rattle.line_text.proofs.replies.recoveries.put_certificate.Goals as goal

pub loop-entry-init : goal.loop-entry-init
loop-entry-init g c = out_none _ _ _ _

pub loop-entry-preserved : goal.loop-entry-preserved
loop-entry-preserved g c =
    let lt : c.loop-entry.entry-index < length c.args.entries.now = omega arith in
    let next = item_left pass_record c.args.entries.now c.loop-entry.entry-index _ lt
    c.entry-item.is in
    out_more _ _ next c.loop-entry.invariant c.in_ok-put_pass.ensures

pub returns-in_err-put_pass : goal.returns-in_err-put_pass
returns-in_err-put_pass g c =
    let lt : c.loop-entry.entry-index < length c.args.entries.now = omega arith in
    let next = item_left pass_record c.args.entries.now c.loop-entry.entry-index _ lt
    c.entry-item.is in
    out_front _ _ _ _ _ next c.loop-entry.invariant c.in_err-put_pass.ensures
    c.from_residual.ensures.1

pub returns : goal.returns
returns g c =
    let le : length c.args.entries.now ≤ c.loop-entry.entry-index = omega arith in
    out_all tt (no_item_left pass_record c.args.entries.now c.loop-entry.entry-index le)
    c.loop-entry.invariant
