use Rattle.std.proofs.Common.{◌<◌, ◌≤◌, ℕ, length, arith}
use Rattle.line_devices.proofs.OutputLemmas.{out_all, out_front, out_more, out_none}
use Rattle.line_fields.specs.Records.{Record}
use Rattle.line_fields.proofs.OutletLemmas.{no_number_left, number_left}
use Rattle.line_text.specs.Replies.{process_of}
use Rattle.line_text.proofs.replies.recoveries.put_lines.Goals as goal

pub loop-p-init : goal.loop-p-init
loop-p-init g c = out_none _ _ _ _

pub loop-p-preserved : goal.loop-p-preserved
loop-p-preserved g c =
    let f : ℕ → Record = process_of c.args.choices.now c.args.incarnations.now c.args.states.now in
    let lt : c.loop-p.p < length c.args.choices.now = omega arith in
    let next = number_left f (length c.args.choices.now) c.loop-p.p lt in
    out_more _ _ next c.loop-p.invariant c.in_ok-put_line.ensures

pub returns-in_err-put_line : goal.returns-in_err-put_line
returns-in_err-put_line g c =
    let f : ℕ → Record = process_of c.args.choices.now c.args.incarnations.now c.args.states.now in
    let lt : c.loop-p.p < length c.args.choices.now = omega arith in
    let next = number_left f (length c.args.choices.now) c.loop-p.p lt in
    out_front _ _ _ _ _ next c.loop-p.invariant c.in_err-put_line.ensures c.from_residual.ensures.1

pub returns : goal.returns
returns g c =
    let le : length c.args.choices.now ≤ c.loop-p.p = omega arith in
    out_all tt (no_number_left (process_of c.args.choices.now c.args.incarnations.now
    c.args.states.now) (length c.args.choices.now) c.loop-p.p le) c.loop-p.invariant
