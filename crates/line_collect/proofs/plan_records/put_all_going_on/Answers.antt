use Rattle.std.proofs.Common.{◌≡◌, ◌<◌, ◌≤◌, ℕ, List, length, ap, ◌∙◌, arith}
use Rattle.line_devices.proofs.OutputLemmas.{out_all, out_front, out_more, out_none}
use Rattle.line_fields.specs.Records.{Record}
use Rattle.line_fields.proofs.OutletLemmas.{no_number_left, number_left}
use Rattle.line_tape.specs.History.{Process}
use Rattle.line_collect.specs.Collections.{CollectionView}
use Rattle.line_collect.specs.LiveAnswers.{live_going_on_record}
use Rattle.line_collect.proofs.plan_records.put_all_going_on.Goals as goal

count : (n : ℕ) (history : List Process) (kept there : CollectionView) → n ≡ length history
    → history ≡ kept.history → kept ≡ there → n ≡ length there.history
count n history kept there is same lent = is ∙ ap (λ (h : List Process). length h) same ∙ ap
    (λ (k : CollectionView). length k.history) lent

pub loop-p-init : goal.loop-p-init
loop-p-init g c = out_none _ _ _ _

pub loop-p-preserved : goal.loop-p-preserved
loop-p-preserved g c =
    let f : ℕ → Record = live_going_on_record c.args.live.now c.args.line.now in
    let lt : c.loop-p.p < length c.args.live.now.kept.history = omega
    (arith, count _ _ _ _ c.n-n.ensures.value c.history.ensures.value c.kept.ensures) in
    let next = number_left f (length c.args.live.now.kept.history) c.loop-p.p lt in
    out_more _ _ next c.loop-p.invariant (rw c.in-Ok.ensures.1 at c.in_ok-put_going_on.ensures)

pub returns-in_err-put_going_on : goal.returns-in_err-put_going_on
returns-in_err-put_going_on g c =
    let f : ℕ → Record = live_going_on_record c.args.live.now c.args.line.now in
    let lt : c.loop-p.p < length c.args.live.now.kept.history = omega
    (arith, count _ _ _ _ c.n-n.ensures.value c.history.ensures.value c.kept.ensures) in
    let next = number_left f (length c.args.live.now.kept.history) c.loop-p.p lt in
    out_front _ _ _ _ _ next c.loop-p.invariant
    (rw c.in-Ok.ensures.1 at c.in_err-put_going_on.ensures) c.from_residual.ensures.1

pub returns : goal.returns
returns g c =
    let le : length c.args.live.now.kept.history ≤ c.loop-p.p = omega
    (arith, count _ _ _ _ c.n-n.ensures.value c.history.ensures.value c.kept.ensures) in
    out_all tt (no_number_left (live_going_on_record c.args.live.now c.args.line.now)
    (length c.args.live.now.kept.history) c.loop-p.p le) c.loop-p.invariant
