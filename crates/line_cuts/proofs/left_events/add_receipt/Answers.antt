use Rattle.std.proofs.Common.{◌≡◌, refl, sym, ap, ◌∙◌}
use Rattle.std.proofs.lemmas.Result.{on_ok_weaker}
use Rattle.line_tape.specs.declared.events.Event.TheVariants.{Recv}
use Rattle.line_tape.specs.History.{with_event}
use Rattle.line_cuts.specs.Cuts.{cut_name}
use Rattle.line_cuts.proofs.AddedLemmas.{adds_none, adds_one, receipt_gone, receipt_left}
use Rattle.line_cuts.proofs.left_events.add_receipt.Goals as goal

pub returns-then-not-is_left : goal.returns-then-not-is_left
returns-then-not-is_left c =
    adds_none _ _ _ _ _ _ _ refl
    (receipt_gone c.args.floor.now c.args.place.now.process c.args.place.now.number
    c.args.place.now.skip c.args.message.now (sym c.is_left.ensures ∙ c.if-not-is_left.true))

pub returns : goal.returns
returns c =
    let same_name : Recv c.cut_name-left.result
    ≡ Recv (cut_name c.args.floor.now c.args.message.now) = ap Recv c.cut_name-left.ensures in
    on_ok_weaker c.push_receipt.result (λ same.
    adds_one _ _ _ _ _ _ _ (Recv (cut_name c.args.floor.now c.args.message.now)) c.requires.process
    (same ∙ ap (with_event c.args.cut.now.processes c.args.place.now.process) same_name)
    (receipt_left c.args.floor.now c.args.place.now.process c.args.place.now.number
    c.args.place.now.skip c.args.message.now (sym c.is_left.ensures ∙ c.if-not-is_left.false)))
    c.push_receipt.ensures
