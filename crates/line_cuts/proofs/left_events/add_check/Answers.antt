use Rattle.std.proofs.Common.{◌≡◌, ℕ, refl, ap, ◌∙◌, arith}
use Rattle.std.proofs.lemmas.Result.{on_ok_weaker}
use Rattle.line_tape.specs.declared.events.Event.TheVariants.{Check}
use Rattle.line_tape.specs.History.{with_event}
use Rattle.line_cuts.specs.Cuts.{cut_round}
use Rattle.line_cuts.proofs.AddedLemmas.{adds_none, adds_one, check_gone, check_left}
use Rattle.line_cuts.proofs.left_events.add_check.Goals as goal

pub returns-then-skip-gt1 : goal.returns-then-skip-gt1
returns-then-skip-gt1 c =
    adds_none _ _ _ _ _ _ _ refl
    (check_gone c.args.floor.now c.args.place.now.process c.args.place.now.number
    c.args.place.now.skip c.args.state.now c.args.round (omega arith))

pub returns : goal.returns
returns c =
    let round : c.cut_round-left.result ≡ cut_round c.args.floor.now.round c.args.round =
    c.cut_round-left.ensures ∙ ap (λ (last : ℕ). cut_round last c.args.round) c.round.ensures in
    on_ok_weaker c.push_check.result (λ same.
    adds_one _ _ _ _ _ _ _
    (Check c.args.state.now (cut_round c.args.floor.now.round c.args.round)) c.requires.process
    (same ∙ ap (λ r. with_event c.args.cut.now.processes c.args.place.now.process
    (Check c.args.state.now r)) round)
    (check_left c.args.floor.now c.args.place.now.process c.args.place.now.number
    c.args.place.now.skip c.args.state.now c.args.round (omega arith))) c.push_check.ensures
