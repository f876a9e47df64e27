use Rattle.std.proofs.Common.{refl, arith}
use Rattle.std.proofs.lemmas.Result.{on_ok_weaker}
use Rattle.line_tape.specs.declared.events.Event.TheVariants.{Mark}
use Rattle.line_cuts.proofs.AddedLemmas.{adds_none, adds_one, mark_gone, mark_left}
use Rattle.line_cuts.proofs.left_events.add_mark.Goals as goal

pub returns-then-round-last : goal.returns-then-round-last
returns-then-round-last c =
    adds_none _ _ _ _ _ _ _ refl
    (mark_gone c.args.floor.now c.args.place.now.process c.args.place.now.number
    c.args.place.now.skip c.args.from c.args.round (omega (arith, c.round-last.ensures)))

pub returns : goal.returns
returns c =
    on_ok_weaker c.push_mark.result (λ same.
    adds_one _ _ _ _ _ _ _ (Mark c.args.from c.args.round) c.requires.process same
    (mark_left c.args.floor.now c.args.place.now.process c.args.place.now.number
    c.args.place.now.skip c.args.from c.args.round (omega (arith, c.round-last.ensures))))
    c.push_mark.ensures
