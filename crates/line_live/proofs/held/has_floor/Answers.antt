-- The line of the checks that processes begin with is one, and they survive: whether it is
-- consistent
-- is whether what is kept has the floor.
use Rattle.std.proofs.Common.{◌↔◌, IsTrue, Bool, List}
use Rattle.std.proofs.lemmas.Result.{IfOk-weaker}
use Rattle.line_names.specs.declared.choices.Choice.{Choice}
use Rattle.line_tape.specs.History.{Process}
use Rattle.line_tape.specs.Line.{IsConsistent}
use Rattle.line_tape.specs.Views.{MarksView}
use Rattle.line_cuts.specs.Cuts.{Floor}
use Rattle.line_live.specs.Resumed.{HasFloor}
use Rattle.line_live.proofs.HeldFloors.{held_where}
use Rattle.line_live.proofs.held.has_floor.Goals as goal

pub returns : goal.returns
returns c =
    let history : List Process = c.args.catalogue.now.processes in
    let marks : MarksView = c.args.catalogue.now.marks in
    let floor : Floor = c.args.floor.now in
    let line : List Choice = c.kept_line-line.result in
    IfOk-weaker c.is_consistent_at.result (λ (b : Bool). IsTrue b ↔ IsConsistent history line)
    (λ (b : Bool). IsTrue b ↔ HasFloor history marks floor)
    (λ b both. held_where floor history c.history.result.now.processes marks line
    c.history.ensures.processes c.kept_line-line.ensures
    (c.is_line.ensures.0 c.if-not-is_line.false)
    (c.does_survive.ensures.0 c.if-not-does_survive.false) b both)
    c.is_consistent_at.ensures
