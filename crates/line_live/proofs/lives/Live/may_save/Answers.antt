-- What the machine shows is what it may be opened of.
use Rattle.std.proofs.Common.{map, sym, ◌∙◌, subst}
use Rattle.line_world.specs.Machine.{Machine}
use Rattle.line_cuts.specs.Cuts.{Floor}
use Rattle.line_live.specs.Lives.{LiveMachine}
use Rattle.line_live.specs.Resumed.{checks_in_round, IsResumable}
use Rattle.line_live.proofs.lives.Live.may_save.Goals as goal

pub returns-else-is_open-clause-resumable : goal.returns-else-is_open-clause-resumable
returns-else-is_open-clause-resumable c =
    let floor : Floor = c.self.inside.floor in
    let kept : Machine = c.self.inside.world in
    let is : IsResumable kept.history kept.marks floor kept.last_round
    (map checks_in_round kept.rounds) = record {
      of_all = c.self.invariant.of_all;
      numbers = c.self.invariant.numbers;
      order = c.look_at_rounds.ensures.order;
      idle = c.look_at_rounds.ensures.idle (sym c.mode.ensures.value ∙ c.in-Fifo.is)
          (sym c.is_open.ensures ∙ c.if-is_open.false);
      held = c.self.invariant.held;
      consistent = c.look_at_rounds.ensures.consistent;
    } in
    subst (λ (m : LiveMachine). IsResumable m.kept.history m.kept.marks m.floor m.kept.last_round
    (map checks_in_round m.kept.rounds)) c.self.view_is is
