-- Both floors are as one, and there are numbers for it.
use Rattle.std.proofs.Common.{◌≡◌, ℕ, ◌+◌, ◌≤◌, List, length, sym, ap, ◌∙◌, subst}
use Rattle.std.specs.List.{All}
use Rattle.std.specs.Prelude.{IfSome}
use Rattle.std.proofs.lemmas.Bool.{false≢true}
use Rattle.std.proofs.lemmas.List.{length-map}
use Rattle.std.proofs.lemmas.List.FromFn.{length-map-range_with_len}
use Rattle.line_names.specs.declared.choices.Choice.TheVariants.{Check as AtCheck}
use Rattle.line_tape.specs.Fit.{IsFitUnordered}
use Rattle.line_tape.specs.History.{Process}
use Rattle.line_laws.proofs.OrderLemmas.{ordered_fit}
use Rattle.line_tape.specs.declared.modes.Mode.{Mode}
use Rattle.line_tape.specs.declared.modes.Mode.TheVariants.{Fifo}
use Rattle.line_moves.specs.Listed.{ListedRound}
use Rattle.line_moves.specs.Modes.{IsFitIn}
use Rattle.line_world.specs.Machine.{Machine}
use Rattle.line_cuts.specs.Cuts.{Floor, FloorSurvives, IsFloor, floor_check, lost_checks}
use Rattle.line_cuts.specs.Cuts.{lost_sends, whole_floor}
use Rattle.line_cuts.proofs.LatestCuts.{length_history}
use Rattle.line_cuts.specs.Floors.{HasNumbers}
use Rattle.line_live.specs.Lives.{LetsGo, LiveMachine}
use Rattle.line_live.specs.Resumed.{AreChecks, HasFloor}
use Rattle.line_live.proofs.HeldFloors.{moved_on}
use Rattle.line_live.proofs.HeldForgets.{rounds_checked}
use Rattle.line_live.proofs.LiveSteps.{living}
use Rattle.line_live.proofs.lives.Live.let_go.Goals as goal

pub returns-clause-done : goal.returns-clause-done
returns-clause-done c = λ _.
    let floor : Floor = c.self.inside.floor in
    let kept : Machine = c.self.inside.world in
    let later : Floor = c.args.later.now in
    let value : c.in-Some.floor ≡ whole_floor floor later = subst (λ o. IfSome o (λ (whole : Floor).
    whole ≡ whole_floor floor later)) c.in-Some.is c.in_ok-floor.ensures.value in
    subst (λ (m : LiveMachine). LetsGo m later (living c.in-Some.floor c.in_ok-world.world))
    c.self.view_is (record {
      numbers = subst HasNumbers value (c.has_numbers.ensures.yes c.if-not-has_numbers.false);
      floor_is = value;
      kept = c.in_ok-world.ensures;
    })

pub invariant_of-self : goal.invariant_of-self
invariant_of-self c =
    let floor : Floor = c.self.inside.floor in
    let kept : Machine = c.self.inside.world in
    let new : Machine = c.in_ok-world.world in
    let later : Floor = c.args.later.now in
    let value : c.in-Some.floor ≡ whole_floor floor later = subst (λ o. IfSome o (λ (whole : Floor).
    whole ≡ whole_floor floor later)) c.in-Some.is c.in_ok-floor.ensures.value in
    let live : living floor kept ≡ c.args.self.now = c.self.view_is in
    let size : length new.history ≡ length kept.history = ap (λ (h : List Process). length h)
    c.in_ok-world.ensures.history ∙ length_history later kept.history in
    let count : length c.args.self.now.kept.history ≡ length new.history = ap
    (λ (m : LiveMachine). length m.kept.history) (sym live) ∙ sym size in
    let mode : kept.mode ≡ Fifo = ap (λ (m : LiveMachine). m.kept.mode) live ∙ c.requires.fifo in
    let fit : IsFitUnordered kept.history = ordered_fit kept.history
    (subst (λ (m : Mode). IsFitIn m kept.history) mode c.history-history.ensures.fit) in
    record {
      numbers = c.has_numbers.ensures.yes c.if-not-has_numbers.false;
      of_all = record {
        checks = ap (λ (f : Floor). length f.checks) value ∙ length-map-range_with_len
            (λ p. floor_check later p + lost_checks floor p) 0 (length later.checks)
            ∙ sym (length-map later.checks (λ i. AtCheck i)) ∙ c.requires.floor.line.length_is ∙
            count;
        sends = ap (λ (f : Floor). length f.sends) value ∙ length-map-range_with_len
            (λ p. lost_sends floor p + lost_sends later p) 0
            (length later.sends) ∙ c.requires.count ∙ count;
      };
      none = λ e. absurd (false≢true (sym e));
      fifo = λ _. c.in_ok-world.ensures.mode ∙ mode;
      held = subst (HasFloor new.history new.marks) (sym value)
          (moved_on floor later kept.history kept.marks fit
          (subst (λ (m : LiveMachine). IsFloor m.kept.history later) (sym live) c.requires.floor)
          (subst (λ (m : LiveMachine). FloorSurvives m.kept.history m.kept.marks later)
          (sym live) c.requires.stays)
          (subst (λ (m : LiveMachine). (p : ℕ) → 1 ≤ floor_check m.floor p
          → 1 ≤ floor_check later p) (sym live) c.requires.further)
          new.history new.marks c.in_ok-world.ensures.history c.in_ok-world.ensures.marks);
      checked = subst
          (λ (rounds : List ListedRound). All
          (λ (round : ListedRound). AreChecks round.checks) rounds) (sym
          c.in_ok-world.ensures.rounds) (rounds_checked later kept.rounds c.self.invariant.checked);
    }
