-- The floor that is found has a count of sends for each process, and none that began with a check
-- comes back to its initial state: no check of a listed round is one.
use Rattle.std.proofs.Common.{ℕ, ◌≤◌, length, ap, ◌∙◌, subst}
use Rattle.line_tape.specs.Rounds.{check_line}
use Rattle.line_cuts.specs.Cuts.{floor_check, FloorSurvives}
use Rattle.line_live.specs.Forgets.{IsFloorOfRound}
use Rattle.line_live.specs.Lives.{LiveMachine}
use Rattle.line_live.proofs.HeldForgets.{round_further}
use Rattle.line_live.proofs.ResumedLemmas.{found_sends}
use Rattle.line_live.proofs.lives.Live.forget.Goals as goal

pub let_go-requires-clause-stays : goal.let_go-requires-clause-stays
let_go-requires-clause-stays c = subst (λ (m : LiveMachine). FloorSurvives m.kept.history
    m.kept.marks c.in_ok-later.later) c.self.view_is c.in_ok-later.ensures.floor.at.stays

pub let_go-requires-clause-count : goal.let_go-requires-clause-count
let_go-requires-clause-count c =
    let found : IsFloorOfRound c.self.inside.world c.args.round c.in_ok-later.later =
    c.in_ok-later.ensures.floor in
    found_sends c.in_ok-later.later c.self.inside.world.history
    (check_line found.round.checks) c.self.inside.world.last_round found.at.value ∙ ap
    (λ (m : LiveMachine). length m.kept.history) c.self.view_is

pub let_go-requires-clause-further : goal.let_go-requires-clause-further
let_go-requires-clause-further c =
    subst (λ (m : LiveMachine). (p : ℕ) → 1 ≤ floor_check m.floor p
    → 1 ≤ floor_check c.in_ok-later.later p) c.self.view_is
    (round_further c.self.inside.floor c.self.inside.forgot c.self.inside.world c.args.round
    c.in_ok-later.later c.self.invariant c.in_ok-later.ensures.floor)
