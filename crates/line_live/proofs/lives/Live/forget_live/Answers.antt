-- The floor that is found has a count of sends for each process, and is at no process before the
-- one
-- that what is kept has.
use Rattle.std.proofs.Common.{ℕ, ◌≤◌, length, ap, ◌∙◌, subst}
use Rattle.line_cuts.specs.Cuts.{floor_check, FloorSurvives}
use Rattle.line_live.specs.Forgets.{IsFloorWhereAllFail}
use Rattle.line_live.specs.Lives.{LiveMachine}
use Rattle.line_live.proofs.HeldForgets.{live_further}
use Rattle.line_live.proofs.ResumedLemmas.{found_sends}
use Rattle.line_live.proofs.lives.Live.forget_live.Goals as goal

pub let_go-requires-clause-stays : goal.let_go-requires-clause-stays
let_go-requires-clause-stays c = subst (λ (m : LiveMachine). FloorSurvives m.kept.history
    m.kept.marks c.in_ok-later.later) c.self.view_is c.in_ok-later.ensures.floor.stays

pub let_go-requires-clause-count : goal.let_go-requires-clause-count
let_go-requires-clause-count c =
    let found : IsFloorWhereAllFail c.self.inside.world c.in_ok-later.later =
    c.in_ok-later.ensures.floor in
    found_sends c.in_ok-later.later c.self.inside.world.history found.line
    c.self.inside.world.last_round found.value ∙ ap
    (λ (m : LiveMachine). length m.kept.history) c.self.view_is

pub let_go-requires-clause-further : goal.let_go-requires-clause-further
let_go-requires-clause-further c =
    subst (λ (m : LiveMachine). (p : ℕ) → 1 ≤ floor_check m.floor p
    → 1 ≤ floor_check c.in_ok-later.later p) c.self.view_is
    (live_further c.self.inside.floor c.self.inside.forgot c.self.inside.world c.in_ok-later.later
    c.self.invariant c.in_ok-later.ensures.floor)
