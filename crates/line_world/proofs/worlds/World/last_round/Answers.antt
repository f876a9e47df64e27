-- What is kept of rounds says so.
use Rattle.std.proofs.Common.{ℕ, ◌+◌, ◌≤◌, ◌≡◌, ◌∙◌, false, subst, ap, arith}
use Rattle.std.specs.Option.{is_some}
use Rattle.std.specs.Prelude.{IsTrue}
use Rattle.line_tape.specs.History.{tape_at}
use Rattle.line_tape.specs.Rounds.{has_check_of}
use Rattle.line_moves.specs.Openings.{first_unlisted}
use Rattle.line_moves.specs.Worlds.{AreNumbered}
use Rattle.line_moves.proofs.OpeningLemmas.{first_most, open_told, AreNumbered-weaker}
use Rattle.line_tape.specs.declared.modes.Mode.TheVariants.{Fifo}
use Rattle.line_world.specs.declared.worlds.World.TheInside.{Inside}
use Rattle.line_world.specs.Idle.{IsIdle}
use Rattle.line_world.specs.Machine.{Machine, is_open}
use Rattle.line_world.specs.Protocols.{mode_of, open_round_of}
use Rattle.line_world.proofs.ResumeLemmas.{shut_idle}
use Rattle.line_world.proofs.KnownFacts.{shown, IsKept}
use Rattle.line_world.proofs.worlds.World.last_round.Goals as goal

pub returns-clause-greatest : goal.returns-clause-greatest
returns-clause-greatest c =
    subst (λ (m : Machine). (p r : ℕ) → IsTrue (has_check_of r (tape_at m.history p))
    → r ≤ m.last_round) c.self.view_is c.self.invariant.1.numbers

pub returns-clause-numbered : goal.returns-clause-numbered
returns-clause-numbered c =
    let w : Inside = c.self.inside in
    subst (λ (m : Machine). AreNumbered (m.last_round + 1) m.rounds) c.self.view_is
    (AreNumbered-weaker (first_unlisted (open_round_of w.protocol) w.last_round)
    (w.last_round + 1) w.rounds.items (let most = first_most
    (open_round_of w.protocol) w.last_round in omega (arith, most)) c.self.invariant.1.numbered)

idle_kept : (w : Inside) (machine : Machine) → shown w ≡ machine → IsKept w → machine.mode ≡ Fifo
    → is_open machine ≡ false → IsIdle machine.history machine.last_round
idle_kept w machine view kept fifo shut =
    let told : is_some (open_round_of w.protocol) ≡ is_open machine =
    open_told (mode_of w.protocol) w.catalogue.processes w.last_round
    (open_round_of w.protocol) kept.1.opening kept.1.unfinished ∙ ap is_open view in
    subst (λ (m : Machine). IsIdle m.history m.last_round) view
    (shut_idle (mode_of w.protocol) w.catalogue.processes w.last_round
    (open_round_of w.protocol) w.links w.rounds.items
    (ap (λ (m : Machine). m.mode) view ∙ fifo) kept.0 kept.1 (told ∙ shut))

pub returns-clause-idle : goal.returns-clause-idle
returns-clause-idle c =
    λ fifo shut. idle_kept c.self.inside c.args.self.now c.self.view_is c.self.invariant fifo shut
