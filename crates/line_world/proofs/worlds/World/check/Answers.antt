-- No queue changes, and no link does; and no round is completed.
use Rattle.std.proofs.Common.{◌≡◌, ◌<◌, ℕ, List, [], ◌∷◌, None, refl, subst, ap, ◌∙◌, length, arith}
use Rattle.std.proofs.Common.{Option}
use Rattle.std.proofs.lemmas.Grind.{common_steps}
use Rattle.line_tape.specs.declared.events.Event.{Event}
use Rattle.line_tape.specs.declared.events.Event.TheVariants.{Check as CheckEvent}
use Rattle.line_tape.specs.History.{Process, with_event}
use Rattle.line_world.specs.declared.replies.Reply.TheVariants.{Checked}
use Rattle.line_tape.specs.declared.modes.Mode.{Mode}
use Rattle.line_tape.specs.declared.steps.Step.TheVariants.{Check}
use Rattle.line_moves.specs.Listed.{ListedRound}
use Rattle.line_world.specs.Machine.{Machine}
use Rattle.line_world.specs.Refusals.{refusal_of}
use Rattle.line_world.specs.Steps.{Does}
use Rattle.line_moves.specs.Openings.{OpenView}
use Rattle.line_world.proofs.DeliverLemmas.{quiet_seen}
use Rattle.line_moves.proofs.OpeningLemmas.{AreRounds-kept, IsOpening-kept, none_listed}
use Rattle.line_world.specs.declared.worlds.World.TheInside.{Inside}
use Rattle.line_world.specs.Protocols.{mode_of, open_round_of}
use Rattle.line_world.proofs.KnownFacts.{kept_with}
use Rattle.line_world.proofs.PaintLemmas.{IsFollowing-check}
use Rattle.line_moves.proofs.WorldLemmas.{IsWorld-check}
use Rattle.line_world.proofs.SeenLemmas.{seen}
use Rattle.line_world.proofs.worlds.World.check.Goals as goal

pub invariant_of-self-2 : goal.invariant_of-self-2
invariant_of-self-2 c =
    let w : Inside = c.self.inside in
    let running : Option OpenView = open_round_of w.protocol in
    let history : List Process = w.catalogue.processes in
    let mode : Mode = mode_of w.protocol in
    let e : Event = CheckEvent c.of.result None in
    let within : c.args.at < length history = omega
    (arith, ap (λ (h : List Process). length h) c.history-history.ensures.processes) in
    kept_with mode running w.protocol refl refl c.add_check.new.catalogue.processes (with_event
    history c.args.at e) c.in_ok-check.ensures.checked w.links w.last_round w.rounds.items
    (IsWorld-check history w.links mode c.self.invariant.0 c.args.at c.of.result within)
    (AreRounds-kept history c.args.at e within (λ r. refl)
    (λ r p. refl) mode w.last_round running running w.rounds.items refl
    (IsOpening-kept history c.args.at e within (λ r. refl) mode running (λ r p. refl)
    (λ r p. refl) c.self.invariant.1.opening) c.self.invariant.1)
    (IsFollowing-check history w.links w.protocol c.self.invariant.0 c.args.at c.of.result within
    c.self.invariant.2)

pub returns-clause-done : goal.returns-clause-done
returns-clause-done c =
    let none : refusal_of c.args.self.now (Check c.args.at c.args.state.now)
    ≡ None = grind (arith, common_steps) in
    let history : List Process = c.self.inside.catalogue.processes in
    let mode : Mode = mode_of c.self.inside.protocol in
    let last : ℕ = c.self.inside.last_round in
    let rounds : List ListedRound = c.self.inside.rounds.items in
    let e : Event = CheckEvent c.args.state.now None in
    let within : c.args.at < length history = omega
    (arith, ap (λ (h : List Process). length h) c.history-history.ensures.processes) in
    let after : Machine = seen mode c.add_check.new.catalogue.processes
    c.add_check.new.catalogue.marks last rounds c.self.inside.links in
    let done : c.add_check.new.catalogue.processes
    ≡ with_event history c.args.at e = c.in_ok-check.ensures.checked ∙ ap
    (λ (bytes : List ℕ). with_event history c.args.at (CheckEvent bytes None))
    (c.of.ensures ∙ c.in_ok-bytes.ensures.items) in (
      none,
      subst (λ (m : Machine). Does m (Check c.args.at c.args.state.now)
          (Checked c.args.at c.in_ok-check.check) after) c.self.view_is (
            ap (λ (k : ℕ). Checked c.args.at k) c.in_ok-check.ensures.check,
            quiet_seen mode history c.add_check.new.catalogue.processes
                c.self.inside.catalogue.marks
                c.add_check.new.catalogue.marks last rounds c.self.inside.links c.self.inside.links
                c.args.at (e ∷ []) done c.in_ok-check.ensures.marks refl
                (none_listed history c.args.at e within (λ r. refl) (λ r p. refl) mode last),
          ),
    )
