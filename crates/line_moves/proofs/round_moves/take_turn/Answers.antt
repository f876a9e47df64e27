-- The check agrees, and what was counted before it is what is in transit at the round's checks with
-- it.
use Rattle.std.proofs.Common.{◌≡◌, ℕ, false, List, length, Option, Some, sym, ap, ◌∙◌, subst, arith}
use Rattle.std.specs.Prelude.{All}
use Rattle.line_names.specs.declared.messages.MsgName.{MsgName}
use Rattle.line_tape.specs.declared.events.Event.{Event}
use Rattle.line_tape.specs.declared.events.Event.TheVariants.{Check}
use Rattle.line_tape.specs.History.{Process, tape_at, with_event}
use Rattle.line_tape.specs.Rounds.{has_check_of}
use Rattle.line_rounds.specs.Turning.{IsTurning}
use Rattle.line_moves.specs.Listed.{IsSnapshotOf}
use Rattle.line_moves.specs.Openings.{IsCountedAtRound}
use Rattle.line_moves.proofs.AgreeLemmas.{AgreesNext-check}
use Rattle.line_moves.proofs.round_moves.take_turn.Goals as goal

pub count_channels-requires-clause-at : goal.count_channels-requires-clause-at
count_channels-requires-clause-at c = omega
    (arith, c.requires.at, ap (λ (h : List Process). length h) c.in_ok-reserve.ensures.processes)

pub count_channels-requires-clause-first : goal.count_channels-requires-clause-first
count_channels-requires-clause-first c =
    subst (λ (h : List Process). has_check_of c.args.turning.now.number
    (tape_at h c.args.turn.now.at) ≡ false) (sym c.in_ok-reserve.ensures.processes) c.requires.first

pub count_channels-requires-clause-turning : goal.count_channels-requires-clause-turning
count_channels-requires-clause-turning c = subst (λ (h : List Process). IsTurning h
    c.args.turning.now) (sym c.in_ok-reserve.ensures.processes) c.requires.turning

pub append-requires-clause-agrees : goal.append-requires-clause-agrees
append-requires-clause-agrees c =
    let kept : c.count_channels.new.catalogue.processes ≡ c.args.catalogue.now.processes =
    c.in_ok-channels.ensures.processes ∙ c.in_ok-reserve.ensures.processes in
    AgreesNext-check c.count_channels.new.catalogue.processes c.history.ensures.agrees
    c.args.turn.now.at (omega (arith, c.requires.at, ap (λ (h : List Process). length h) kept))
    c.of-state.result (Some c.number-number.result)

pub count_channels-requires-clause-rounds : goal.count_channels-requires-clause-rounds
count_channels-requires-clause-rounds c = subst (λ (h : List Process). All
    (IsSnapshotOf h) c.args.rounds.now) (sym c.in_ok-reserve.ensures.processes) c.requires.rounds

pub returns-clause-channels : goal.returns-clause-channels
returns-clause-channels c =
    let history : List Process = c.args.catalogue.now.processes in
    let at : ℕ = c.args.turn.now.at in
    let state : List ℕ = c.of-state.result in
    let r : ℕ = c.args.turning.now.number in
    let e : Event = Check state (Some r) in
    let told : Option (List (List (List MsgName))) = c.in_ok-channels.channels in
    let kept : c.count_channels.new.catalogue.processes
    ≡ history = c.in_ok-channels.ensures.processes ∙ c.in_ok-reserve.ensures.processes in
    let done : c.append.new.self.processes ≡ with_event history at e =
    c.append.ensures.processes ∙ ap
    (λ (h : List Process). with_event h at (Check state (Some c.number-number.result))) kept
    ∙ ap (λ (v : ℕ). with_event history at (Check state (Some v))) c.number-number.ensures in
    subst (λ (v : ℕ). IsCountedAtRound c.append.new.self.processes v told)
    (sym c.check.ensures.number)
    (subst (λ (h : List Process). IsCountedAtRound h r told) (sym done)
    (subst (λ (h : List Process). IsCountedAtRound (with_event h at e) r told)
    c.in_ok-reserve.ensures.processes (c.in_ok-channels.ensures.channels state)))
