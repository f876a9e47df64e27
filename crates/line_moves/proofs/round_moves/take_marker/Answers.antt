-- Only the marker of the round that is open has a process take its check.
use Rattle.std.proofs.Common.{◌≡◌, ℕ, true, List, [], ◌∷◌, Some, None, length, rules, ap, ◌∙◌}
use Rattle.std.proofs.Common.{subst, sym, arith}
use Rattle.std.proofs.lemmas.Result.{on_ok_weaker}
use Rattle.line_tape.specs.declared.events.Event.TheVariants.{Check, Mark}
use Rattle.line_tape.specs.declared.items.Item.{Item}
use Rattle.line_tape.specs.declared.items.Item.TheVariants.{Marker}
use Rattle.line_tape.specs.History.{Process, tape_at, with_event}
use Rattle.line_tape.specs.Rounds.{has_check_of}
use Rattle.line_tape.specs.declared.modes.Mode.TheVariants.{Fifo}
use Rattle.line_moves.specs.Fates.{is_forced, marker_events}
use Rattle.line_moves.specs.Moves.{with_events}
use Rattle.line_moves.specs.Openings.{OpenView, IsOnlyOpen, IsRecording, IsRunning}
use Rattle.line_moves.specs.Worlds.{IsWorld}
use Rattle.line_moves.proofs.AgreeLemmas.{AgreesNext-mark}
use Rattle.line_moves.proofs.OpenFacts.{either_way}
use Rattle.line_moves.proofs.OpeningLemmas.{forced_none, forced_number, forced_open}
use Rattle.line_moves.proofs.OpeningLemmas.{IsRunning-forced, IsRunning-renewed}
use Rattle.line_moves.proofs.WorldLemmas.{marker_sent, IsWorld-mark}
use Rattle.line_moves.proofs.round_moves.take_marker.Goals as goal

pub force_round-requires-clause-first : goal.force_round-requires-clause-first
force_round-requires-clause-first c =
    let history : List Process = c.args.catalogue.now.processes in
    let from : ℕ = c.args.marker.now.from in
    let to : ℕ = c.args.marker.now.to in
    let round : ℕ = c.args.marker.now.round in
    let none = forced_none history to round (sym c.requires.forced ∙ c.if-marker.true) in
    let opening : IsRunning Fifo history c.in-Some.kept = subst
    (IsOnlyOpen Fifo history) c.in-Some.is c.requires.opening in
    let sent = marker_sent history c.args.links.now c.requires.world from to round c.requires.from
    c.requires.to c.requires.other c.requires.marker in
    ap (λ (v : ℕ). has_check_of v (tape_at history to)) (forced_number history c.in-Some.kept from
    to round opening sent none c.requires.to) ∙ none

pub force_round-requires-clause-marker : goal.force_round-requires-clause-marker
force_round-requires-clause-marker c =
    let history : List Process = c.args.catalogue.now.processes in
    let from : ℕ = c.args.marker.now.from in
    let to : ℕ = c.args.marker.now.to in
    let round : ℕ = c.args.marker.now.round in
    let none = forced_none history to round (sym c.requires.forced ∙ c.if-marker.true) in
    let opening : IsRunning Fifo history c.in-Some.kept = subst
    (IsOnlyOpen Fifo history) c.in-Some.is c.requires.opening in
    let sent = marker_sent history c.args.links.now c.requires.world from to round c.requires.from
    c.requires.to c.requires.other c.requires.marker in
    c.requires.marker ∙ ap (λ (v : ℕ). Some (Marker v)) (sym (forced_number history c.in-Some.kept
    from to round opening sent none c.requires.to))

pub unreachable-requires : goal.unreachable-requires
unreachable-requires c =
    let history : List Process = c.args.catalogue.now.processes in
    let from : ℕ = c.args.marker.now.from in
    let to : ℕ = c.args.marker.now.to in
    let round : ℕ = c.args.marker.now.round in
    let none = forced_none history to round (sym c.requires.forced ∙ c.if-marker.true) in
    let opening : IsOnlyOpen Fifo history None = subst
    (IsOnlyOpen Fifo history) c.in-None.is c.requires.opening in
    let sent = marker_sent history c.args.links.now c.requires.world from to round c.requires.from
    c.requires.to c.requires.other c.requires.marker in
    forced_open history from to round opening sent none c.requires.to

pub returns-then-marker-clause-taken : goal.returns-then-marker-clause-taken
returns-then-marker-clause-taken c =
    let history : List Process = c.args.catalogue.now.processes in
    let from : ℕ = c.args.marker.now.from in
    let to : ℕ = c.args.marker.now.to in
    let round : ℕ = c.args.marker.now.round in
    let forced : is_forced history to round ≡ true = sym c.requires.forced ∙ c.if-marker.true in
    let none = forced_none history to round forced in
    let opening : IsRunning Fifo history c.in-Some.kept = subst
    (IsOnlyOpen Fifo history) c.in-Some.is c.requires.opening in
    let sent = marker_sent history c.args.links.now c.requires.world from to round c.requires.from
    c.requires.to c.requires.other c.requires.marker in
    let number = forced_number history c.in-Some.kept from to round opening sent none
    c.requires.to in
    on_ok_weaker c.force_round.result (λ taken. taken
    ∙ ap (λ (v : ℕ). with_events history to
    (Check c.args.state.now (Some v) ∷ Mark from v ∷ [])) number
    ∙ ap (λ b. with_events history to (marker_events b from c.args.state.now round)) (sym forced))
    c.force_round.ensures.taken

pub returns-then-marker-clause-opening : goal.returns-then-marker-clause-opening
returns-then-marker-clause-opening c =
    let history : List Process = c.args.catalogue.now.processes in
    let kept : OpenView = c.in-Some.kept in
    let new : OpenView = c.force_round.new.running in
    let after : List Process = c.force_round.new.catalogue.processes in
    let opening : IsRunning Fifo history kept = subst
    (IsOnlyOpen Fifo history) c.in-Some.is c.requires.opening in
    either_way c.force_round.result
    (λ taken. subst (λ (h : List Process). IsRunning Fifo h new) (sym taken)
    (IsRunning-forced Fifo history c.args.marker.now.to c.args.marker.now.from kept.number
    c.args.state.now new c.requires.to c.force_round.ensures.number opening.others
    (subst (λ (h : List Process). IsRecording h new) taken c.force_round.ensures.recording)))
    (λ same. subst (λ (h : List Process). IsRunning Fifo h new) (sym same)
    (IsRunning-renewed Fifo history kept new c.force_round.ensures.number opening
    (subst (λ (h : List Process). IsRecording h new) same c.force_round.ensures.recording)))
    c.force_round.ensures.taken c.force_round.ensures.err

pub append_mark-requires-clause-agrees : goal.append_mark-requires-clause-agrees
append_mark-requires-clause-agrees c =
    AgreesNext-mark c.reserve.new.self.processes c.history.ensures.agrees c.args.marker.now.to
    (omega (
      arith,
      c.requires.to,
      ap (λ (h : List Process). length h)
          c.in_ok-reserve.ensures.processes,
    )) c.args.marker.now.from c.args.marker.now.round

pub returns-clause-world : goal.returns-clause-world
returns-clause-world c =
    let history : List Process = c.args.catalogue.now.processes in
    let from : ℕ = c.args.marker.now.from in
    let to : ℕ = c.args.marker.now.to in
    let round : ℕ = c.args.marker.now.round in
    let begun : has_check_of round (tape_at history to) ≡ true = search rules in
    let after = c.append_mark.ensures.processes ∙ ap (λ (h : List Process). with_event h to
    (Mark from round)) c.in_ok-reserve.ensures.processes in
    subst (λ (h : List Process). IsWorld Fifo h c.drop_first.new.self) (sym after)
    (subst (λ (q : List (List (List Item))). IsWorld Fifo
    (with_event history to (Mark from round)) q) (sym c.drop_first.ensures)
    (IsWorld-mark history c.args.links.now c.requires.world from to round c.requires.from
    c.requires.to c.requires.other c.requires.marker begun))
