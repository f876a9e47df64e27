-- The check and the mark agree, its marker is on each link, and the one that came is off its link.
use Rattle.std.proofs.Common.{◌≡◌, ◌<◌, ℕ, List, Some, length, drop, ap, ◌∙◌, subst, sym, arith}
use Rattle.line_tape.specs.declared.events.Event.{Event}
use Rattle.line_tape.specs.declared.events.Event.TheVariants.{Check, Mark}
use Rattle.line_tape.specs.declared.items.Item.{Item}
use Rattle.line_tape.specs.declared.items.Item.TheVariants.{Marker}
use Rattle.line_tape.specs.History.{Process, tape_at, with_event}
use Rattle.line_tape.specs.Rounds.{has_check_of}
use Rattle.line_catalogue.specs.Agreement.{Agrees}
use Rattle.line_tape.specs.declared.modes.Mode.TheVariants.{Fifo}
use Rattle.line_moves.specs.Queues.{with_on_each}
use Rattle.line_rounds.specs.Tables.{between, with_list}
use Rattle.line_moves.specs.Worlds.{IsWorld}
use Rattle.line_moves.proofs.AgreeLemmas.{AgreesNext-check, AgreesNext-mark}
use Rattle.line_moves.proofs.LinkLemmas.{length-with_event}
use Rattle.line_moves.proofs.WorldLemmas.{IsWorld-forced}
use Rattle.line_moves.proofs.round_moves.force_round.Goals as goal

pub append-requires-clause-agrees : goal.append-requires-clause-agrees
append-requires-clause-agrees c =
    AgreesNext-check c.reserve.new.self.processes c.history.ensures.agrees c.args.marker.now.to
    (omega (
      arith,
      c.requires.to,
      ap (λ (h : List Process). length h)
          c.in_ok-reserve.ensures.processes,
    )) c.of-state.result (Some c.number-number.result)

pub append_mark-requires-clause-agrees : goal.append_mark-requires-clause-agrees
append_mark-requires-clause-agrees c =
    let old : List Process = c.reserve.new.self.processes in
    let e : Event = Check c.of-state.result (Some c.number-number.result) in
    let within : c.args.marker.now.to < length old = omega (
      arith,
      c.requires.to,
      ap
          (λ (h : List Process). length h) c.in_ok-reserve.ensures.processes,
    ) in
    let agrees : Agrees c.append.new.self.processes =
    subst Agrees (sym c.append.ensures.processes) (AgreesNext-check old c.history.ensures.agrees
    c.args.marker.now.to within c.of-state.result (Some c.number-number.result)).agrees in
    AgreesNext-mark c.append.new.self.processes agrees c.args.marker.now.to
    (omega (
      arith,
      within,
      ap (λ (h : List Process). length h) c.append.ensures.processes,
      length-with_event old c.args.marker.now.to e,
    )) c.args.marker.now.from c.number-number.result

pub returns-clause-world : goal.returns-clause-world
returns-clause-world c =
    let history : List Process = c.args.catalogue.now.processes in
    let links : List (List (List Item)) = c.args.links.now in
    let to : ℕ = c.args.marker.now.to in
    let from : ℕ = c.args.marker.now.from in
    let r : ℕ = c.number-number.result in
    let e : Event = Check c.of-state.result (Some r) in
    let f : Event = Mark from r in
    let number : r ≡ c.args.running.now.number = c.number-number.ensures in
    let after : c.append_mark.new.self.processes ≡ with_event (with_event history to e) to f =
    c.append_mark.ensures.processes ∙ ap (λ (h : List Process). with_event h to f)
    (c.append.ensures.processes ∙ ap
    (λ (h : List Process). with_event h to e) c.in_ok-reserve.ensures.processes) in
    let queues : c.drop_first.new.self ≡ with_list (with_on_each links to (Marker r)) from to
    (drop 1 (between (with_on_each links to (Marker r)) from to)) =
    c.drop_first.ensures ∙ ap (λ (q : List (List (List Item))). with_list q from to
    (drop 1 (between q from to))) c.in_ok-push_each.ensures.ok in
    subst (λ (h : List Process). IsWorld Fifo h c.drop_first.new.self) (sym after)
    (subst (λ (q : List (List (List Item))). IsWorld Fifo
    (with_event (with_event history to e) to f) q) (sym queues)
    (IsWorld-forced history links c.requires.world from to r c.of-state.result c.requires.from
    c.requires.to c.requires.other
    (ap (λ (v : ℕ). has_check_of v (tape_at history to)) number ∙ c.requires.first)
    (c.requires.marker ∙ ap (λ (v : ℕ). Some (Marker v)) (sym number))))
