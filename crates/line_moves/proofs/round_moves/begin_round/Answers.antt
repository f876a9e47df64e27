-- The check agrees, and its marker is on each link.
use Rattle.std.proofs.Common.{◌+◌, List, Some, length, ap, ◌∙◌, subst, sym, arith}
use Rattle.line_tape.specs.declared.events.Event.{Event}
use Rattle.line_tape.specs.declared.events.Event.TheVariants.{Check}
use Rattle.line_tape.specs.declared.items.Item.{Item}
use Rattle.line_tape.specs.History.{Process, with_event}
use Rattle.line_tape.specs.declared.modes.Mode.TheVariants.{Fifo}
use Rattle.line_moves.specs.Worlds.{IsWorld}
use Rattle.line_moves.proofs.AgreeLemmas.{AgreesNext-check}
use Rattle.line_moves.proofs.WorldLemmas.{IsWorld-round}
use Rattle.line_moves.proofs.round_moves.begin_round.Goals as goal

pub append-requires-clause-agrees : goal.append-requires-clause-agrees
append-requires-clause-agrees c =
    AgreesNext-check c.reserve.new.self.processes c.history.ensures.agrees c.args.at
    (omega (
      arith,
      c.requires.at,
      ap (λ (h : List Process). length h)
          c.in_ok-reserve.ensures.processes,
    )) c.of-state.result (Some (c.args.last + 1))

pub returns-clause-world : goal.returns-clause-world
returns-clause-world c =
    let history : List Process = c.args.catalogue.now.processes in
    let e : Event = Check c.of-state.result (Some (c.args.last + 1)) in
    let after = c.append.ensures.processes ∙ ap
    (λ (h : List Process). with_event h c.args.at e) c.in_ok-reserve.ensures.processes in
    subst (λ (h : List Process). IsWorld Fifo h c.push_each.new.self) (sym after)
    (subst (λ (q : List (List (List Item))). IsWorld Fifo (with_event history c.args.at e) q)
    (sym c.in_ok-push_each.ensures.ok)
    (IsWorld-round history c.args.links.now c.requires.world c.args.at c.of-state.result
    (c.args.last + 1) c.requires.at (c.requires.fresh c.args.at)))
