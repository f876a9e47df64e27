-- A copy is put on the tape after the check that it forces.
use Rattle.std.proofs.Common.{◌≡◌, ◌+◌, ℕ, Bool, List, [], ◌∷◌, length, Option, Some, None, refl}
use Rattle.std.proofs.Common.{sym, ap, ◌∙◌, subst}
use Rattle.std.specs.Prelude.{nat_lt, slice_get}
use Rattle.line_names.specs.declared.messages.MsgName.{MsgName}
use Rattle.line_tape.specs.declared.events.Event.{Event}
use Rattle.line_tape.specs.declared.events.Event.TheVariants.{Recv, Check as CheckEvent}
use Rattle.line_tape.specs.declared.items.Item.TheVariants.{Message}
use Rattle.line_tape.specs.declared.limits.TheConstants.{MOST_EVENTS}
use Rattle.line_tape.specs.Event.{Holds}
use Rattle.line_tape.specs.History.{Process, tape_at, with_event}
use Rattle.line_rounds.specs.Kept.{ProcessTurns, AreTurned}
use Rattle.line_rounds.specs.Turning.{TurningView}
use Rattle.line_rounds.proofs.FlagLemmas.{AreFlagged-other}
use Rattle.line_moves.specs.declared.fates.Fate.{Fate}
use Rattle.line_moves.specs.declared.fates.Fate.TheVariants.{Taken as IsTaken}
use Rattle.line_tape.specs.declared.modes.Mode.TheVariants.{Unordered}
use Rattle.line_moves.specs.Fates.{events_of, fate_of, forced_round}
use Rattle.line_moves.specs.Listed.{ListedRound, newly_listed}
use Rattle.line_moves.specs.Openings.{newly_closed, opened_by, IsListedOrOpen}
use Rattle.line_world.specs.declared.replies.Answer.TheVariants.{Done}
use Rattle.line_world.specs.declared.replies.Reply.{Reply}
use Rattle.line_world.specs.declared.replies.Reply.TheVariants.{Took}
use Rattle.line_tape.specs.declared.steps.Step.TheVariants.{Deliver}
use Rattle.line_world.specs.declared.worlds.World.TheInside.{Inside}
use Rattle.line_world.specs.Machine.{Machine, items_on, with_step}
use Rattle.line_world.specs.Protocols.{mode_of}
use Rattle.line_world.specs.Refusals.{first_cause, is_full, link_causes}
use Rattle.line_world.specs.Runs.{Takes}
use Rattle.line_world.specs.Steps.{reply_of}
use Rattle.line_world.proofs.DeliverLemmas.{step_seen, Takes-delivered}
use Rattle.line_world.proofs.KnownFacts.{one_kind, is_copy, coloured_kept, here, may_catch}
use Rattle.line_world.proofs.KnownFacts.{IsPicked, IsTakenCopy, MayCatch}
use Rattle.line_world.proofs.SeenLemmas.{seen}
use Rattle.line_world.proofs.TurnedFacts.{caught_newly, caught_painted, caught_rounds, caught_world}
use Rattle.line_world.proofs.TurnedFacts.{held_still, less_than_last, middle_within, round_is}
use Rattle.line_world.proofs.TurnedFacts.{sent_still}
use Rattle.line_world.proofs.worlds.World.take_forced.Goals as goal

pub turn_round-requires-clause-first : goal.turn_round-requires-clause-first
turn_round-requires-clause-first c =
    let w : Inside = c.self.inside in
    let from : ℕ = c.args.place.from in
    let to : ℕ = c.args.place.to in
    let pick : ℕ = c.args.place.pick in
    let m : MsgName = c.args.message.now in
    let state : List ℕ = c.args.state.now in
    let round : ℕ = c.args.round in
    let turning : Option TurningView = c.in-Colours.turning in
    let colours : List ProcessTurns = c.in-Colours.colours in
    let received : List (List Bool) = c.in-Colours.received in
    let copy : IsTakenCopy w turning colours received from to pick m (Some round) =
    is_copy w c.args.self.now c.self.view_is c.self.invariant from to pick state c.requires.passed
    turning colours received c.in-Colours.is m c.requires.picked c.requires.taken
    (Some round) c.requires.forced in
    let may : MayCatch w turning colours received to = may_catch w turning colours received from to
    pick m round copy in
    may.lacks

pub turn_round-requires-clause-greater : goal.turn_round-requires-clause-greater
turn_round-requires-clause-greater c =
    let w : Inside = c.self.inside in
    let history : List Process = w.catalogue.processes in
    let last : ℕ = w.last_round in
    let from : ℕ = c.args.place.from in
    let to : ℕ = c.args.place.to in
    let pick : ℕ = c.args.place.pick in
    let m : MsgName = c.args.message.now in
    let state : List ℕ = c.args.state.now in
    let round : ℕ = c.args.round in
    let turning : Option TurningView = c.in-Colours.turning in
    let colours : List ProcessTurns = c.in-Colours.colours in
    let received : List (List Bool) = c.in-Colours.received in
    let copy : IsTakenCopy w turning colours received from to pick m (Some round) =
    is_copy w c.args.self.now c.self.view_is c.self.invariant from to pick state c.requires.passed
    turning colours received c.in-Colours.is m c.requires.picked c.requires.taken
    (Some round) c.requires.forced in
    let may : MayCatch w turning colours received to = may_catch w turning colours received from to
    pick m round copy in
    less_than_last history w.links colours last may.coloured.world may.coloured.painted
    may.kept.round w.rounds.items may.are to may.within may.lacks

pub turn_round-requires-clause-kept : goal.turn_round-requires-clause-kept
turn_round-requires-clause-kept c =
    let w : Inside = c.self.inside in
    let from : ℕ = c.args.place.from in
    let to : ℕ = c.args.place.to in
    let pick : ℕ = c.args.place.pick in
    let m : MsgName = c.args.message.now in
    let state : List ℕ = c.args.state.now in
    let round : ℕ = c.args.round in
    let turning : Option TurningView = c.in-Colours.turning in
    let colours : List ProcessTurns = c.in-Colours.colours in
    let received : List (List Bool) = c.in-Colours.received in
    let copy : IsTakenCopy w turning colours received from to pick m (Some round) =
    is_copy w c.args.self.now c.self.view_is c.self.invariant from to pick state c.requires.passed
    turning colours received c.in-Colours.is m c.requires.picked c.requires.taken
    (Some round) c.requires.forced in
    let may : MayCatch w turning colours received to = may_catch w turning colours received from to
    pick m round copy in
    may.kept

pub add_receipt-requires-clause-held : goal.add_receipt-requires-clause-held
add_receipt-requires-clause-held c =
    let w : Inside = c.self.inside in
    let history : List Process = w.catalogue.processes in
    let last : ℕ = w.last_round in
    let from : ℕ = c.args.place.from in
    let to : ℕ = c.args.place.to in
    let pick : ℕ = c.args.place.pick in
    let m : MsgName = c.args.message.now in
    let state : List ℕ = c.args.state.now in
    let round : ℕ = c.args.round in
    let turning : Option TurningView = c.in-Colours.turning in
    let colours : List ProcessTurns = c.in-Colours.colours in
    let received : List (List Bool) = c.in-Colours.received in
    let copy : IsTakenCopy w turning colours received from to pick m (Some round) =
    is_copy w c.args.self.now c.self.view_is c.self.invariant from to pick state c.requires.passed
    turning colours received c.in-Colours.is m c.requires.picked c.requires.taken
    (Some round) c.requires.forced in
    let p : IsPicked w from to pick (Message m) = copy.picked in
    let may : MayCatch w turning colours received to = may_catch w turning colours received from to
    pick m round copy in
    let settled = c.in_ok-turn_round-in-Colours.ensures.settled in
    subst (λ (h : List Process). Holds (tape_at h m.from) m.inc m.number)
    (sym c.in_ok-turn_round-in-Colours.ensures.checked)
    (held_still history w.links colours last may.coloured.world may.coloured.painted from to
    p.from_in p.to_in m p.of_sender pick p.at copy.fate round copy.forces may.kept.round
    w.rounds.items may.are
    state settled.round settled.number_is c.turn_round.new.colours)

pub invariant_of-self-in-Colours : goal.invariant_of-self-in-Colours
invariant_of-self-in-Colours c =
    let w : Inside = c.self.inside in
    let history : List Process = w.catalogue.processes in
    let last : ℕ = w.last_round in
    let from : ℕ = c.args.place.from in
    let to : ℕ = c.args.place.to in
    let pick : ℕ = c.args.place.pick in
    let m : MsgName = c.args.message.now in
    let state : List ℕ = c.args.state.now in
    let round : ℕ = c.args.round in
    let turning : Option TurningView = c.in-Colours.turning in
    let colours : List ProcessTurns = c.in-Colours.colours in
    let received : List (List Bool) = c.in-Colours.received in
    let copy : IsTakenCopy w turning colours received from to pick m (Some round) =
    is_copy w c.args.self.now c.self.view_is c.self.invariant from to pick state c.requires.passed
    turning colours received c.in-Colours.is m c.requires.picked c.requires.taken
    (Some round) c.requires.forced in
    let p : IsPicked w from to pick (Message m) = copy.picked in
    let may : MayCatch w turning colours received to = may_catch w turning colours received from to
    pick m round copy in
    let after : List Process = with_event history to (CheckEvent state (Some last)) in
    let done : c.turn_round.new.catalogue.processes
    ≡ after = c.in_ok-turn_round-in-Colours.ensures.checked in
    let turned : AreTurned after c.turn_round.new.colours = subst (λ (h : List Process). AreTurned h
    c.turn_round.new.colours) done c.in_ok-turn_round-in-Colours.ensures.turned in
    let settled : IsListedOrOpen after last w.rounds.items c.turn_round.new.turning
    c.turn_round.new.rounds.items =
    subst (λ (h : List Process). IsListedOrOpen h last w.rounds.items c.turn_round.new.turning
    c.turn_round.new.rounds.items) done c.in_ok-turn_round-in-Colours.ensures.settled in
    let final : List Process = with_event after to (Recv m) in
    let ended : c.add_receipt.new.catalogue.processes ≡ final = c.add_receipt.ensures.taken ∙ ap
    (λ (h : List Process). with_event h to (Recv m)) done in
    coloured_kept w.rounds.items w.links c.add_receipt.new.catalogue.processes after final ended
    last c.turn_round.new.colours c.turn_round.new.turning c.turn_round.new.rounds.items settled
    (caught_world history w.links colours last may.coloured.world may.coloured.painted from to
    p.from_in p.to_in m p.of_sender pick p.at copy.fate round copy.forces may.kept.round
    w.rounds.items may.are
    state settled.round settled.number_is c.turn_round.new.colours)
    (caught_rounds history w.links colours last may.coloured.world may.coloured.painted from to
    p.from_in p.to_in m p.of_sender pick p.at copy.fate round copy.forces may.kept.round
    w.rounds.items may.are
    state settled.round settled.number_is c.turn_round.new.colours turned settled.follows)
    (caught_painted history w.links colours last may.coloured.world may.coloured.painted from to
    p.from_in p.to_in m p.of_sender pick p.at copy.fate round copy.forces may.kept.round
    w.rounds.items may.are
    state settled.round settled.number_is c.turn_round.new.colours turned)
    c.receive.new.self (c.receive.ensures.received after to
    (AreFlagged-other history to (CheckEvent state (Some last)) received p.to_in
    may.coloured.world.linked.fit refl refl may.coloured.flagged)
    (middle_within history w.links colours last may.coloured.world may.coloured.painted from to
    p.from_in p.to_in m p.of_sender pick p.at copy.fate round copy.forces may.kept.round
    w.rounds.items may.are
    state settled.round settled.number_is c.turn_round.new.colours)
    (sent_still history w.links colours last may.coloured.world may.coloured.painted from to
    p.from_in p.to_in m p.of_sender pick p.at copy.fate round copy.forces may.kept.round
    w.rounds.items may.are
    state settled.round settled.number_is c.turn_round.new.colours))

pub returns-clause-done : goal.returns-clause-done
returns-clause-done c =
    let w : Inside = c.self.inside in
    let history : List Process = w.catalogue.processes in
    let last : ℕ = w.last_round in
    let from : ℕ = c.args.place.from in
    let to : ℕ = c.args.place.to in
    let pick : ℕ = c.args.place.pick in
    let m : MsgName = c.args.message.now in
    let state : List ℕ = c.args.state.now in
    let round : ℕ = c.args.round in
    let turning : Option TurningView = c.in-Colours.turning in
    let colours : List ProcessTurns = c.in-Colours.colours in
    let received : List (List Bool) = c.in-Colours.received in
    let copy : IsTakenCopy w turning colours received from to pick m (Some round) =
    is_copy w c.args.self.now c.self.view_is c.self.invariant from to pick state c.requires.passed
    turning colours received c.in-Colours.is m c.requires.picked c.requires.taken
    (Some round) c.requires.forced in
    let p : IsPicked w from to pick (Message m) = copy.picked in
    let may : MayCatch w turning colours received to = may_catch w turning colours received from to
    pick m round copy in
    let e : Event = CheckEvent state (Some last) in
    let f : Event = Recv m in
    let after : List Process = with_event history to e in
    let done : c.turn_round.new.catalogue.processes
    ≡ after = c.in_ok-turn_round-in-Colours.ensures.checked in
    let settled : IsListedOrOpen after last w.rounds.items c.turn_round.new.turning
    c.turn_round.new.rounds.items =
    subst (λ (h : List Process). IsListedOrOpen h last w.rounds.items c.turn_round.new.turning
    c.turn_round.new.rounds.items) done c.in_ok-turn_round-in-Colours.ensures.settled in
    let final : List Process = with_event after to f in
    let ended : c.add_receipt.new.catalogue.processes
    ≡ final = c.add_receipt.ensures.taken ∙ ap (λ (h : List Process). with_event h to f) done in
    let fresh : List ListedRound = newly_closed Unordered after (Some (opened_by settled.round)) in
    let newly : fresh ≡ newly_listed Unordered history final last =
    caught_newly history w.links colours last may.coloured.world may.coloured.painted from to
    p.from_in p.to_in m p.of_sender pick p.at copy.fate round copy.forces may.kept.round
    w.rounds.items may.are
    state settled.round settled.number_is c.turn_round.new.colours in
    let forced_now : Option ℕ = forced_round Unordered history to m in
    let fate_now : Fate = fate_of Unordered history to m in
    let same_round : round
    ≡ last = round_is history w.links colours last may.coloured.world may.coloured.painted from
    to p.from_in p.to_in m p.of_sender pick p.at copy.fate round copy.forces may.kept.round
    w.rounds.items may.are in
    let events : events_of fate_now forced_now state m ≡ e ∷ f ∷ [] =
    ap (λ (v : Fate). events_of v forced_now state m) copy.fate ∙ ap
    (λ (o : Option ℕ). events_of IsTaken o state m) copy.forces ∙ ap
    (λ (v : ℕ). events_of IsTaken (Some v) state m) same_round in
    let old : Machine = seen Unordered history w.catalogue.marks last w.rounds.items w.links in
    let next : Machine = seen Unordered c.add_receipt.new.catalogue.processes
    c.add_receipt.new.catalogue.marks last c.turn_round.new.rounds.items w.links in
    let same : old ≡ c.args.self.now = here w c.args.self.now c.self.view_is c.self.invariant
    Unordered copy.coloured.mode_is in
    let steps : next ≡ with_step old to (events_of fate_now forced_now state m) last =
    ap (λ (ls : List ListedRound). seen Unordered c.add_receipt.new.catalogue.processes
    c.add_receipt.new.catalogue.marks last ls w.links) settled.listed
    ∙ step_seen Unordered history c.add_receipt.new.catalogue.processes w.catalogue.marks
    c.add_receipt.new.catalogue.marks last last w.rounds.items fresh w.links w.links to
    (e ∷ f ∷ []) ended
    (c.add_receipt.ensures.marks ∙ c.in_ok-turn_round-in-Colours.ensures.marks) refl newly
    ∙ ap (λ (es : List Event). with_step old to es last) (sym events) in
    subst (λ (v : Machine). Takes v (Deliver from to pick state) (Done (Took m (Some round))) next)
    same
    (subst (λ (r : Reply). Takes old (Deliver from to pick state) (Done r) next)
    (ap (λ (v : Fate). reply_of v forced_now m) copy.fate ∙ ap
    (λ (o : Option ℕ). reply_of IsTaken o m) copy.forces)
    (Takes-delivered old from to pick state (Message m)
    (subst (λ (v : Machine). first_cause (link_causes v from to pick state) ≡ None)
    (sym same) c.requires.passed)
    (subst (λ (v : Machine). slice_get (items_on v from to) pick ≡ Some (Message m))
    (sym same) c.requires.picked) next
    (ap (λ (es : List Event). is_full old to (length es)) events
    ∙ ap (λ (h : List Process). nat_lt MOST_EVENTS (length (tape_at h to) + 2)) (sym
    c.history.ensures.processes) ∙ sym c.lacks_room.ensures ∙ c.if-lacks_room.false) steps))

-- links that keep their order have markers
pub unreachable-requires : goal.unreachable-requires
unreachable-requires c = one_kind (mode_of c.self.inside.protocol) (ap mode_of c.in-Markers.is)
    (ap (λ (v : Machine). v.mode) c.self.view_is ∙ c.requires.unordered)
