-- The message is taken off its link and put on the tape.
use Rattle.std.proofs.Common.{◌≡◌, ◌+◌, ℕ, List, [], ◌∷◌, length, Option, Some, None, refl, sym, ap}
use Rattle.std.proofs.Common.{◌∙◌, subst}
use Rattle.std.specs.Prelude.{nat_lt, slice_get}
use Rattle.line_names.specs.declared.messages.MsgName.{MsgName}
use Rattle.line_tape.specs.declared.events.Event.{Event}
use Rattle.line_tape.specs.declared.events.Event.TheVariants.{Recv}
use Rattle.line_tape.specs.declared.items.Item.{Item}
use Rattle.line_tape.specs.declared.items.Item.TheVariants.{Message}
use Rattle.line_tape.specs.declared.limits.TheConstants.{MOST_EVENTS}
use Rattle.line_tape.specs.History.{Process, tape_at, with_event}
use Rattle.line_tape.specs.declared.modes.Mode.TheVariants.{Fifo}
use Rattle.line_moves.specs.Openings.{OpenView, IsOnlyOpen}
use Rattle.line_moves.specs.Worlds.{IsWorld}
use Rattle.line_moves.proofs.OpeningLemmas.{none_listed, AreRounds-kept, AreRounds-renewed}
use Rattle.line_moves.proofs.WorldLemmas.{IsWorld-held, IsWorld-take}
use Rattle.line_world.specs.declared.replies.Answer.TheVariants.{Done}
use Rattle.line_world.specs.declared.replies.Reply.TheVariants.{Took}
use Rattle.line_tape.specs.declared.steps.Step.TheVariants.{Deliver}
use Rattle.line_world.specs.declared.worlds.World.TheInside.{Inside}
use Rattle.line_world.specs.Machine.{Machine, items_on}
use Rattle.line_world.specs.Protocols.{mode_of}
use Rattle.line_world.specs.Refusals.{first_cause, link_causes}
use Rattle.line_world.specs.Runs.{Takes}
use Rattle.line_world.proofs.DeliverLemmas.{quiet_seen, Takes-delivered}
use Rattle.line_world.proofs.KnownFacts.{one_kind, here, is_in_order, is_picked, ordered_kept}
use Rattle.line_world.proofs.KnownFacts.{IsInOrder, IsPicked}
use Rattle.line_world.proofs.SeenLemmas.{seen}
use Rattle.line_world.proofs.worlds.World.take_first.Goals as goal

pub take_message-requires-clause-named : goal.take_message-requires-clause-named
take_message-requires-clause-named c =
    (is_picked c.self.inside c.args.self.now c.self.view_is c.self.invariant c.args.place.from
    c.args.place.to c.args.place.pick c.args._state.now c.requires.passed
    (Message c.args.message.now) c.requires.picked).of_sender

pub take_message-requires-clause-held : goal.take_message-requires-clause-held
take_message-requires-clause-held c =
    let w : Inside = c.self.inside in
    let from : ℕ = c.args.place.from in
    let to : ℕ = c.args.place.to in
    let m : MsgName = c.args.message.now in
    let p : IsPicked w from to c.args.place.pick
    (Message m) = is_picked w c.args.self.now c.self.view_is c.self.invariant from to
    c.args.place.pick c.args._state.now c.requires.passed (Message m) c.requires.picked in
    let is : IsInOrder w c.in-Markers.running = is_in_order w c.args.self.now c.self.view_is
    c.self.invariant c.in-Markers.running c.in-Markers.is in
    IsWorld-held w.catalogue.processes w.links from to p.from_in p.to_in m p.of_sender
    c.args.place.pick p.at p.apart Fifo is.world (λ _. p.first is.mode_is) refl

pub invariant_of-self-in_err-take_message-in-Markers :
    goal.invariant_of-self-in_err-take_message-in-Markers
invariant_of-self-in_err-take_message-in-Markers c =
    let w : Inside = c.self.inside in
    let history : List Process = w.catalogue.processes in
    let running : Option OpenView = c.in-Markers.running in
    let new : Option OpenView = c.take_message.new.running in
    let is : IsInOrder w running = is_in_order w c.args.self.now c.self.view_is c.self.invariant
    running c.in-Markers.is in
    let same : c.take_message.new.catalogue.processes
    ≡ history = c.in_err-take_message-in-Markers.ensures.err in
    let opening : IsOnlyOpen Fifo history new = subst (λ (h : List Process). IsOnlyOpen Fifo h new)
    same c.in_err-take_message-in-Markers.ensures.opening in
    ordered_kept c.take_message.new.catalogue.processes history same c.take_message.new.links
    w.last_round new w.rounds.items
    (subst (λ (h : List Process). IsWorld Fifo h c.take_message.new.links) (sym same)
    (subst (λ (q : List (List (List Item))). IsWorld Fifo history q)
    (sym c.in_err-take_message-in-Markers.ensures.kept) is.world))
    (AreRounds-renewed Fifo history w.last_round running new w.rounds.items
    c.in_err-take_message-in-Markers.ensures.number opening is.are)

pub invariant_of-self-in-Markers : goal.invariant_of-self-in-Markers
invariant_of-self-in-Markers c =
    let w : Inside = c.self.inside in
    let history : List Process = w.catalogue.processes in
    let from : ℕ = c.args.place.from in
    let to : ℕ = c.args.place.to in
    let m : MsgName = c.args.message.now in
    let e : Event = Recv m in
    let running : Option OpenView = c.in-Markers.running in
    let new : Option OpenView = c.take_message.new.running in
    let p : IsPicked w from to c.args.place.pick
    (Message m) = is_picked w c.args.self.now c.self.view_is c.self.invariant from to
    c.args.place.pick c.args._state.now c.requires.passed (Message m) c.requires.picked in
    let is : IsInOrder w running = is_in_order w c.args.self.now c.self.view_is c.self.invariant
    running c.in-Markers.is in
    let taken : c.take_message.new.catalogue.processes
    ≡ with_event history to e = c.in_ok-take_message-in-Markers.ensures.taken in
    let opening : IsOnlyOpen Fifo (with_event history to e) new = subst (λ (h : List Process).
    IsOnlyOpen Fifo h new) taken c.in_ok-take_message-in-Markers.ensures.opening in
    ordered_kept c.take_message.new.catalogue.processes
    (with_event history to e) taken c.take_message.new.links w.last_round new w.rounds.items
    (subst (λ (h : List Process). IsWorld Fifo h c.take_message.new.links) (sym taken)
    (subst (λ (q : List (List (List Item))). IsWorld Fifo (with_event history to e) q)
    (sym c.in_ok-take_message-in-Markers.ensures.off)
    (IsWorld-take history w.links from to p.from_in p.to_in m p.of_sender c.args.place.pick p.at
    p.apart Fifo is.world (λ _. p.first is.mode_is) refl)))
    (AreRounds-kept history to e p.to_in (λ r. refl) (λ r q. refl) Fifo w.last_round running new
    w.rounds.items c.in_ok-take_message-in-Markers.ensures.number opening is.are)

pub returns-clause-done : goal.returns-clause-done
returns-clause-done c =
    let w : Inside = c.self.inside in
    let history : List Process = w.catalogue.processes in
    let last : ℕ = w.last_round in
    let from : ℕ = c.args.place.from in
    let to : ℕ = c.args.place.to in
    let pick : ℕ = c.args.place.pick in
    let m : MsgName = c.args.message.now in
    let state : List ℕ = c.args._state.now in
    let e : Event = Recv m in
    let running : Option OpenView = c.in-Markers.running in
    let is : IsInOrder w running = is_in_order w c.args.self.now c.self.view_is c.self.invariant
    running c.in-Markers.is in
    let p : IsPicked w from to pick (Message m) = is_picked w c.args.self.now c.self.view_is
    c.self.invariant from to pick state c.requires.passed (Message m) c.requires.picked in
    let old : Machine = seen Fifo history w.catalogue.marks last w.rounds.items w.links in
    let next : Machine = seen Fifo c.take_message.new.catalogue.processes
    c.take_message.new.catalogue.marks last w.rounds.items c.take_message.new.links in
    let same : old ≡ c.args.self.now = here w c.args.self.now c.self.view_is c.self.invariant Fifo
    is.mode_is in
    subst (λ (v : Machine). Takes v (Deliver from to pick state) (Done (Took m None)) next) same
    (Takes-delivered old from to pick state (Message m)
    (subst (λ (v : Machine). first_cause (link_causes v from to pick state) ≡ None)
    (sym same) c.requires.passed)
    (subst (λ (v : Machine). slice_get (items_on v from to) pick ≡ Some (Message m))
    (sym same) c.requires.picked) next
    (ap (λ (h : List Process). nat_lt MOST_EVENTS (length (tape_at h to) + 1))
    (sym c.history.ensures.processes) ∙ sym c.lacks_room.ensures ∙ c.if-lacks_room.false)
    (quiet_seen Fifo history c.take_message.new.catalogue.processes w.catalogue.marks
    c.take_message.new.catalogue.marks last w.rounds.items w.links c.take_message.new.links to
    (e ∷ [])
    c.in_ok-take_message-in-Markers.ensures.taken c.in_ok-take_message-in-Markers.ensures.marks refl
    (none_listed history to e p.to_in (λ r. refl) (λ r q. refl) Fifo last)))

-- links that keep no order have colours
pub unreachable-requires : goal.unreachable-requires
unreachable-requires c = one_kind (mode_of c.self.inside.protocol)
    (ap (λ (v : Machine). v.mode) c.self.view_is ∙ c.requires.fifo) (ap mode_of c.in-Colours.is)
