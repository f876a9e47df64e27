-- The marker is off its link, and the round is listed if it is completed now.
use Rattle.std.proofs.Common.{◌≡◌, ◌+◌, ℕ, ◌++◌, Bool, List, length, Option, Some, None, refl, sym}
use Rattle.std.proofs.Common.{ap, ◌∙◌, subst}
use Rattle.line_tape.specs.declared.events.Event.{Event}
use Rattle.line_tape.specs.declared.items.Item.TheVariants.{Marker}
use Rattle.std.specs.Prelude.{nat_lt, slice_get}
use Rattle.line_rounds.specs.Tables.{between}
use Rattle.line_tape.specs.declared.limits.TheConstants.{MOST_EVENTS}
use Rattle.line_tape.specs.History.{Process, tape_at}
use Rattle.line_tape.specs.Rounds.{has_check_of}
use Rattle.line_tape.specs.declared.modes.Mode.TheVariants.{Fifo}
use Rattle.line_moves.specs.Fates.{is_forced, marker_events}
use Rattle.line_moves.specs.Listed.{ListedRound, newly_listed}
use Rattle.line_moves.specs.Moves.{with_events}
use Rattle.line_moves.specs.Openings.{OpenView, left_open, newly_closed, IsOnlyOpen}
use Rattle.line_moves.specs.Worlds.{AreRounds, IsWorld}
use Rattle.line_moves.proofs.OpeningLemmas.{AreRounds-renewed}
use Rattle.line_moves.proofs.WorldLemmas.{marker_sent}
use Rattle.line_world.specs.declared.replies.Answer.TheVariants.{Done}
use Rattle.line_world.specs.declared.replies.Reply.{Reply}
use Rattle.line_world.specs.declared.replies.Reply.TheVariants.{Marked}
use Rattle.line_tape.specs.declared.steps.Step.TheVariants.{Deliver}
use Rattle.line_world.specs.declared.worlds.World.TheInside.{Inside}
use Rattle.line_world.specs.Machine.{Machine, items_on, with_step}
use Rattle.line_world.specs.Protocols.{mode_of}
use Rattle.line_world.specs.Refusals.{first_cause, is_full, link_causes}
use Rattle.line_world.specs.Runs.{Takes}
use Rattle.line_world.proofs.DeliverLemmas.{step_seen, Takes-delivered}
use Rattle.line_world.proofs.KnownFacts.{here, is_in_order, is_picked, ordered_kept, IsInOrder}
use Rattle.line_world.proofs.KnownFacts.{IsPicked}
use Rattle.line_world.proofs.MarkerFacts.{marker_listed, marker_settled}
use Rattle.line_world.proofs.SeenLemmas.{seen}
use Rattle.line_world.proofs.worlds.World.deliver_marker.Goals.{then-forced, else-forced}
use Rattle.line_world.proofs.worlds.World.deliver_marker.Goals as goal

pub is_forced-forced-requires-clause-sent : goal.is_forced-forced-requires-clause-sent
is_forced-forced-requires-clause-sent c =
    let w : Inside = c.self.inside in
    let from : ℕ = c.args.place.from in
    let to : ℕ = c.args.place.to in
    let round : ℕ = c.args.round in
    let is : IsInOrder w c.in-Markers.running = is_in_order w c.args.self.now c.self.view_is
    c.self.invariant c.in-Markers.running c.in-Markers.is in
    let p : IsPicked w from to c.args.place.pick
    (Marker round) = is_picked w c.args.self.now c.self.view_is c.self.invariant from to
    c.args.place.pick c.args.state.now c.requires.passed (Marker round) c.requires.picked in
    ap (λ (h : List Process). has_check_of round (tape_at h from)) c.history.ensures.processes ∙
    marker_sent w.catalogue.processes w.links is.world from to round p.from_in p.to_in p.apart
    (ap (slice_get (between w.links from to)) (sym (p.first is.mode_is)) ∙ p.at)

pub invariant_of-self-in_err-take_marker-in-Markers :
    goal.invariant_of-self-in_err-take_marker-in-Markers
invariant_of-self-in_err-take_marker-in-Markers c =
    let w : Inside = c.self.inside in
    let history : List Process = w.catalogue.processes in
    let last : ℕ = w.last_round in
    let is : IsInOrder w c.in-Markers.running = is_in_order w c.args.self.now c.self.view_is
    c.self.invariant c.in-Markers.running c.in-Markers.is in
    let same : c.take_marker.new.catalogue.processes
    ≡ history = c.in_err-take_marker-in-Markers.ensures.err in
    let opening : IsOnlyOpen Fifo history c.take_marker.new.running = subst
    (λ (h : List Process). IsOnlyOpen Fifo h c.take_marker.new.running) same
    c.in_err-take_marker-in-Markers.ensures.opening in
    ordered_kept c.take_marker.new.catalogue.processes history same c.take_marker.new.links last
    c.take_marker.new.running c.reserve.new.self.items
    c.in_err-take_marker-in-Markers.ensures.world
    (subst (λ (ls : List ListedRound). AreRounds Fifo history last c.take_marker.new.running ls)
    (sym c.reserve.ensures.items)
    (AreRounds-renewed Fifo history last c.in-Markers.running c.take_marker.new.running
    w.rounds.items c.in_err-take_marker-in-Markers.ensures.number opening is.are))

pub invariant_of-self-in-Markers : goal.invariant_of-self-in-Markers
invariant_of-self-in-Markers c =
    let w : Inside = c.self.inside in
    let history : List Process = w.catalogue.processes in
    let last : ℕ = w.last_round in
    let rounds : List ListedRound = w.rounds.items in
    let from : ℕ = c.args.place.from in
    let to : ℕ = c.args.place.to in
    let round : ℕ = c.args.round in
    let state : List ℕ = c.args.state.now in
    let is : IsInOrder w c.in-Markers.running = is_in_order w c.args.self.now c.self.view_is
    c.self.invariant c.in-Markers.running c.in-Markers.is in
    let p : IsPicked w from to c.args.place.pick
    (Marker round) = is_picked w c.args.self.now c.self.view_is c.self.invariant from to
    c.args.place.pick state c.requires.passed (Marker round) c.requires.picked in
    let sent = marker_sent history w.links is.world from to round p.from_in p.to_in p.apart
    (ap (slice_get (between w.links from to)) (sym (p.first is.mode_is)) ∙ p.at) in
    let forced : Bool = c.is_forced-forced.result in
    let forced_is : forced ≡ is_forced history to round = c.is_forced-forced.ensures ∙ ap
    (λ (h : List Process). is_forced h to round) c.history.ensures.processes in
    let after : List Process = with_events history to (marker_events forced from state round) in
    let running : Option OpenView = c.take_marker.new.running in
    let taken : c.take_marker.new.catalogue.processes ≡ after =
    c.in_ok-take_marker-in-Markers.ensures.taken ∙ ap
    (λ b. with_events history to (marker_events b from state round)) (sym forced_is) in
    let told : c.history-history.result.now.processes
    ≡ after = c.history-history.ensures.processes ∙ taken in
    let listed : c.list_completed.new.rounds.items ≡ rounds ++ newly_closed Fifo after running =
    c.list_completed.ensures.listed ∙ ap (λ (ls : List ListedRound). ls
    ++ newly_closed Fifo c.history-history.result.now.processes running) c.reserve.ensures.items
    ∙ ap (λ (h : List Process). rounds ++ newly_closed Fifo h running) told in
    let world_after : IsWorld Fifo after c.take_marker.new.links = subst
    (λ (h : List Process). IsWorld Fifo h c.take_marker.new.links) taken
    c.in_ok-take_marker-in-Markers.ensures.world in
    let opening : IsOnlyOpen Fifo after running = subst (λ (h : List Process). IsOnlyOpen Fifo h
    running) taken c.in_ok-take_marker-in-Markers.ensures.opening in
    let left : c.list_completed.new.running ≡ left_open Fifo after running =
    c.list_completed.ensures.left ∙ ap (λ (h : List Process). left_open Fifo h running) told in
    ordered_kept c.take_marker.new.catalogue.processes after taken c.take_marker.new.links last
    c.list_completed.new.running c.list_completed.new.rounds.items
    c.in_ok-take_marker-in-Markers.ensures.world
    (subst (λ (o : Option OpenView). AreRounds Fifo after last o c.list_completed.new.rounds.items)
    (sym left)
    (subst (λ (ls : List ListedRound). AreRounds Fifo after last (left_open Fifo after running) ls)
    (sym listed)
    (marker_settled history last c.in-Markers.running rounds is.are from to round state p.to_in sent
    forced running world_after.linked.fit c.in_ok-take_marker-in-Markers.ensures.number
    opening)))

pub returns-clause-done : goal.returns-clause-done
returns-clause-done c =
    let w : Inside = c.self.inside in
    let history : List Process = w.catalogue.processes in
    let last : ℕ = w.last_round in
    let rounds : List ListedRound = w.rounds.items in
    let from : ℕ = c.args.place.from in
    let to : ℕ = c.args.place.to in
    let round : ℕ = c.args.round in
    let state : List ℕ = c.args.state.now in
    let machine : Machine = c.args.self.now in
    let is : IsInOrder w c.in-Markers.running = is_in_order w machine c.self.view_is
    c.self.invariant c.in-Markers.running c.in-Markers.is in
    let p : IsPicked w from to c.args.place.pick
    (Marker round) = is_picked w machine c.self.view_is c.self.invariant from to
    c.args.place.pick state c.requires.passed (Marker round) c.requires.picked in
    let sent = marker_sent history w.links is.world from to round p.from_in p.to_in p.apart
    (ap (slice_get (between w.links from to)) (sym (p.first is.mode_is)) ∙ p.at) in
    let forced : Bool = c.is_forced-forced.result in
    let forced_is : forced ≡ is_forced history to round = c.is_forced-forced.ensures ∙ ap
    (λ (h : List Process). is_forced h to round) c.history.ensures.processes in
    let after : List Process = with_events history to (marker_events forced from state round) in
    let running : Option OpenView = c.take_marker.new.running in
    let taken : c.take_marker.new.catalogue.processes ≡ after =
    c.in_ok-take_marker-in-Markers.ensures.taken ∙ ap
    (λ b. with_events history to (marker_events b from state round)) (sym forced_is) in
    let told : c.history-history.result.now.processes
    ≡ after = c.history-history.ensures.processes ∙ taken in
    let listed : c.list_completed.new.rounds.items ≡ rounds ++ newly_closed Fifo after running =
    c.list_completed.ensures.listed ∙ ap (λ (ls : List ListedRound). ls
    ++ newly_closed Fifo c.history-history.result.now.processes running) c.reserve.ensures.items
    ∙ ap (λ (h : List Process). rounds ++ newly_closed Fifo h running) told in
    let old : Machine = seen Fifo history w.catalogue.marks last rounds w.links in
    let new : Machine = seen Fifo c.take_marker.new.catalogue.processes
    c.take_marker.new.catalogue.marks last c.list_completed.new.rounds.items
    c.take_marker.new.links in
    let same : old ≡ machine = here w machine c.self.view_is c.self.invariant Fifo is.mode_is in
    let events : marker_events (is_forced history to round) from state round ≡ marker_events forced
    from state round = ap (λ b. marker_events b from state round) (sym forced_is) in
    let count : length (marker_events forced from state round)
    ≡ c.if-forced.events = elim c.if-forced.branch [
      | then-forced t ↦ ap
          (λ b. length (marker_events b from state round)) t.if-forced.true ∙ sym t.events-is
      | else-forced t ↦ ap
          (λ b. length (marker_events b from state round)) t.if-forced.false ∙ sym t.events-is
    ] in
    let newly : newly_closed Fifo after running ≡ newly_listed Fifo history after last =
    marker_listed history last c.in-Markers.running rounds is.are from to round state p.to_in sent
    forced forced_is running c.in_ok-take_marker-in-Markers.ensures.number in
    let steps : new
    ≡ with_step old to (marker_events (is_forced history to round) from state round) last =
    ap (λ (ls : List ListedRound). seen Fifo c.take_marker.new.catalogue.processes
    c.take_marker.new.catalogue.marks last ls c.take_marker.new.links) listed
    ∙ step_seen Fifo history c.take_marker.new.catalogue.processes w.catalogue.marks
    c.take_marker.new.catalogue.marks last last rounds
    (newly_closed Fifo after running) w.links c.take_marker.new.links to
    (marker_events forced from state round) taken c.in_ok-take_marker-in-Markers.ensures.marks refl
    newly
    ∙ ap (λ (es : List Event). with_step old to es last) (sym events) in
    subst (λ (v : Machine). Takes v (Deliver from to c.args.place.pick state)
    (Done (Marked round forced)) new) same
    (subst (λ (r : Reply). Takes old (Deliver from to c.args.place.pick state) (Done r) new)
    (ap (λ b. Marked round b) (sym forced_is))
    (Takes-delivered old from to c.args.place.pick state (Marker round)
    (subst (λ (v : Machine). first_cause (link_causes v from to c.args.place.pick state) ≡ None)
    (sym same) c.requires.passed)
    (subst (λ (v : Machine). slice_get (items_on v from to) c.args.place.pick ≡ Some (Marker round))
    (sym same) c.requires.picked) new
    (ap (λ (es : List Event). is_full old to (length es)) events ∙ ap (is_full old to) count
    ∙ ap (λ (h : List Process). nat_lt MOST_EVENTS (length (tape_at h to) + c.if-forced.events))
    (sym c.history-in-Markers.ensures.processes) ∙ sym c.lacks_room.ensures ∙
    c.if-lacks_room.false) steps))

-- without an order no marker is on a link
pub unreachable-requires : goal.unreachable-requires
unreachable-requires c =
    (is_picked c.self.inside c.args.self.now c.self.view_is c.self.invariant c.args.place.from
    c.args.place.to c.args.place.pick c.args.state.now c.requires.passed
    (Marker c.args.round) c.requires.picked).only (ap mode_of c.in-Colours.is)
