-- A copy is put on the tape.
use Rattle.std.proofs.Common.{◌≡◌, ◌+◌, ℕ, Bool, List, [], ◌∷◌, length, Option, Some, None, refl}
use Rattle.std.proofs.Common.{sym, ap, ◌∙◌, subst}
use Rattle.std.specs.Prelude.{nat_lt, slice_get}
use Rattle.line_names.specs.declared.messages.MsgName.{MsgName}
use Rattle.line_tape.specs.declared.events.Event.{Event}
use Rattle.line_tape.specs.declared.events.Event.TheVariants.{Recv}
use Rattle.line_tape.specs.declared.items.Item.TheVariants.{Message}
use Rattle.line_tape.specs.declared.limits.TheConstants.{MOST_EVENTS}
use Rattle.line_tape.specs.History.{Process, tape_at, with_event}
use Rattle.line_rounds.specs.Kept.{ProcessTurns}
use Rattle.line_rounds.specs.Flags.{AreFlagged}
use Rattle.line_rounds.specs.Turning.{TurningView}
use Rattle.line_moves.specs.declared.fates.Fate.{Fate}
use Rattle.line_moves.specs.declared.fates.Fate.TheVariants.{Taken as IsTaken}
use Rattle.line_tape.specs.declared.modes.Mode.TheVariants.{Unordered}
use Rattle.line_moves.specs.Fates.{events_of, fate_of, forced_round}
use Rattle.line_moves.specs.Openings.{opened_turning}
use Rattle.line_moves.specs.Worlds.{AreRounds, IsPainted, IsWorld}
use Rattle.line_moves.proofs.OpeningLemmas.{none_listed, AreRounds-kept, IsOpening-unordered}
use Rattle.line_moves.proofs.WorldLemmas.{IsWorld-take}
use Rattle.line_world.specs.declared.replies.Answer.TheVariants.{Done}
use Rattle.line_world.specs.declared.replies.Reply.{Reply}
use Rattle.line_world.specs.declared.replies.Reply.TheVariants.{Took}
use Rattle.line_tape.specs.declared.steps.Step.TheVariants.{Deliver}
use Rattle.line_world.specs.declared.worlds.World.TheInside.{Inside}
use Rattle.line_world.specs.Machine.{Machine, items_on, with_step}
use Rattle.line_world.specs.Protocols.{mode_of}
use Rattle.line_world.specs.Refusals.{first_cause, is_full, link_causes}
use Rattle.line_world.specs.Runs.{Takes}
use Rattle.line_world.specs.Steps.{reply_of}
use Rattle.line_world.proofs.DeliverLemmas.{quiet_seen, Takes-delivered}
use Rattle.line_world.proofs.FlaggedLemmas.{sent_here}
use Rattle.line_world.proofs.KnownFacts.{one_kind, is_copy, here, IsColoured, IsPicked, IsTakenCopy}
use Rattle.line_world.proofs.PaintLemmas.{painted_take}
use Rattle.line_world.proofs.SeenLemmas.{seen}
use Rattle.line_world.proofs.worlds.World.take_unforced.Goals as goal

pub invariant_of-self-in-Colours : goal.invariant_of-self-in-Colours
invariant_of-self-in-Colours c =
    let w : Inside = c.self.inside in
    let history : List Process = w.catalogue.processes in
    let last : ℕ = w.last_round in
    let from : ℕ = c.args.place.from in
    let to : ℕ = c.args.place.to in
    let pick : ℕ = c.args.place.pick in
    let m : MsgName = c.args.message.now in
    let e : Event = Recv m in
    let turning : Option TurningView = c.in-Colours.turning in
    let colours : List ProcessTurns = c.in-Colours.colours in
    let received : List (List Bool) = c.in-Colours.received in
    let copy : IsTakenCopy w turning colours received from to pick m None =
    is_copy w c.args.self.now c.self.view_is c.self.invariant from to pick c.args._state.now
    c.requires.passed turning colours received c.in-Colours.is m c.requires.picked
    c.requires.taken None c.requires.unforced in
    let is : IsColoured w turning colours received = copy.coloured in
    let p : IsPicked w from to pick (Message m) = copy.picked in
    let done : c.take_copy.new.catalogue.processes
    ≡ with_event history to e = c.in_ok-take_copy-in-Colours.ensures.taken in (
      subst (λ (h : List Process). IsWorld Unordered h w.links) (sym done)
          (IsWorld-take history w.links from to p.from_in p.to_in m p.of_sender pick p.at p.apart
          Unordered is.world (λ f. p.first (is.mode_is ∙ f)) copy.fate),
      subst (λ (h : List Process). AreRounds Unordered h last
          (opened_turning turning) w.rounds.items) (sym done)
          (AreRounds-kept history to e p.to_in (λ r. refl) (λ r q. refl) Unordered last
          (opened_turning turning) (opened_turning turning) w.rounds.items refl
          (IsOpening-unordered history to e p.to_in (λ r. refl)
          (opened_turning turning) is.are.opening) is.are),
      (
        subst (λ (h : List Process). IsPainted h colours) (sym done)
            (painted_take history w.links colours from to p.from_in p.to_in m p.of_sender pick p.at
            is.world copy.fate copy.forces is.painted),
        subst (λ (h : List Process). AreFlagged h c.receive.new.self) (sym done)
            (c.receive.ensures.received history to is.flagged p.to_in (sent_here history w.links
            from to m pick p.from_in p.to_in p.at is.world copy.held)),
      ),
    )

pub returns-clause-done : goal.returns-clause-done
returns-clause-done c =
    let w : Inside = c.self.inside in
    let history : List Process = w.catalogue.processes in
    let last : ℕ = w.last_round in
    let from : ℕ = c.args.place.from in
    let to : ℕ = c.args.place.to in
    let pick : ℕ = c.args.place.pick in
    let m : MsgName = c.args.message.now in
    let state : List ℕ = c.args._state.now in
    let e : Event = Recv m in
    let turning : Option TurningView = c.in-Colours.turning in
    let colours : List ProcessTurns = c.in-Colours.colours in
    let received : List (List Bool) = c.in-Colours.received in
    let copy : IsTakenCopy w turning colours received from to pick m None =
    is_copy w c.args.self.now c.self.view_is c.self.invariant from to pick state c.requires.passed
    turning colours received c.in-Colours.is m c.requires.picked c.requires.taken None
    c.requires.unforced in
    let is : IsColoured w turning colours received = copy.coloured in
    let p : IsPicked w from to pick (Message m) = copy.picked in
    let forced : Option ℕ = forced_round Unordered history to m in
    let events : events_of (fate_of Unordered history to m) forced state m
    ≡ e ∷ [] = ap (λ (f : Fate). events_of f forced state m) copy.fate ∙ ap
    (λ (o : Option ℕ). events_of IsTaken o state m) copy.forces in
    let old : Machine = seen Unordered history w.catalogue.marks last w.rounds.items w.links in
    let next : Machine = seen Unordered c.take_copy.new.catalogue.processes
    c.take_copy.new.catalogue.marks last w.rounds.items w.links in
    let same : old ≡ c.args.self.now = here w c.args.self.now c.self.view_is c.self.invariant
    Unordered is.mode_is in
    subst (λ (v : Machine). Takes v (Deliver from to pick state) (Done (Took m None)) next) same
    (subst (λ (r : Reply). Takes old (Deliver from to pick state) (Done r) next) (ap (λ (f : Fate).
    reply_of f forced m) copy.fate ∙ ap (λ (o : Option ℕ). reply_of IsTaken o m) copy.forces)
    (Takes-delivered old from to pick state (Message m)
    (subst (λ (v : Machine). first_cause (link_causes v from to pick state) ≡ None)
    (sym same) c.requires.passed)
    (subst (λ (v : Machine). slice_get (items_on v from to) pick ≡ Some (Message m))
    (sym same) c.requires.picked) next
    (ap (λ (es : List Event). is_full old to (length es)) events
    ∙ ap (λ (h : List Process). nat_lt MOST_EVENTS (length (tape_at h to) + 1))
    (sym c.history.ensures.processes) ∙ sym c.lacks_room.ensures ∙ c.if-lacks_room.false)
    (quiet_seen Unordered history c.take_copy.new.catalogue.processes w.catalogue.marks
    c.take_copy.new.catalogue.marks last w.rounds.items w.links w.links to (e ∷ [])
    c.in_ok-take_copy-in-Colours.ensures.taken c.in_ok-take_copy-in-Colours.ensures.marks refl
    (none_listed history to e p.to_in (λ r. refl) (λ r q. refl) Unordered last)
    ∙ ap (λ (es : List Event). with_step old to es last) (sym events))))

-- links that keep their order have markers
pub unreachable-requires : goal.unreachable-requires
unreachable-requires c = one_kind (mode_of c.self.inside.protocol) (ap mode_of c.in-Markers.is)
    (ap (λ (v : Machine). v.mode) c.self.view_is ∙ c.requires.unordered)
