-- The first cause refuses, or the message is put.
use Rattle.std.proofs.Common.{◌≡◌, ◌<◌, ◌≤◌, ◌+◌, ℕ, List, length, None, refl, sym, ap, ◌∙◌, subst}
use Rattle.std.proofs.Common.{arith, Option}
use Rattle.std.proofs.lemmas.Bool.{ltb-false}
use Rattle.std.proofs.lemmas.Grind.{common_steps}
use Rattle.line_tape.specs.declared.items.Item.{Item}
use Rattle.line_tape.specs.declared.events.Event.TheVariants.{Send as SendEvent}
use Rattle.line_tape.specs.declared.limits.TheConstants.{MOST_EVENTS}
use Rattle.line_tape.specs.Event.{sends}
use Rattle.line_tape.specs.Fit.{IsFitUnordered}
use Rattle.line_tape.specs.History.{Process, tape_at, incarnation_at, with_event}
use Rattle.line_world.specs.declared.replies.Reply.TheVariants.{Sent}
use Rattle.line_tape.specs.declared.steps.Step.TheVariants.{Send}
use Rattle.line_world.specs.Machine.{Machine}
use Rattle.line_world.specs.Refusals.{refusal_of}
use Rattle.line_world.specs.Steps.{Does}
use Rattle.line_moves.specs.Openings.{OpenView}
use Rattle.line_moves.specs.Worlds.{IsWorld}
use Rattle.line_moves.specs.Listed.{ListedRound}
use Rattle.line_tape.specs.declared.modes.Mode.{Mode}
use Rattle.line_tape.specs.declared.events.Event.{Event}
use Rattle.line_moves.proofs.OpeningLemmas.{AreRounds-kept, IsOpening-kept, none_listed}
use Rattle.line_moves.specs.Modes.{IsFitIn}
use Rattle.line_tape.specs.Views.{MarksView}
use Rattle.line_world.specs.declared.protocols.Protocol.{Protocol}
use Rattle.line_world.specs.declared.protocols.Protocol.TheVariants.{Colours}
use Rattle.line_world.specs.declared.worlds.World.TheInside.{Inside}
use Rattle.line_world.specs.Protocols.{mode_of, open_round_of, IsFollowing}
use Rattle.line_world.proofs.KnownFacts.{kept_with, shown, IsKept}
use Rattle.line_world.proofs.PaintLemmas.{IsReady, ready_flag, ready_none}
use Rattle.line_moves.proofs.WorldLemmas.{IsFit-world, IsWorld-send}
use Rattle.line_world.proofs.SeenLemmas.{Sends-seen, seen}
use Rattle.line_world.proofs.worlds.World.send.Goals.{After-put_message, in-Colours+in_ok-reserve}
use Rattle.line_world.proofs.worlds.World.send.Goals.{in_default}
use Rattle.line_world.proofs.worlds.World.send.Goals as goal

-- the world once the flag of this send has room, where its links have flags
record HasFlag (machine : Machine) (from : ℕ) (w v : Inside) : Type 0 where
  same : v.catalogue.processes ≡ w.catalogue.processes
  view : shown v ≡ machine
  kept : IsKept v
  next : (to : ℕ) (body : List ℕ) → IsFollowing (with_event v.catalogue.processes from
      (SendEvent to (incarnation_at v.catalogue.processes from) body)) v.protocol

has_flag : (machine : Machine) (from : ℕ) (w : Inside) → shown w ≡ machine → IsKept w
    → (protocol : Protocol) → IsReady w.catalogue.processes from w.protocol protocol
    → HasFlag machine from w (record w { protocol = protocol })
has_flag machine from w view kept protocol is = record {
  same = refl;
  view = ap (λ (m : Mode). seen m w.catalogue.processes w.catalogue.marks w.last_round
      w.rounds.items w.links) is.mode ∙ view;
  kept = kept_with (mode_of w.protocol)
      (open_round_of w.protocol) protocol is.mode is.opened w.catalogue.processes
      w.catalogue.processes refl w.links w.last_round w.rounds.items kept.0 kept.1 is.same;
  next = is.next;
}

ready : (c : After-put_message)
    → HasFlag c.args.self.now c.args.from c.self.inside c.match-self.self-inside
ready c =
    let machine : Machine = c.args.self.now in
    let w : Inside = c.self.inside in
    let history : List Process = w.catalogue.processes in
    let from : ℕ = c.args.from in
    let told : c.history-history.result.now.processes
    ≡ history = c.history-history.ensures.processes in
    let within : from < length history = omega (arith, ap (λ (h : List Process). length h) told) in
    elim c.match-self.branch [
      | in-Colours+in_ok-reserve v ↦
          let e : w.protocol ≡ Colours v.in-Colours.turning v.in-Colours.colours
          v.in-Colours.received = v.in-Colours.is in
          let fits : IsFitIn (mode_of w.protocol) history = IsFit-world
          (mode_of w.protocol) history w.links c.self.invariant.0 in
          let is : IsFollowing history (Colours v.in-Colours.turning v.in-Colours.colours
          v.in-Colours.received) = subst (IsFollowing history) e c.self.invariant.2 in
          let fit : IsFitUnordered history = subst
          (λ (q : Protocol). IsFitIn (mode_of q) history) e fits in
          let sent : v.sends.result
          ≡ sends (tape_at history from) = v.sends.ensures.value ∙ ap sends
          v.tape.ensures.events ∙ ap (λ (h : List Process). sends (tape_at h from)) told in
          subst (HasFlag machine from w) (sym v.self-inside-is)
          (has_flag machine from w c.self.view_is c.self.invariant
          (Colours v.in-Colours.turning v.in-Colours.colours v.reserve.new.self)
          (ready_flag history from w.protocol v.in-Colours.turning v.in-Colours.colours
          v.in-Colours.received v.reserve.new.self e within fits c.self.invariant.2
          (v.reserve.ensures.same history is.1)
          (λ to inc body. v.in_ok-reserve.ensures.ok history to inc body is.1 fit sent)))
      | in_default v ↦
          subst (HasFlag machine from w) (sym v.self-inside-is)
          (record {
            same = refl;
            view = c.self.view_is;
            kept = c.self.invariant;
            next =
                (ready_none history from w.protocol v.in_default.not-Colours).next;
          })
    ]

pub put_message-requires-clause-from : goal.put_message-requires-clause-from
put_message-requires-clause-from c =
    let same : length c.match-self.self-inside.catalogue.processes
    ≡ length c.self.inside.catalogue.processes = elim c.match-self.branch [
      | in-Colours+in_ok-reserve v ↦ ap
          (λ (u : Inside). length u.catalogue.processes) v.self-inside-is
      | in_default v ↦ ap (λ (u : Inside). length u.catalogue.processes) v.self-inside-is
    ] in
    omega (arith, same, ap (λ (h : List Process). length h) c.history-history.ensures.processes)

pub put_message-requires-clause-to : goal.put_message-requires-clause-to
put_message-requires-clause-to c =
    let same : length c.match-self.self-inside.catalogue.processes
    ≡ length c.self.inside.catalogue.processes = elim c.match-self.branch [
      | in-Colours+in_ok-reserve v ↦ ap
          (λ (u : Inside). length u.catalogue.processes) v.self-inside-is
      | in_default v ↦ ap (λ (u : Inside). length u.catalogue.processes) v.self-inside-is
    ] in
    omega (arith, same, ap (λ (h : List Process). length h) c.history-history.ensures.processes)

pub put_message-requires-clause-few : goal.put_message-requires-clause-few
put_message-requires-clause-few c =
    let from : ℕ = c.args.from in
    let same : length (tape_at c.match-self.self-inside.catalogue.processes from)
    ≡ length (tape_at c.self.inside.catalogue.processes from) = elim c.match-self.branch [
      | in-Colours+in_ok-reserve v ↦ ap
          (λ (u : Inside). length (tape_at u.catalogue.processes from)) v.self-inside-is
      | in_default v ↦ ap
          (λ (u : Inside). length (tape_at u.catalogue.processes from)) v.self-inside-is
    ] in
    let room : length
    (tape_at c.history-history.result.now.processes from) + 1 ≤ MOST_EVENTS = ltb-false
    MOST_EVENTS (length (tape_at c.history-history.result.now.processes from) + 1)
    (sym c.lacks_room.ensures ∙ c.if-lacks_room.false) in
    omega (
      arith,
      room,
      same,
      ap
          (λ (h : List Process). length (tape_at h from)) c.history-history.ensures.processes,
    )

pub returns-in_err-message-clause-memory : goal.returns-in_err-message-clause-memory
returns-in_err-message-clause-memory c = λ wanted.
    let w : Inside = c.match-self.self-inside in
    let mode : Mode = mode_of w.protocol in
    let r = ready (goal.at.returns-in_err-message-clause-memory c).After-put_message in
    ap (λ (h : List Process). seen mode h c.put_message.new.catalogue.marks w.last_round
    w.rounds.items c.put_message.new.links) c.in_err-message.ensures.err
    ∙ ap (λ (v : MarksView). seen mode w.catalogue.processes v w.last_round w.rounds.items
    c.put_message.new.links) c.in_err-message.ensures.marks
    ∙ ap (λ (q : List (List (List Item))). seen mode w.catalogue.processes w.catalogue.marks
    w.last_round w.rounds.items q) c.in_err-message.ensures.kept
    ∙ r.view

pub invariant_of-self-in_err-message : goal.invariant_of-self-in_err-message
invariant_of-self-in_err-message c =
    let w : Inside = c.match-self.self-inside in
    let history : List Process = w.catalogue.processes in
    let r = ready (goal.at.invariant_of-self-in_err-message c).After-put_message in
    kept_with (mode_of w.protocol)
    (open_round_of w.protocol) w.protocol refl refl c.put_message.new.catalogue.processes
    history c.in_err-message.ensures.err c.put_message.new.links w.last_round w.rounds.items
    (subst (λ (q : List (List (List Item))). IsWorld (mode_of w.protocol) history q)
    (sym c.in_err-message.ensures.kept) r.kept.0) r.kept.1 r.kept.2

pub invariant_of-self-2 : goal.invariant_of-self-2
invariant_of-self-2 c =
    let w : Inside = c.match-self.self-inside in
    let r = ready (goal.at.invariant_of-self-2 c).After-put_message in
    let history : List Process = w.catalogue.processes in
    let mode : Mode = mode_of w.protocol in
    let running : Option OpenView = open_round_of w.protocol in
    let e : Event = SendEvent c.args.to (incarnation_at history c.args.from) c.args.body.now in
    let size : length history ≡ length c.history-history.result.now.processes = ap
    (λ (h : List Process). length h) (r.same ∙ sym c.history-history.ensures.processes) in
    let from_within : c.args.from < length history = omega (arith, size) in
    let to_within : c.args.to < length history = omega (arith, size) in
    kept_with mode running w.protocol refl refl c.put_message.new.catalogue.processes
    (with_event history c.args.from e) c.in_ok-message.ensures.sent c.put_message.new.links
    w.last_round w.rounds.items
    (subst (λ (q : List (List (List Item))). IsWorld mode (with_event history c.args.from e) q)
    (sym c.in_ok-message.ensures.put)
    (IsWorld-send history w.links c.args.from c.args.to from_within to_within mode r.kept.0
    c.args.body.now))
    (AreRounds-kept history c.args.from e from_within (λ n. refl)
    (λ n p. refl) mode w.last_round running running w.rounds.items refl
    (IsOpening-kept history c.args.from e from_within (λ n. refl) mode running (λ n p. refl)
    (λ n p. refl) r.kept.1.opening) r.kept.1)
    (r.next c.args.to c.args.body.now)

pub returns-clause-done : goal.returns-clause-done
returns-clause-done c =
    let w : Inside = c.match-self.self-inside in
    let none : refusal_of c.args.self.now (Send c.args.from c.args.to c.args.body.now)
    ≡ None = grind (arith, common_steps) in
    let r = ready (goal.at.returns-clause-done c).After-put_message in
    let history : List Process = w.catalogue.processes in
    let mode : Mode = mode_of w.protocol in
    let last : ℕ = w.last_round in
    let rounds : List ListedRound = w.rounds.items in
    let e : Event = SendEvent c.args.to (incarnation_at history c.args.from) c.args.body.now in
    let from_within : c.args.from < length history = omega (
      arith,
      ap
          (λ (h : List Process). length h) (r.same ∙ sym c.history-history.ensures.processes),
    ) in (
      none,
      subst (λ (m : Machine). Does m (Send c.args.from c.args.to c.args.body.now)
          (Sent c.in_ok-message.message) (seen mode c.put_message.new.catalogue.processes
          c.put_message.new.catalogue.marks last rounds c.put_message.new.links)) r.view
          (Sends-seen mode history w.catalogue.marks last rounds w.links c.args.from c.args.to
          c.args.body.now c.in_ok-message.message c.put_message.new.catalogue.processes
          c.put_message.new.catalogue.marks c.put_message.new.links c.in_ok-message.ensures.name
          c.in_ok-message.ensures.sent c.in_ok-message.ensures.marks c.in_ok-message.ensures.put
          (none_listed history c.args.from e from_within (λ n. refl) (λ n p. refl) mode last)),
    )
