-- What is known of a world once nothing refuses its step, and what a check of a round leaves of it.
use Rattle.std.proofs.Common.{◌≡◌, ◌≢◌, ℕ, zero, suc, ◌<◌, ◌++◌, Bool, false, List, [], ◌∷◌, length}
use Rattle.std.proofs.Common.{Option, Some, None, sym, ap, ◌∙◌, subst, arith, cond, inl, inr}
use Rattle.std.specs.Prelude.{◌&&◌, not, slice_get}
use Rattle.std.proofs.lemmas.Bool.{both_ways, cases_lt, le-ltb, lt-ltb}
use Rattle.line_names.specs.declared.messages.MsgName.{MsgName}
use Rattle.line_tape.specs.declared.items.Item.{Item}
use Rattle.line_tape.specs.declared.items.Item.TheVariants.{Message}
use Rattle.line_tape.specs.Event.{Holds}
use Rattle.line_tape.specs.History.{Process, tape_at}
use Rattle.line_tape.specs.Rounds.{has_check_of}
use Rattle.line_tape.specs.Colours.{colour, message_colour, AreColoured}
use Rattle.std.specs.Option.{SomeIff}
use Rattle.line_rounds.specs.Flags.{AreFlagged}
use Rattle.line_rounds.specs.Kept.{ProcessTurns, AreTurned}
use Rattle.line_rounds.specs.Tables.{between}
use Rattle.line_rounds.specs.Turning.{TurningView}
use Rattle.line_moves.specs.declared.fates.Fate.{Fate}
use Rattle.line_moves.specs.declared.fates.Fate.TheVariants.{Taken}
use Rattle.line_tape.specs.declared.modes.Mode.{Mode}
use Rattle.line_tape.specs.declared.modes.Mode.TheVariants.{Fifo, Unordered}
use Rattle.line_moves.specs.Fates.{fate_of, forced_round}
use Rattle.line_moves.specs.Listed.{ListedRound, is_begun, is_completed}
use Rattle.line_moves.specs.Openings.{OpenView, left_open, newly_closed, opened_by, opened_turning}
use Rattle.line_moves.specs.Openings.{IsOpenTurning, IsListedOrOpen}
use Rattle.line_moves.specs.Worlds.{AreRounds, IsItemOf, IsMessage, IsPainted, IsWorld}
use Rattle.line_moves.proofs.TurnFacts.{may_turn_none, open_is}
use Rattle.line_moves.proofs.WorldLemmas.{items-world, IsWorld-held}
use Rattle.line_tape.specs.declared.steps.Step.TheVariants.{Begin, Turn}
use Rattle.line_world.specs.declared.protocols.Protocol.{Protocol}
use Rattle.line_world.specs.declared.protocols.Protocol.TheVariants.{Markers, Colours}
use Rattle.line_world.specs.declared.worlds.World.TheInside.{Inside}
use Rattle.line_world.specs.Protocols.{mode_of, open_round_of, IsFollowing}
use Rattle.line_world.specs.Machine.{Machine, is_open, items_on}
use Rattle.line_world.specs.Refusals.{first_cause, link_causes, may_turn, refusal_of}
use Rattle.line_world.proofs.DeliverLemmas.{first_in_order, from_within, picked_at, picked_message}
use Rattle.line_world.proofs.DeliverLemmas.{picked_of, to_within}
use Rattle.line_world.proofs.SeenLemmas.{seen}
use Rattle.line_world.proofs.StepLemmas.{may_begin, may_deliver, may_turn_at, turns_anew}
use Rattle.line_world.proofs.TurnedFacts.{has_none, none_is_open}

-- the machine that it shows
abbrev pub shown : Inside → Machine
shown w = seen
    (mode_of w.protocol) w.catalogue.processes w.catalogue.marks w.last_round w.rounds.items w.links

-- what it keeps true
abbrev pub IsKept : Inside → Type 0
IsKept w =
    IsWorld (mode_of w.protocol) w.catalogue.processes w.links
    × AreRounds (mode_of w.protocol) w.catalogue.processes w.last_round
    (open_round_of w.protocol) w.rounds.items
    × IsFollowing w.catalogue.processes w.protocol

-- links that keep their order
pub record IsInOrder (w : Inside) (running : Option OpenView) : Type 0 where
  pub mode_is : mode_of w.protocol ≡ Fifo
  pub world : IsWorld Fifo w.catalogue.processes w.links
  pub are : AreRounds Fifo w.catalogue.processes w.last_round running w.rounds.items

-- links that keep none
pub record IsColoured (w : Inside) (turning : Option TurningView) (colours : List ProcessTurns)
    (received : List (List Bool)) : Type 0 where
  pub mode_is : mode_of w.protocol ≡ Unordered
  pub world : IsWorld Unordered w.catalogue.processes w.links
  pub are : AreRounds Unordered w.catalogue.processes w.last_round
      (opened_turning turning) w.rounds.items
  pub painted : IsPainted w.catalogue.processes colours
  pub flagged : AreFlagged w.catalogue.processes received

-- the item that a delivery picks
pub record IsPicked (w : Inside) (from to pick : ℕ) (item : Item) : Type 0 where
  pub from_in : from < length w.catalogue.processes
  pub to_in : to < length w.catalogue.processes
  pub apart : from ≢ to
  pub at : slice_get (between w.links from to) pick ≡ Some item
  pub of_sender : IsItemOf from item
  pub first : mode_of w.protocol ≡ Fifo → pick ≡ 0
  pub only : mode_of w.protocol ≡ Unordered → IsMessage item

-- process p may begin a round
pub record MayStart (w : Inside) (p : ℕ) : Type 0 where
  pub within : p < length w.catalogue.processes
  pub closed : (mode : Mode) → mode_of w.protocol ≡ mode → (is_begun w.catalogue.processes
      w.last_round && not (is_completed mode w.catalogue.processes w.last_round)) ≡ false

-- a round of colours is open of which process p has no check yet
pub record MayCatch (w : Inside) (turning : Option TurningView) (colours : List ProcessTurns)
    (received : List (List Bool)) (p : ℕ) : Type 0 where
  pub coloured : IsColoured w turning colours received
  pub within : p < length w.catalogue.processes
  pub kept : IsOpenTurning w.catalogue.processes w.last_round turning
  pub are : AreRounds Unordered w.catalogue.processes w.last_round
      (Some (opened_by kept.round)) w.rounds.items
  pub lacks : has_check_of w.last_round (tape_at w.catalogue.processes p) ≡ false

-- the round of the check that a message forces, as it is answered
pub forced_told : (history : List Process) (to : ℕ) (message : MsgName) (answer : Option ℕ)
    → SomeIff answer (colour (tape_at history to) < message_colour history message)
    (message_colour history message)
    → forced_round Unordered history to message ≡ answer
forced_told history to message None not_less =
    elim (cases_lt (colour (tape_at history to)) (message_colour history message)) [
      | inl less ↦ absurd (not_less less)
      | inr most ↦ ap (λ b. cond b (Some (message_colour history message)) None)
          (le-ltb (colour (tape_at history to)) (message_colour history message)
          (omega (arith, most)))
    ]
forced_told history to message (Some round) told =
    ap (λ b. cond b (Some (message_colour history message)) None)
    (lt-ltb (colour (tape_at history to)) (message_colour history message) told.0)
    ∙ ap (λ (r : ℕ). Some r) (sym told.1)

-- a copy that is taken, behind the check that it forces, if it forces one
pub record IsTakenCopy (w : Inside) (turning : Option TurningView) (colours : List ProcessTurns)
    (received : List (List Bool)) (from to pick : ℕ) (message : MsgName)
    (forced : Option ℕ) : Type 0 where
  pub coloured : IsColoured w turning colours received
  pub picked : IsPicked w from to pick (Message message)
  pub fate : fate_of Unordered w.catalogue.processes to message ≡ Taken
  pub held : Holds (tape_at w.catalogue.processes message.from) message.inc message.number
  pub forces : forced_round Unordered w.catalogue.processes to message ≡ forced

module _ (w : Inside) (machine : Machine) (view : shown w ≡ machine) (kept : IsKept w) where
  pub is_in_order : (running : Option OpenView) → w.protocol ≡ Markers running → IsInOrder w running
  is_in_order running e = record {
    mode_is = ap mode_of e;
    world = subst (λ (p : Protocol). IsWorld (mode_of p) w.catalogue.processes w.links) e kept.0;
    are = subst (λ (p : Protocol). AreRounds (mode_of p) w.catalogue.processes w.last_round
        (open_round_of p) w.rounds.items) e kept.1;
  }

  -- the machine, in the words of the kind of links
  pub here : (mode : Mode) → mode_of w.protocol ≡ mode → seen mode w.catalogue.processes
      w.catalogue.marks w.last_round w.rounds.items w.links ≡ machine
  here mode e = ap (λ (m : Mode). seen m w.catalogue.processes w.catalogue.marks w.last_round
      w.rounds.items w.links) (sym e) ∙ view

  pub may_start : (p : ℕ) (state : List ℕ) → refusal_of machine (Begin p state) ≡ None
      → MayStart w p
  may_start p state none =
      let may = may_begin machine p state none in
      record {
        within = omega (arith, may.within, ap (λ (m : Machine). length m.history) view);
        closed = λ mode same. ap is_open (here mode same) ∙ may.closed;
      }

  module _ (turning : Option TurningView) (colours : List ProcessTurns)
      (received : List (List Bool)) (e : w.protocol ≡ Colours turning colours received) where
    pub is_coloured : IsColoured w turning colours received
    is_coloured =
        let following : IsFollowing w.catalogue.processes (Colours turning colours received) = subst
        (IsFollowing w.catalogue.processes) e kept.2 in
        record {
          mode_is = ap mode_of e;
          world =
              subst (λ (p : Protocol). IsWorld (mode_of p) w.catalogue.processes w.links) e kept.0;
          are = subst (λ (p : Protocol). AreRounds (mode_of p) w.catalogue.processes w.last_round
              (open_round_of p) w.rounds.items) e kept.1;
          painted = following.0;
          flagged = following.1;
        }

    pub may_turn_now : (p : ℕ) (state : List ℕ) → refusal_of machine (Turn p state) ≡ None
        → MayCatch w turning colours received p
    may_turn_now p state none =
        let may = may_turn_at machine p state none in
        let coloured = is_coloured in
        let turns : may_turn (seen Unordered w.catalogue.processes w.catalogue.marks w.last_round
        w.rounds.items w.links) p ≡ may_turn machine p =
        ap (λ (m : Machine). may_turn m p) (here Unordered coloured.mode_is) in
        let open_now = open_is w.catalogue.processes w.last_round turning w.rounds.items
        coloured.are
        (λ (are : AreRounds Unordered w.catalogue.processes w.last_round None w.rounds.items).
        both_ways (may_turn machine p) (sym (may_turn_none w.catalogue.processes w.last_round
        w.rounds.items are p ∙ turns)) may.may) in
        record {
          coloured = coloured;
          within = omega (arith, may.within, ap (λ (m : Machine). length m.history) view);
          kept = open_now;
          are = subst (λ (o : Option TurningView). AreRounds Unordered w.catalogue.processes
              w.last_round (opened_turning o) w.rounds.items) open_now.is coloured.are;
          lacks = turns_anew
              (is_begun w.catalogue.processes w.last_round
              && not (is_completed Unordered w.catalogue.processes w.last_round))
              (has_check_of w.last_round (tape_at w.catalogue.processes p)) (turns ∙ may.may);
        }

  -- a queue is what its link holds
  pub shows : (from to : ℕ) → from < length machine.history → to < length machine.history
      → from ≢ to → between w.links from to ≡ items_on machine from to
  shows from to from_within to_within apart =
      let size : length w.catalogue.processes
      ≡ length machine.history = ap (λ (m : Machine). length m.history) view in
      items-world (mode_of w.protocol) w.catalogue.processes w.links kept.0 from to
      (omega (arith, from_within, size)) (omega (arith, to_within, size)) apart ∙ ap
      (λ (m : Machine). items_on m from to) view

  module _ (from to pick : ℕ) (state : List ℕ)
      (passed : first_cause (link_causes machine from to pick state) ≡ None) where
    pub is_picked : (item : Item) → slice_get (items_on machine from to) pick ≡ Some item
        → IsPicked w from to pick item
    is_picked item picked = record {
      from_in = from_within
          (mode_of w.protocol) w.catalogue.processes w.catalogue.marks w.last_round w.rounds.items
          w.links machine view kept.0 from to pick state item passed picked;
      to_in = to_within (mode_of w.protocol) w.catalogue.processes w.catalogue.marks w.last_round
          w.rounds.items w.links machine view kept.0 from to pick state item passed picked;
      apart = (may_deliver machine from to pick state passed).apart;
      at = picked_at (mode_of w.protocol) w.catalogue.processes w.catalogue.marks w.last_round
          w.rounds.items w.links machine view kept.0 from to pick state item passed picked;
      of_sender = picked_of
          (mode_of w.protocol) w.catalogue.processes w.catalogue.marks w.last_round w.rounds.items
          w.links machine view kept.0 from to pick state item passed picked;
      only = picked_message
          (mode_of w.protocol) w.catalogue.processes w.catalogue.marks w.last_round w.rounds.items
          w.links machine view kept.0 from to pick state item passed picked;
      first = first_in_order
          (mode_of w.protocol) w.catalogue.processes w.catalogue.marks w.last_round w.rounds.items
          w.links machine view kept.0 from to pick state item passed picked;
    }

    pub is_taken_copy : (turning : Option TurningView) (colours : List ProcessTurns)
        (received : List (List Bool)) → w.protocol ≡ Colours turning colours received
        → (message : MsgName) → slice_get (items_on machine from to) pick ≡ Some (Message message)
        → (history : List Process) → history ≡ w.catalogue.processes → (fate : Fate)
        → fate ≡ fate_of Unordered history to message → fate ≡ Taken
        → (answer : Option ℕ) → ((h : List Process) → AreTurned h colours → AreColoured h
        → Holds (tape_at h message.from) message.inc message.number
        → SomeIff answer (colour (tape_at h to) < message_colour h message)
        (message_colour h message))
        → (forced : Option ℕ) → answer ≡ forced
        → IsTakenCopy w turning colours received from to pick message forced
    is_taken_copy turning colours received e message picked history told fate fate_is taken answer
        answers forced is =
        let here : List Process = w.catalogue.processes in
        let coloured = is_coloured turning colours received e in
        let p = is_picked (Message message) picked in
        let taken_here : fate_of Unordered here to message ≡ Taken = ap (λ
        (h : List Process). fate_of Unordered h to message) (sym told) ∙ sym fate_is ∙ taken in
        let held = IsWorld-held here w.links from to p.from_in p.to_in message p.of_sender pick p.at
        p.apart Unordered coloured.world (λ f. p.first (coloured.mode_is ∙ f)) taken_here in
        record {
          coloured = coloured;
          picked = p;
          fate = taken_here;
          held = held;
          forces = forced_told here to message answer
              (answers here coloured.painted.turned coloured.painted.coloured held) ∙ is;
        }

    -- the same, where its fate is told of the machine
    pub is_copy : (turning : Option TurningView) (colours : List ProcessTurns)
        (received : List (List Bool)) → w.protocol ≡ Colours turning colours received
        → (message : MsgName) → slice_get (items_on machine from to) pick ≡ Some (Message message)
        → fate_of Unordered machine.history to message ≡ Taken
        → (forced : Option ℕ) → forced_round Unordered machine.history to message ≡ forced
        → IsTakenCopy w turning colours received from to pick message forced
    is_copy turning colours received e message picked taken forced forces =
        let own : List Process = w.catalogue.processes in
        let same : own ≡ machine.history = ap (λ (m : Machine). m.history) view in
        let coloured = is_coloured turning colours received e in
        let p = is_picked (Message message) picked in
        let taken_here : fate_of Unordered own to message
        ≡ Taken = ap (λ (h : List Process). fate_of Unordered h to message) same ∙ taken in
        record {
          coloured = coloured;
          picked = p;
          fate = taken_here;
          held = IsWorld-held own w.links from to p.from_in p.to_in message p.of_sender pick p.at
              p.apart Unordered coloured.world (λ f. p.first (coloured.mode_is ∙ f)) taken_here;
          forces = ap (λ (h : List Process). forced_round Unordered h to message) same ∙ forces;
        }

-- links do not keep their order and keep none
pub one_kind : (mode : Mode) → mode ≡ Fifo → mode ≡ Unordered → ⊥
one_kind Fifo fifo unordered = absurd (cc)
one_kind Unordered fifo unordered = absurd (cc)

-- one that forces a check has process `to` take its check of the open round first
pub may_catch : (w : Inside) (turning : Option TurningView) (colours : List ProcessTurns)
    (received : List (List Bool)) (from to pick : ℕ) (message : MsgName) (round : ℕ)
    → IsTakenCopy w turning colours received from to pick message (Some round)
    → MayCatch w turning colours received to
may_catch w turning colours received from to pick message round is =
    let history : List Process = w.catalogue.processes in
    let coloured = is.coloured in
    let p = is.picked in
    let open_now = open_is history w.last_round turning w.rounds.items coloured.are
    (none_is_open history w.links colours w.last_round coloured.world coloured.painted from to
    p.from_in p.to_in message p.of_sender pick p.at is.fate round is.forces w.rounds.items) in
    let are : AreRounds Unordered history w.last_round
    (Some (opened_by open_now.round)) w.rounds.items =
    subst (λ (o : Option TurningView). AreRounds Unordered history w.last_round
    (opened_turning o) w.rounds.items) open_now.is coloured.are in
    record {
      coloured = coloured;
      within = p.to_in;
      kept = open_now;
      are = are;
      lacks = has_none history w.links colours w.last_round coloured.world coloured.painted from to
          p.from_in p.to_in message p.of_sender pick p.at is.fate round is.forces open_now.round
          w.rounds.items are;
    }

-- what a world keeps true, said of another protocol for the same links, with a round that is kept
-- as open
pub kept_with : (mode : Mode) (open_round : Option OpenView) (protocol : Protocol)
    → mode_of protocol ≡ mode → open_round_of protocol ≡ open_round → (history after : List Process)
    → history ≡ after → (links : List (List (List Item))) (last : ℕ)
    (rounds : List ListedRound) → IsWorld mode after links
    → AreRounds mode after last open_round rounds → IsFollowing after protocol
    → IsWorld (mode_of protocol) history links × AreRounds (mode_of protocol) history last
    (open_round_of protocol) rounds × IsFollowing history protocol
kept_with mode open_round protocol mode_is opened_is history after same links last rounds world are
    following = (
      subst (λ (h : List Process). IsWorld (mode_of protocol) h links) (sym same)
          (subst (λ (m : Mode). IsWorld m after links) (sym mode_is) world),
      subst (λ (h : List Process). AreRounds (mode_of protocol) h last
          (open_round_of protocol) rounds)
          (sym same)
          (subst (λ (m : Mode). AreRounds m after last (open_round_of protocol) rounds)
          (sym mode_is)
          (subst (λ (o : Option OpenView). AreRounds mode after last o rounds)
          (sym opened_is) are)),
      subst (λ (h : List Process). IsFollowing h protocol) (sym same) following,
    )

-- and said for links that keep their order
pub ordered_kept : (history after : List Process) → history ≡ after → (links : List
    (List (List Item))) (last : ℕ) (running : Option OpenView) (rounds : List ListedRound)
    → IsWorld Fifo history links → AreRounds Fifo after last running rounds
    → IsWorld Fifo history links × AreRounds Fifo history last running rounds × Unit {0}
ordered_kept history after same links last running rounds world are =
    (world, subst (λ (h : List Process). AreRounds Fifo h last running rounds) (sym same) are, tt)

-- and for others, once a round of colours is settled
pub coloured_kept : (before : List ListedRound) (links : List (List (List Item)))
    (history middle after : List Process) → history ≡ after → (last : ℕ)
    (colours : List ProcessTurns) (turning : Option TurningView) (rounds : List ListedRound)
    → (settled : IsListedOrOpen middle last before turning rounds)
    → IsWorld Unordered after links
    → AreRounds Unordered after last (left_open Unordered middle (Some (opened_by settled.round)))
    (before ++ newly_closed Unordered middle (Some (opened_by settled.round)))
    → IsPainted after colours
    → (received : List (List Bool)) → AreFlagged after received
    → IsWorld Unordered history links × AreRounds Unordered history last
    (opened_turning turning) rounds × (IsPainted history colours × AreFlagged history received)
coloured_kept before links history middle after same last colours turning rounds settled world are
    painted received flagged =
    let new : OpenView = opened_by settled.round in (
      subst (λ (h : List Process). IsWorld Unordered h links) (sym same) world,
      subst (λ (h : List Process). AreRounds Unordered h last (opened_turning turning) rounds)
          (sym same)
          (subst (λ (o : Option OpenView). AreRounds Unordered after last o rounds)
          (sym settled.left)
          (subst (λ (ls : List ListedRound). AreRounds Unordered after last
          (left_open Unordered middle (Some new)) ls) (sym settled.listed) are)),
      (
        subst (λ (h : List Process). IsPainted h colours) (sym same) painted,
        subst
            (λ (h : List Process). AreFlagged h received) (sym same) flagged,
      ),
    )

-- there is an item at each place of a list
pub at_each : (items : List Item) (k : ℕ) → k < length items → slice_get items k ≡ None → ⊥
at_each [] k within none = absurd (omega (arith, within))
at_each (item ∷ items) zero within none = absurd (cc)
at_each (item ∷ items) (suc k) within none = at_each items k (omega (arith, within)) none
