-- How what is kept of colours and of received messages follows the tapes, step by step.
use Rattle.std.proofs.Common.{◌≡◌, ℕ, ◌<◌, ◌≤◌, cond, Bool, List, length, Option, Some, None, refl}
use Rattle.std.proofs.Common.{sym, ap, subst, arith, inl, inr}
use Rattle.std.proofs.lemmas.Bool.{cases_lt, lt-ltb, le-ltb}
use Rattle.line_names.specs.declared.messages.MsgName.{MsgName}
use Rattle.line_tape.specs.declared.events.Event.{Event}
use Rattle.line_tape.specs.declared.events.Event.TheVariants.{Send, Recv, Check}
use Rattle.line_tape.specs.Colours.{colour, message_colour, AreColoured, IsNextColoured}
use Rattle.line_tape.specs.Fit.{IsFitUnordered, IsNextUnordered}
use Rattle.line_tape.specs.History.{Process, tape_at, incarnation_at, with_event}
use Rattle.line_tape.specs.Rounds.{checked_round}
use Rattle.line_laws.proofs.ColourRounds.{coloured_event}
use Rattle.line_rounds.specs.Flags.{AreFlagged}
use Rattle.line_rounds.specs.Kept.{ProcessTurns, AreTurned}
use Rattle.line_rounds.specs.Turning.{TurningView}
use Rattle.line_rounds.proofs.TurnedLemmas.{AreTurned-kept}
use Rattle.line_moves.specs.declared.fates.Fate.TheVariants.{Taken}
use Rattle.std.specs.List.{slice_get}
use Rattle.line_tape.specs.declared.items.Item.{Item}
use Rattle.line_tape.specs.declared.items.Item.TheVariants.{Message}
use Rattle.line_tape.specs.declared.modes.Mode.TheVariants.{Unordered}
use Rattle.line_moves.specs.Fates.{fate_of, forced_round}
use Rattle.line_rounds.specs.Tables.{between}
use Rattle.line_moves.specs.Modes.{IsFitIn}
use Rattle.line_moves.specs.Worlds.{IsPainted, IsWorld}
use Rattle.line_moves.proofs.WorldLemmas.{next_receipt}
use Rattle.line_rounds.proofs.FlagLemmas.{AreFlagged-other}
use Rattle.line_world.specs.declared.protocols.Protocol.{Protocol}
use Rattle.line_world.specs.declared.protocols.Protocol.TheVariants.{Markers, Colours}
use Rattle.line_world.specs.Protocols.{mode_of, open_round_of, IsFollowing}

-- an event that is no check of a round
pub painted_event : (history : List Process) (at : ℕ) (e : Event) (colours : List ProcessTurns)
    → at < length history → IsFitUnordered history → checked_round e ≡ None
    → IsNextUnordered history at e → IsNextColoured history at e
    → IsPainted history colours → IsPainted (with_event history at e) colours
painted_event history at e colours within fit none next coloured is = record {
  turned = AreTurned-kept history at e colours within none is.turned;
  coloured = coloured_event history at e fit is.coloured within next coloured;
}

-- a check of a greater round
pub painted_turn : (history : List Process) (at : ℕ) (state : List ℕ) (r : ℕ)
    (colours : List ProcessTurns) → at < length history → IsFitUnordered history
    → colour (tape_at history at) < r → AreColoured history
    → AreTurned (with_event history at (Check state (Some r))) colours
    → IsPainted (with_event history at (Check state (Some r))) colours
painted_turn history at state r colours within fit greater coloured turned = record {
  turned = turned;
  coloured = coloured_event history at (Check state (Some r)) fit coloured within tt greater;
}

-- a message that forces no check is of no greater colour
pub unforced : (history : List Process) (p : ℕ) (message : MsgName) → forced_round Unordered history
    p message ≡ None → message_colour history message ≤ colour (tape_at history p)
unforced history p message e =
    elim (cases_lt (colour (tape_at history p)) (message_colour history message)) [
      | inl less ↦
          let some : forced_round Unordered history p message
          ≡ Some (message_colour history message) = ap
          (λ b. cond b (Some (message_colour history message)) None)
          (lt-ltb (colour (tape_at history p)) (message_colour history message) less) in
          absurd (cc)
      | inr most ↦ omega (arith, most)
    ]

-- and one that does is of a greater
pub forced_by : (history : List Process) (p : ℕ) (message : MsgName) (r : ℕ)
    → forced_round Unordered history p message ≡ Some r
    → (message_colour history message ≡ r) × (colour (tape_at history p) < r)
forced_by history p message r e =
    elim (cases_lt (colour (tape_at history p)) (message_colour history message)) [
      | inl less ↦
          let some : forced_round Unordered history p message
          ≡ Some (message_colour history message) = ap
          (λ b. cond b (Some (message_colour history message)) None)
          (lt-ltb (colour (tape_at history p)) (message_colour history message) less) in
          let same : message_colour history message ≡ r = cc in
          (same, omega (arith, less, same))
      | inr most ↦
          let none : forced_round Unordered history p message
          ≡ None = ap (λ b. cond b (Some (message_colour history message)) None) (le-ltb
          (colour (tape_at history p)) (message_colour history message) (omega (arith, most))) in
          absurd (cc)
    ]

-- a message is sent
pub painted_send : (history : List Process) (colours : List ProcessTurns) → IsFitUnordered history
    → IsPainted history colours → (at to : ℕ) (body : List ℕ) → at < length history
    → IsPainted (with_event history at (Send to (incarnation_at history at) body)) colours
painted_send history colours fit is at to body within = painted_event history at
    (Send to (incarnation_at history at) body) colours within fit refl refl tt is

-- what is kept follows the tapes, and what process p sends next too: its flag has room
pub record IsReady (history : List Process) (p : ℕ) (old new : Protocol) : Type 0 where
  pub mode : mode_of new ≡ mode_of old
  pub opened : open_round_of new ≡ open_round_of old
  pub same : IsFollowing history new
  pub next : (to : ℕ) (body : List ℕ)
      → IsFollowing (with_event history p (Send to (incarnation_at history p) body)) new

pub ready_flag : (history : List Process) (p : ℕ) (old : Protocol) (turning : Option TurningView)
    (colours : List ProcessTurns) (received now : List (List Bool))
    → old ≡ Colours turning colours received
    → p < length history → IsFitIn (mode_of old) history → IsFollowing history old
    → AreFlagged history now
    → ((to inc : ℕ) (body : List ℕ) → AreFlagged (with_event history p (Send to inc body)) now)
    → IsReady history p old (Colours turning colours now)
ready_flag history p old turning colours received now e within fits following flagged grown =
    let fit : IsFitUnordered history = subst
    (λ (q : Protocol). IsFitIn (mode_of q) history) e fits in
    let is : IsFollowing history (Colours turning colours received) = subst
    (IsFollowing history) e following in
    record {
      mode = sym (ap mode_of e);
      opened = sym (ap open_round_of e);
      same = (is.0, flagged);
      next = λ to body. (
        painted_send history colours fit is.0 p to body within,
        grown to
            (incarnation_at history p) body,
      );
    }

pub ready_none : (history : List Process) (p : ℕ) (old : Protocol)
    → ((turning : Option TurningView) (colours : List ProcessTurns) (received : List (List Bool))
    → old ≡ Colours turning colours received → ⊥)
    → IsReady history p old old
ready_none history p (Markers running) not =
    record { mode = refl; opened = refl; same = tt; next = λ to body. tt }
ready_none history p (Colours turning colours received) not =
    absurd (not turning colours received refl)

-- a message that forces no check is taken
pub painted_take : (history : List Process) (queues : List (List (List Item)))
    (colours : List ProcessTurns) (from to : ℕ) → from < length history → to < length history
    → (message : MsgName) → message.from ≡ from
    → (pick : ℕ) → slice_get (between queues from to) pick ≡ Some (Message message)
    → IsWorld Unordered history queues → fate_of Unordered history to message ≡ Taken
    → forced_round Unordered history to message ≡ None
    → IsPainted history colours → IsPainted (with_event history to (Recv message)) colours
painted_take history queues colours from to from_within to_within message named pick at world taken
    none is =
    painted_event history to (Recv message) colours to_within world.linked.fit refl
    (next_receipt history queues from to from_within to_within message named pick at world
    taken) (unforced history to message none) is

-- a check without a round
pub IsFollowing-check : (history : List Process) (queues : List (List (List Item)))
    (protocol : Protocol) → IsWorld (mode_of protocol) history queues → (at : ℕ) (state : List ℕ)
    → at < length history → IsFollowing history protocol
    → IsFollowing (with_event history at (Check state None)) protocol
IsFollowing-check history queues (Markers running) world at state within is = tt
IsFollowing-check history queues (Colours turning colours received) world at state within is = (
  painted_event history at
      (Check state None) colours within world.linked.fit refl tt tt is.0,
  AreFlagged-other history
      at (Check state None) received within world.linked.fit refl refl is.1,
)
