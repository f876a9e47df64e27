-- What links without an order hold was sent there.
use Rattle.std.proofs.Common.{◌≡◌, ℕ, zero, suc, ◌<◌, List, [], ◌∷◌, length, Some, refl, subst}
use Rattle.std.proofs.Common.{arith}
use Rattle.std.specs.List.{filter_map, slice_get, Contains}
use Rattle.std.proofs.lemmas.List.Elements.{Contains-append_right}
use Rattle.line_names.specs.declared.messages.MsgName.{MsgName}
use Rattle.line_tape.specs.declared.items.Item.{Item}
use Rattle.line_tape.specs.declared.items.Item.TheVariants.{Message, Marker}
use Rattle.line_tape.specs.Event.{Holds}
use Rattle.line_tape.specs.Fit.{IsSentTo}
use Rattle.line_tape.specs.History.{Process, tape_at}
use Rattle.line_laws.proofs.CopyLemmas.{copy_addressed}
use Rattle.line_rounds.specs.Tables.{between}
use Rattle.line_tape.specs.declared.modes.Mode.TheVariants.{Unordered}
use Rattle.line_moves.specs.Worlds.{message_of, messages_at, IsWorld}

-- a message that stands at a place is among the messages
among_messages : (items : List Item) (k : ℕ) (message : MsgName)
    → slice_get items k ≡ Some (Message message) → Contains (filter_map message_of items) message
among_messages [] k message e = absurd (cc)
among_messages (item ∷ items) zero message e = let same : Message message ≡ item = cc in subst (λ
    (v : Item). Contains (filter_map message_of (v ∷ items)) message) same (zero, omega arith, refl)
among_messages (Message m ∷ items) (suc k) message e = Contains-append_right (m ∷ [])
    (filter_map message_of items) message (among_messages items k message e)
among_messages (Marker round ∷ items) (suc k) message e = among_messages items k message e

-- a copy that is held was sent to the process at the end of its link
pub sent_here : (history : List Process) (queues : List (List (List Item))) (from to : ℕ)
    (message : MsgName) (pick : ℕ) → from < length history → to < length history
    → slice_get (between queues from to) pick ≡ Some (Message message)
    → IsWorld Unordered history queues → Holds
    (tape_at history message.from) message.inc message.number → IsSentTo history to message
sent_here history queues from to message pick from_within to_within at world held =
    copy_addressed history (messages_at queues) from to message world.linked from_within to_within
    (among_messages (between queues from to) pick message at) held
