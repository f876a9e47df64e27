-- What a link has carried and what it still holds, and the histories that links can lead to: in the
-- order of sending (Chandy and Lamport, ACM TOCS 3(1), 1985), and in any order (Lai and Yang,
-- Information Processing Letters 25(3), 1987).
use Rattle.std.specs.Prelude.{◌≡◌, ◌≢◌, false, ℕ, suc, ◌==◌, if◌then◌else◌, List, [], ◌∷◌, ◌++◌}
use Rattle.std.specs.Prelude.{length, take, drop, Contains, AllPairs, slice_get, Option, Some, None}
use Rattle.std.specs.List.{filter_map}
use Rattle.line_tape.specs.declared.events.Event.{Event}
use Rattle.line_tape.specs.declared.events.Event.TheVariants.{Send, Recv, Check, Mark}
use Rattle.line_tape.specs.declared.items.Item.{Item}
use Rattle.line_tape.specs.declared.items.Item.TheVariants.{Message, Marker}
use Rattle.line_names.specs.declared.messages.MsgName.{MsgName}
use Rattle.line_tape.specs.Event.{sends, Holds}
use Rattle.line_tape.specs.History.{Process, tape_at, incarnation_at}
use Rattle.line_tape.specs.Rounds.{rounds_checked, has_check_of}
use Rattle.line_tape.specs.Transit.{addressee, has_received, names_received}

-- what process p puts on its link to q by these events, its first send having this number: its
-- messages to q, and a marker for each check of a round
abbrev pub items_sent : ℕ → ℕ → ℕ → List Event → List Item
items_sent p q number [] = []
items_sent p q number (Send to inc body ∷ rest) =
    if to == q
    then Message (record { from = p; inc = inc; number = number })
    ∷ items_sent p q (suc number) rest
    else items_sent p q (suc number) rest
items_sent p q number (Recv message ∷ rest) = items_sent p q number rest
items_sent p q number (Check state None ∷ rest) = items_sent p q number rest
items_sent p q number (Check state (Some round) ∷ rest) = Marker round ∷ items_sent p q number rest
items_sent p q number (Mark from round ∷ rest) = items_sent p q number rest

-- what was sent from process p to q
abbrev pub sent_between : List Process → ℕ → ℕ → List Item
sent_between history p q = items_sent p q 0 (tape_at history p)

-- what an event takes from the link from process p
abbrev pub item_received : ℕ → Event → Option Item
item_received p (Send to inc body) = None
item_received p (Recv message) = if message.from == p then Some (Message message) else None
item_received p (Check state round) = None
item_received p (Mark from round) = if from == p then Some (Marker round) else None

-- what process q received from p
abbrev pub received_from : List Process → ℕ → ℕ → List Item
received_from history q p = filter_map (item_received p) (tape_at history q)

-- what the link from process p to q holds: what remains of what was sent after what was received
abbrev pub link : List Process → ℕ → ℕ → List Item
link history p q = drop (length (received_from history q p)) (sent_between history p q)

-- the one list begins the other
abbrev pub IsPrefix : {X : Type 0} → List X → List X → Type 0
IsPrefix xs ys = xs ++ drop (length xs) ys ≡ ys

-- no two of them are the same
abbrev pub AreDistinct : {X : Type 0} → List X → Type 0
AreDistinct xs = AllPairs (λ x y. x ≢ y) xs

-- each marker is received after the tape's check of its round
abbrev pub MarksFollow : List Event → Type 0
MarksFollow tape =
    (i from round : ℕ) → slice_get tape i ≡ Some (Mark from round)
    → Contains (rounds_checked (take i tape)) round

-- links deliver in the order of sending, no tape has two checks of a round, and markers follow the
-- checks of their rounds
pub record IsFitFifo (history : List Process) : Type 0 where
  pub order : (p q : ℕ) → IsPrefix (received_from history q p) (sent_between history p q)
  pub rounds : (p : ℕ) → AreDistinct (rounds_checked (tape_at history p))
  pub marks : (p : ℕ) → MarksFollow (tape_at history p)

-- the event may come next at process p: what it receives is first on its link, a round is new to
-- the tape, and a marker comes after the check of its round
abbrev pub IsNextFifo : List Process → ℕ → Event → Type 0
IsNextFifo history p (Send to inc body) = Unit {0}
IsNextFifo history p (Recv message) =
    (rest : List Item) × (link history message.from p ≡ Message message ∷ rest)
IsNextFifo history p (Check state None) = Unit {0}
IsNextFifo history p (Check state (Some round)) = has_check_of round (tape_at history p) ≡ false
IsNextFifo history p (Mark from round) =
    ((rest : List Item) × (link history from p ≡ Marker round ∷ rest))
    × Contains (rounds_checked (tape_at history p)) round

-- what an event of process `at` puts on the link from process p to q
abbrev pub items_put : List Process → ℕ → Event → ℕ → ℕ → List Item
items_put history at event p q =
    if p == at then items_sent p q (sends (tape_at history p)) (event ∷ []) else []

-- what it takes from that link
abbrev pub items_got : ℕ → Event → ℕ → ℕ → List Item
items_got at event p q = if q == at then filter_map (item_received p) (event ∷ []) else []

-- the sender's tape holds the message, and its send is to process q
pub record IsSentTo (history : List Process) (q : ℕ) (message : MsgName) : Type 0 where
  pub held : Holds (tape_at history message.from) message.inc message.number
  pub to_is : addressee history message ≡ Some q

-- what a process received was sent to it, and it received nothing twice: the histories that links
-- which lose, repeat and overtake can lead to
pub record IsFitUnordered (history : List Process) : Type 0 where
  pub held : (q : ℕ) (message : MsgName) → Contains (tape_at history q) (Recv message)
      → IsSentTo history q message
  pub once : (q : ℕ) → AreDistinct (names_received (tape_at history q))

-- the event may come next at process p: a send is of the present incarnation, and what is received
-- was sent to p and is new to its tape
abbrev pub IsNextUnordered : List Process → ℕ → Event → Type 0
IsNextUnordered history p (Send to inc body) = inc ≡ incarnation_at history p
IsNextUnordered history p (Recv message) =
    IsSentTo history p message × (has_received (tape_at history p) message ≡ false)
IsNextUnordered history p (Check state round) = Unit {0}
IsNextUnordered history p (Mark from round) = Unit {0}
