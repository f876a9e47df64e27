-- The tape of a worker as its script and those of the others make it.
use Rattle.std.specs.Prelude.{◌≡◌, ℕ, suc, ◌==◌, if◌then◌else◌, List, [], ◌∷◌, length, map, take}
use Rattle.std.specs.Prelude.{Bool, false, Some, None, slice_get, slice_index_or}
use Rattle.std.specs.List.{filter}
use Rattle.std.specs.declared.alloc.Global.{Global}
use Rattle.std.specs.declared.vec.Vec.{Vec}
use Rattle.line_names.specs.declared.messages.MsgName.{MsgName}
use Rattle.line_tape.specs.declared.events.Event.{Event}
use Rattle.line_tape.specs.declared.events.Event.TheVariants.{Send as SendEvent, Recv}
use Rattle.line_tape.specs.declared.events.Event.TheVariants.{Check as CheckEvent}
use Rattle.line_workers.specs.declared.orders.Order.{Order}
use Rattle.line_workers.specs.declared.orders.Order.TheVariants.{Send, Receive, Check}

-- the scripts, as lists of orders
abbrev pub scripts_of : List (Vec Order Global) → List (List Order)
scripts_of scripts = map (λ script. script.items) scripts

-- the script of process p, and none where there is no such process
abbrev pub script_at : List (List Order) → ℕ → List Order
script_at scripts p = slice_index_or scripts p []

-- the names of the messages that process p sends to q by these orders, its first send having this
-- number
abbrev pub names_ordered : ℕ → ℕ → ℕ → List Order → List MsgName
names_ordered p q number [] = []
names_ordered p q number (Send to body ∷ rest) =
    if to == q
    then record { from = p; inc = 0; number = number } ∷ names_ordered p q (suc number) rest
    else names_ordered p q (suc number) rest
names_ordered p q number (Receive from ∷ rest) = names_ordered p q number rest
names_ordered p q number (Check state ∷ rest) = names_ordered p q number rest

-- whether an order receives from process p
abbrev pub is_received_from : ℕ → Order → Bool
is_received_from p (Send to body) = false
is_received_from p (Receive from) = from == p
is_received_from p (Check state) = false

-- how many of these orders receive from process p
abbrev pub receives : ℕ → List Order → ℕ
receives p orders = length (filter (is_received_from p) orders)

-- the event of an order of process q, after these orders of its script: the j-th Receive from p has
-- the j-th message that the script of p sends to q
abbrev pub IsEventOf : List (List Order) → ℕ → List Order → Order → Event → Type 0
IsEventOf scripts q before (Send to body) event = event ≡ SendEvent to 0 body
IsEventOf scripts q before (Receive from) event = (message : MsgName)
    × (slice_get (names_ordered from q 0 (script_at scripts from)) (receives from before)
    ≡ Some message)
    × (event ≡ Recv message)
IsEventOf scripts q before (Check state) event = event ≡ CheckEvent state None

-- the tape of process q that the scripts make: one event for each order of its script
pub record IsScripted (scripts : List (List Order)) (q : ℕ) (tape : List Event) : Type 0 where
  pub count : length tape ≡ length (script_at scripts q)
  pub each : (k : ℕ) (order : Order) (event : Event)
      → slice_get (script_at scripts q) k ≡ Some order → slice_get tape k ≡ Some event
      → IsEventOf scripts q (take k (script_at scripts q)) order event
