-- What the workers of a drill have done when they are back.
use Rattle.std.specs.Prelude.{◌≡◌, ◌<◌, ◌≤◌, ◌⊎◌, ℕ, List, [], ◌∷◌, ◌++◌, length, take}
use Rattle.std.specs.Prelude.{slice_get, Some, None}
use Rattle.line_names.specs.declared.messages.MsgName.{MsgName}
use Rattle.line_tape.specs.declared.events.Event.{Event}
use Rattle.line_tape.specs.declared.events.Event.TheVariants.{Send as SendEvent, Recv}
use Rattle.line_tape.specs.declared.events.Event.TheVariants.{Check as CheckEvent}
use Rattle.line_posts.specs.Ends.{slots_of}
use Rattle.line_posts.specs.Generations.{IsSamePost}
use Rattle.line_posts.specs.Openings.{HasBegun}
use Rattle.line_posts.specs.Posts.{PostView, IsPost, incarnation_of_post, reported_count}
use Rattle.line_posts.specs.Receipts.{HasTaken}
use Rattle.line_workers.specs.declared.orders.Order.{Order}
use Rattle.line_workers.specs.declared.orders.Order.TheVariants.{Send, Receive, Check}
use Rattle.line_workers.specs.Scripts.{script_at}

-- the worker has received some message of that process
abbrev pub HasReceivedFrom : PostView → ℕ → PostView → Type 0
HasReceivedFrom old from new = (name : MsgName) × (body : List ℕ) × (name.from ≡ from)
    × HasTaken old name body new

-- what a worker that sends under this incarnation knows alone: the event does what the order says,
-- whatever message it took
abbrev pub DoesOrder : ℕ → Order → Event → Type 0
DoesOrder inc (Send to body) event = event ≡ SendEvent to inc body
DoesOrder inc (Receive from) event =
    (message : MsgName) × (message.from ≡ from) × (event ≡ Recv message)
DoesOrder inc (Check state) event = event ≡ CheckEvent state None

-- one event for each order
abbrev pub Follows : ℕ → List Order → List Event → Type 0
Follows inc [] [] = Unit {0}
Follows inc (order ∷ rest) (event ∷ tape) = DoesOrder inc order event × Follows inc rest tape
Follows inc [] (event ∷ tape) = ⊥
Follows inc (order ∷ rest) [] = ⊥

-- the worker has the rings that it had, no more rounds than it had where it had none, and further
-- events on its tape, one for each order
abbrev pub HasDone : List Order → PostView → PostView → Type 0
HasDone script old new = IsSamePost old new
    × ((floor : ℕ) → HasBegun floor old → HasBegun floor new)
    × (done : List Event) × (new.tape ≡ old.tape ++ done)
    × Follows (incarnation_of_post old) script done

-- each worker has done its script
pub record AreDrilled (scripts : List (List Order)) (old new : List PostView) : Type 0 where
  pub count : length new ≡ length old
  pub each : (p : ℕ) (a b : PostView) → slice_get old p ≡ Some a → slice_get new p ≡ Some b
      → HasDone (script_at scripts p) a b

-- the worker has reported all of its tape, or as many events as its report line holds
abbrev pub HasReportedAll : PostView → Type 0
HasReportedAll post = (reported_count post ≡ length post.tape)
    ⊎ (slots_of post.line.ring ≤ length post.line.items)

-- the gate let the worker on to each of its first n orders, once it had done those before
abbrev pub WasLetOn : (ℕ → ℕ → PostView → Type 0) → List Order → ℕ → PostView → Type 0
WasLetOn lets script n post = (k : ℕ) → k < n
    → (now : PostView) × HasDone (take k script) post now × IsPost now × lets post.number k now
