-- Why a drill does not end well, and where.
use Rattle.std.specs.Prelude.{◌≡◌, ◌<◌, ◌≤◌, ◌⊎◌, ℕ, List, [], ◌∷◌, length}
use Rattle.std.specs.Prelude.{Bool, Option, Some, None}
use Rattle.std.specs.Prelude.{codes, replicate, slice_get, take}
use Rattle.line_tape.specs.History.{fresh}
use Rattle.line_tape.specs.declared.limits.TheConstants.{MOST_EVENTS, MOST_STATE}
use Rattle.line_posts.specs.Ends.{row_at}
use Rattle.line_posts.specs.declared.parcels.Parcel.{Parcel}
use Rattle.line_posts.specs.declared.parcels.Parcel.TheVariants.{Marker}
use Rattle.line_posts.specs.declared.refusals.FleetError.{FleetError}
use Rattle.line_posts.specs.declared.refusals.FleetError.TheVariants.{OutOfMemory as fleet_memory}
use Rattle.line_posts.specs.declared.refusals.FleetError.TheVariants.{BadCount as fleet_count}
use Rattle.line_posts.specs.declared.refusals.FleetError.TheVariants.{BadCapacity as fleet_capacity}
use Rattle.line_posts.specs.declared.refusals.SendWhy.TheVariants.{RingFull}
use Rattle.line_posts.specs.declared.refusals.ReceiveWhy.TheVariants.{NothingThere}
use Rattle.line_posts.specs.declared.refusals.ReceiveWhy.TheVariants.{RingFull as take_ring}
use Rattle.line_posts.specs.Posts.{PostView, IsPost}
use Rattle.line_posts.specs.Receipts.{HasMarked, HasOnlySeen}
use Rattle.line_posts.specs.Refusals.{IsNotReceived, IsNotSent, MayReceive}
use Rattle.line_workers.specs.declared.orders.Order.{Order}
use Rattle.line_workers.specs.declared.orders.Order.TheVariants.{Send, Receive, Check}
use Rattle.line_workers.specs.declared.refusals.DrillError.{DrillError}
use Rattle.line_workers.specs.declared.refusals.DrillWhy.{DrillWhy}
use Rattle.line_workers.specs.declared.refusals.DrillWhy.TheVariants.{OutOfMemory, NoSuchProcess}
use Rattle.line_workers.specs.declared.refusals.DrillWhy.TheVariants.{TapeFull, StateTooLong}
use Rattle.line_workers.specs.declared.refusals.DrillWhy.TheVariants.{BadCount, ToSelf, WrongMode}
use Rattle.line_workers.specs.declared.refusals.DrillWhy.TheVariants.{HeldOut, WaitedOut}
use Rattle.line_workers.specs.declared.refusals.DrillWhy.TheVariants.{BadCapacity, NoThread}
use Rattle.line_workers.specs.Followed.{Follows, HasDone}
use Rattle.line_workers.specs.Scripts.{names_ordered, script_at}

-- the number of a refusal
abbrev pub number_of_why : DrillWhy → ℕ
number_of_why OutOfMemory = 0
number_of_why NoSuchProcess = 1
number_of_why TapeFull = 3
number_of_why StateTooLong = 5
number_of_why BadCount = 6
number_of_why ToSelf = 17
number_of_why WrongMode = 22
number_of_why HeldOut = 29
number_of_why WaitedOut = 30
number_of_why BadCapacity = 31
number_of_why NoThread = 39

-- the name that stands beside the number of a refusal
abbrev pub name_of_why : DrillWhy → List ℕ
name_of_why OutOfMemory = codes "OutOfMemory"
name_of_why NoSuchProcess = codes "NoSuchProcess"
name_of_why TapeFull = codes "TapeFull"
name_of_why StateTooLong = codes "StateTooLong"
name_of_why BadCount = codes "BadCount"
name_of_why ToSelf = codes "ToSelf"
name_of_why WrongMode = codes "WrongMode"
name_of_why HeldOut = codes "HeldOut"
name_of_why WaitedOut = codes "WaitedOut"
name_of_why BadCapacity = codes "BadCapacity"
name_of_why NoThread = codes "NoThread"

-- it names no order
abbrev pub of_no_order : DrillWhy → DrillError
of_no_order why = record { worker = None; order = None; why = why }

-- it names order k of worker p
abbrev pub of_order : ℕ → ℕ → DrillWhy → DrillError
of_order p k why = record { worker = Some p; order = Some k; why = why }

-- why there is no fleet, as a drill says it
abbrev pub why_of_fleet : FleetError → DrillWhy
why_of_fleet fleet_memory = OutOfMemory
why_of_fleet fleet_count = BadCount
why_of_fleet fleet_capacity = BadCapacity

-- the process that an order sends to or receives from
abbrev pub other_of : Order → Option ℕ
other_of (Send to body) = Some to
other_of (Receive from) = Some from
other_of (Check state) = None

-- the bytes that an order stores
abbrev pub stored_by : Order → List ℕ
stored_by (Send to body) = []
stored_by (Receive from) = []
stored_by (Check state) = state

-- the worker may receive from process q, and a marker came from there: it took the marker, or only
-- looked, and sees it next
abbrev pub HasMetMarker : PostView → ℕ → PostView → Type 0
HasMetMarker old q new = MayReceive old q [] × (round : ℕ)
    × (((forced : Bool) × HasMarked old q [] round forced new)
    ⊎ ((rest : List Parcel) × (row_at new.seen q ≡ Marker round ∷ rest) × HasOnlySeen old new))

-- an order has to wait: the ring that it sends on is full; or the ring that it receives from shows
-- nothing, or a marker that forces a check while one of the worker's own rings is full
abbrev pub HasToWait : PostView → Order → PostView → Type 0
HasToWait old (Send to body) new = IsNotSent old to RingFull
HasToWait old (Receive from) new = IsNotReceived old (row_at new.seen from) from [] NothingThere
    ⊎ IsNotReceived old (row_at new.seen from) from [] take_ring
HasToWait old (Check state) new = ⊥

-- the cause of a fault of an order: how the worker stood before it, and how it was left
abbrev pub IsCause : PostView → Order → PostView → DrillWhy → Type 0
IsCause old order new OutOfMemory = Unit {0}
IsCause old order new NoSuchProcess =
    (q : ℕ) × (other_of order ≡ Some q) × (length old.opening ≤ q)
IsCause old order new TapeFull = MOST_EVENTS ≤ length old.tape
IsCause old order new StateTooLong = MOST_STATE < length (stored_by order)
IsCause old order new BadCount = ⊥
IsCause old order new ToSelf = other_of order ≡ Some old.number
IsCause old order new WrongMode = (q : ℕ) × (order ≡ Receive q) × HasMetMarker old q new
IsCause old order new HeldOut = Unit {0}
IsCause old order new WaitedOut = HasOnlySeen old new × HasToWait old order new
IsCause old order new BadCapacity = ⊥
IsCause old order new NoThread = ⊥

-- the worker could not do one of these orders, after those before it
abbrev pub HasFailed : List Order → PostView → DrillError → Type 0
HasFailed script post e = (k : ℕ) × (order : Order) × (why : DrillWhy)
    × (now : PostView) × (left : PostView)
    × (slice_get script k ≡ Some order) × HasDone (take k script) post now × IsPost now
    × IsCause now order left why × (e ≡ of_order post.number k why)

-- one of the workers was not started, or could not do an order of its script
abbrev pub AreStopped : List (List Order) → List PostView → DrillError → Type 0
AreStopped scripts posts e = (e ≡ of_no_order NoThread)
    ⊎ ((p : ℕ) × (post : PostView) × (slice_get posts p ≡ Some post)
    × HasFailed (script_at scripts p) post e)

-- a fault of no order
abbrev pub IsOfNone : DrillWhy → Type 0
IsOfNone why = (why ≡ OutOfMemory) ⊎ (why ≡ BadCount) ⊎ (why ≡ BadCapacity) ⊎ (why ≡ NoThread)

-- worker p of a first generation, after the first k orders of its script: its tape has an event for
-- each of them
pub record HasDoneFirst (scripts : List (List Order)) (p k : ℕ) (post : PostView) : Type 0 where
  pub known : IsPost post
  pub number : post.number ≡ p
  pub opening : post.opening ≡ replicate (length scripts) fresh
  pub tape : Follows 0 (take k (script_at scripts p)) post.tape

-- a fault of a drill of these scripts: of no order, or of an order of one of them, which has its
-- cause in how its worker stood after the orders before
abbrev pub IsFault : List (List Order) → DrillError → Type 0
IsFault scripts e = ((why : DrillWhy) × IsOfNone why × (e ≡ of_no_order why))
    ⊎ ((p : ℕ) × (k : ℕ) × (order : Order) × (why : DrillWhy)
    × (now : PostView) × (left : PostView)
    × (slice_get (script_at scripts p) k ≡ Some order) × HasDoneFirst scripts p k now
    × IsCause now order left why × (e ≡ of_order p k why))

-- a worker waited in vain to send only where the orders before had sent as many messages to that
-- process as a ring holds
abbrev pub HasFilledRing : List (List Order) → ℕ → DrillError → Type 0
HasFilledRing scripts capacity e = (p k to : ℕ) (body : List ℕ) → e ≡ of_order p k WaitedOut
    → slice_get (script_at scripts p) k ≡ Some (Send to body)
    → capacity ≤ length (names_ordered p to 0 (take k (script_at scripts p)))
