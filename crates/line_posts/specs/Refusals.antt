-- Why a call of a worker is refused, in the order of the causes.
use Rattle.std.specs.Prelude.{◌≡◌, ◌≢◌, ◌<◌, ◌≤◌, ◌+◌, ◌∷◌, ◌++◌, ℕ, suc, List, [], length, false}
use Rattle.std.specs.Prelude.{if◌then◌else◌}
use Rattle.line_rounds.specs.Recording.{latest}
use Rattle.line_tape.specs.declared.limits.TheConstants.{LAST_ROUND, MOST_EVENTS, MOST_STATE}
use Rattle.line_tape.specs.Rounds.{has_check_of}
use Rattle.line_posts.specs.Ends.{row_at, HasFilled, IsFilled}
use Rattle.line_posts.specs.Journals.{IsOpen}
use Rattle.line_posts.specs.declared.refusals.SendWhy.{SendWhy}
use Rattle.line_posts.specs.declared.refusals.SendWhy.TheVariants.{OutOfMemory as send_memory}
use Rattle.line_posts.specs.declared.refusals.SendWhy.TheVariants.{NoSuchProcess as send_process}
use Rattle.line_posts.specs.declared.refusals.SendWhy.TheVariants.{ToSelf as send_self}
use Rattle.line_posts.specs.declared.refusals.SendWhy.TheVariants.{TapeFull as send_full}
use Rattle.line_posts.specs.declared.refusals.SendWhy.TheVariants.{RingFull as send_ring}
use Rattle.line_posts.specs.declared.refusals.ReceiveWhy.{ReceiveWhy}
use Rattle.line_posts.specs.declared.refusals.ReceiveWhy.TheVariants.{OutOfMemory as take_memory}
use Rattle.line_posts.specs.declared.refusals.ReceiveWhy.TheVariants.{NoSuchProcess, ToSelf}
use Rattle.line_posts.specs.declared.refusals.ReceiveWhy.TheVariants.{StateTooLong as take_long}
use Rattle.line_posts.specs.declared.refusals.ReceiveWhy.TheVariants.{NothingThere}
use Rattle.line_posts.specs.declared.refusals.ReceiveWhy.TheVariants.{TapeFull as take_full}
use Rattle.line_posts.specs.declared.refusals.ReceiveWhy.TheVariants.{RingFull as take_ring}
use Rattle.line_posts.specs.declared.refusals.BeginWhy.{BeginWhy}
use Rattle.line_posts.specs.declared.refusals.BeginWhy.TheVariants.{OutOfMemory, NotLead}
use Rattle.line_posts.specs.declared.refusals.BeginWhy.TheVariants.{StateTooLong, RoundOpen}
use Rattle.line_posts.specs.declared.refusals.BeginWhy.TheVariants.{NoMoreRounds, TapeFull}
use Rattle.line_posts.specs.declared.refusals.BeginWhy.TheVariants.{RingFull}
use Rattle.line_posts.specs.declared.parcels.Parcel.{Parcel}
use Rattle.line_posts.specs.declared.parcels.Parcel.TheVariants.{Message, Marker}
use Rattle.line_posts.specs.Parcels.{parcels_of}
use Rattle.line_posts.specs.Posts.{PostView}

-- the message goes to another process, and the tape has room for it
pub record MaySend (post : PostView) (to : ℕ) : Type 0 where
  pub process : to < length post.opening
  pub other : to ≢ post.number
  pub few : length post.tape < MOST_EVENTS

-- why a message is not sent: this cause holds, and none before it but perhaps a full ring
abbrev pub IsNotSent : PostView → ℕ → SendWhy → Type 0
IsNotSent post to send_process = length post.opening ≤ to
IsNotSent post to send_self = (to < length post.opening) × (to ≡ post.number)
IsNotSent post to send_full =
    (to < length post.opening) × (to ≢ post.number) × (MOST_EVENTS ≤ length post.tape)
IsNotSent post to send_ring = MaySend post to × IsFilled post.outs to
IsNotSent post to send_memory = MaySend post to

-- the worker asks another process, and the state is short
pub record MayReceive (post : PostView) (from : ℕ) (state : List ℕ) : Type 0 where
  pub process : from < length post.opening
  pub other : from ≢ post.number
  pub short : length state ≤ MOST_STATE

-- what comes next from a process: the first of the replays that the worker keeps of it or, where it
-- keeps none, the first item that the ring shows
abbrev pub ComesNext : PostView → List Parcel → ℕ → Parcel → Type 0
ComesNext post shown from next = (rest : List Parcel)
    × (parcels_of (row_at post.kept from) ++ shown ≡ next ∷ rest)

-- how many events a parcel adds to the tape: two where it is a marker that forces a check, else one
abbrev pub event_count : PostView → Parcel → ℕ
event_count post (Message packet) = 1
event_count post (Marker round) = if has_check_of round post.tape then 1 else 2

-- why nothing is received where the ring shows these items: this cause holds, and none before it
-- but perhaps a full ring
abbrev pub IsNotReceived : PostView → List Parcel → ℕ → List ℕ → ReceiveWhy → Type 0
IsNotReceived post shown from state NoSuchProcess = length post.opening ≤ from
IsNotReceived post shown from state ToSelf = (from < length post.opening) × (from ≡ post.number)
IsNotReceived post shown from state take_long =
    (from < length post.opening) × (from ≢ post.number) × (MOST_STATE < length state)
IsNotReceived post shown from state NothingThere =
    MayReceive post from state × (row_at post.kept from ≡ []) × (shown ≡ [])
IsNotReceived post shown from state take_full = MayReceive post from state
    × (next : Parcel) × ComesNext post shown from next
    × (MOST_EVENTS < length post.tape + event_count post next)
IsNotReceived post shown from state take_ring = MayReceive post from state
    × (row_at post.kept from ≡ []) × (round : ℕ) × ComesNext post shown from (Marker round)
    × (has_check_of round post.tape ≡ false) × (suc (length post.tape) < MOST_EVENTS)
    × HasFilled post.outs
IsNotReceived post shown from state take_memory = MayReceive post from state
    × (next : Parcel) × ComesNext post shown from next
    × (length post.tape + event_count post next ≤ MOST_EVENTS)

-- the last round that the worker recorded is still open
abbrev pub HasOpenRound : PostView → Type 0
HasOpenRound post = IsOpen (length post.opening) post.number post.floor post.rounds

-- the worker leads, the state is short, its last round is not open, and there is a further number
pub record MayBegin (post : PostView) (state : List ℕ) : Type 0 where
  pub lead : post.number ≡ 0
  pub short : length state ≤ MOST_STATE
  pub closed : HasOpenRound post → ⊥
  pub further : latest post.floor post.rounds < LAST_ROUND

-- why a round is not begun: this cause holds, and none before it but perhaps a full ring
abbrev pub IsNotBegun : PostView → List ℕ → BeginWhy → Type 0
IsNotBegun post state NotLead = post.number ≢ 0
IsNotBegun post state StateTooLong = (post.number ≡ 0) × (MOST_STATE < length state)
IsNotBegun post state RoundOpen =
    (post.number ≡ 0) × (length state ≤ MOST_STATE) × HasOpenRound post
IsNotBegun post state NoMoreRounds =
    (post.number ≡ 0) × (length state ≤ MOST_STATE) × (HasOpenRound post → ⊥)
    × (LAST_ROUND ≤ latest post.floor post.rounds)
IsNotBegun post state TapeFull = MayBegin post state × (MOST_EVENTS ≤ length post.tape)
IsNotBegun post state RingFull =
    MayBegin post state × (length post.tape < MOST_EVENTS) × HasFilled post.outs
IsNotBegun post state OutOfMemory = MayBegin post state × (length post.tape < MOST_EVENTS)
