-- Markers that a worker took, or sees next.
use Rattle.std.proofs.Common.{◌≡◌, ◌+◌, ◌<◌, ◌++◌, ◌∷◌, [], ℕ, List, length, inl, inr, arith, subst}
use Rattle.std.specs.Prelude.{Bool}
use Rattle.line_tape.specs.declared.limits.TheConstants.{MOST_EVENTS}
use Rattle.line_posts.specs.Ends.{row_at}
use Rattle.line_posts.specs.declared.parcels.Packet.{Packet}
use Rattle.line_posts.specs.declared.parcels.Parcel.{Parcel}
use Rattle.line_posts.specs.declared.parcels.Parcel.TheVariants.{Message, Marker}
use Rattle.line_posts.specs.declared.refusals.ReceiveWhy.TheVariants.{TapeFull}
use Rattle.line_posts.specs.Parcels.{parcels_of}
use Rattle.line_posts.specs.Posts.{PostView}
use Rattle.line_posts.specs.Receipts.{HasMarked, HasOnlySeen}
use Rattle.line_posts.specs.Refusals.{IsNotReceived, MayReceive, event_count}
use Rattle.line_workers.specs.Faults.{HasMetMarker}

-- a marker that it took
pub marker_taken : (a b : PostView) (from round : ℕ) (state : List ℕ) (forced : Bool) → state ≡ []
    → MayReceive a from state → HasMarked a from state round forced b → HasMetMarker a from b
marker_taken a b from round state forced none may h = (
  subst (MayReceive a from) none may,
  round,
  inl
      (forced, subst (λ (s : List ℕ). HasMarked a from s round forced b) none h),
)

-- what comes before a marker is no replay
none_kept : (kept : List Packet) (shown rest : List Parcel) (round : ℕ)
    → parcels_of kept ++ shown ≡ Marker round ∷ rest → shown ≡ Marker round ∷ rest
none_kept [] shown rest round e = e
none_kept (packet ∷ more) shown rest round e = cc e

alone : (a : PostView) (shown : List Parcel) (from : ℕ) (next : Parcel) (rest : List Parcel)
    → parcels_of (row_at a.kept from) ++ shown ≡ next ∷ rest
    → MOST_EVENTS < length a.tape + event_count a next
    → length a.tape < MOST_EVENTS → (round : ℕ) × (shown ≡ Marker round ∷ rest)
alone a shown from (Message packet) rest comes over few = absurd (omega (arith, over, few))
alone a shown from (Marker round) rest comes over few =
    (round, none_kept (row_at a.kept from) shown rest round comes)

-- a marker for which a tape with room for one event is full
pub marker_seen : (a b : PostView) (from : ℕ) (state : List ℕ) → state ≡ []
    → IsNotReceived a (row_at b.seen from) from state TapeFull → length a.tape < MOST_EVENTS
    → HasOnlySeen a b → HasMetMarker a from b
marker_seen a b from state none (may, next, (rest, comes), over) few looked =
    let (round, is) = alone a (row_at b.seen from) from next rest comes over few in
    (subst (MayReceive a from) none may, round, inr (rest, is, looked))
