-- What a worker has seen after a look at a ring, and why it takes nothing then.
use Rattle.std.proofs.Common.{cond, false, Bool, ◌≡◌, ◌∙◌, ◌+◌, ◌<◌, ◌≤◌, ◌++◌, ◌∷◌, [], ℕ, List}
use Rattle.std.proofs.Common.{suc, length, refl, sym, ap, subst, arith}
use mathlib.Core.List.{IsPrefix}
use Rattle.std.specs.declared.alloc.Global.{Global}
use Rattle.std.specs.declared.vec.Vec.{Vec}
use Rattle.rtrb.specs.declared.AnyItems.{AnyItems}
use Rattle.rtrb.specs.declared.consumer.Consumer.{Consumer}
use Rattle.line_tape.specs.declared.limits.TheConstants.{MOST_EVENTS}
use Rattle.line_tape.specs.Rounds.{has_check_of}
use Rattle.line_posts.specs.Ends.{End, HasFilled, StillKnow, in_ends, items_at, known_at}
use Rattle.line_posts.specs.Ends.{known_rows, row_at, with_item}
use Rattle.line_posts.proofs.EndLemmas.{knows_self, prefix_self, rows_known}
use Rattle.std.proofs.lemmas.List.{append-nil}
use Rattle.line_posts.specs.declared.parcels.Packet.{Packet}
use Rattle.line_posts.specs.declared.parcels.Parcel.{Parcel}
use Rattle.line_posts.specs.declared.parcels.Parcel.TheVariants.{Message, Marker}
use Rattle.line_posts.specs.declared.refusals.ReceiveWhy.TheVariants.{OutOfMemory, TapeFull}
use Rattle.line_posts.specs.declared.refusals.ReceiveWhy.TheVariants.{RingFull}
use Rattle.line_posts.specs.Parcels.{parcels_of}
use Rattle.line_posts.specs.Posts.{PostView}
use Rattle.line_posts.specs.Receipts.{BeginsWithMarker, BeginsWithMessage}
use Rattle.line_posts.specs.Refusals.{ComesNext, IsNotReceived, MayReceive}
use Rattle.line_posts.proofs.ReceiveLemmas.{sees_taken}

-- what a worker sees on its rings, from what it saw
abbrev pub SeesOn : List (End Parcel) → List (List Parcel) → List (End Parcel) → List (List Parcel)
    → Type 0
SeesOn ends rows ends' rows' = (p : ℕ) → (popped : List Parcel) × (items_at ends' p
    ≡ items_at ends p ++ popped) × IsPrefix (row_at rows p) (popped ++ row_at rows' p)

pub sees_via : (old now : PostView) (ends : List (End Parcel)) (rows : List (List Parcel))
    → old ≡ now → SeesOn old.ins old.seen ends rows → SeesOn now.ins now.seen ends rows
sees_via old now ends rows e h = subst (λ (t : PostView). SeesOn t.ins t.seen ends rows) e h

pub sees_here : (ends : List (End Parcel)) (rows : List (List Parcel)) → SeesOn ends rows ends rows
sees_here ends rows p = ([], sym (append-nil (items_at ends p)), prefix_self (row_at rows p))

begins_message : (xs : List Parcel) → BeginsWithMessage xs
    → (packet : Packet) × (rest : List Parcel) × (xs ≡ Message packet ∷ rest)
begins_message [] b = absurd b
begins_message (Message packet ∷ rest) b = (packet, rest, refl)
begins_message (Marker round ∷ rest) b = absurd b

begins_marker : (round : ℕ) (xs : List Parcel) → BeginsWithMarker round xs
    → (rest : List Parcel) × (xs ≡ Marker round ∷ rest)
begins_marker round [] b = absurd b
begins_marker round (parcel ∷ rest) b = (rest, ap (λ (x : Parcel). x ∷ rest) b)

-- the snapshot S is of the ends V
module _ (S V : Vec (Consumer Parcel Global AnyItems) Global) (same : S ≡ V) where
  pub know_shown : StillKnow (known_rows S.items) V.items
  know_shown = subst (λ (v : Vec (Consumer Parcel Global AnyItems) Global). StillKnow
      (known_rows v.items) V.items) (sym same) (knows_self V.items)

  row_shown : (p : ℕ) → row_at (known_rows S.items) p ≡ known_at V.items p
  row_shown p = ap (λ (v : Vec (Consumer Parcel Global AnyItems) Global). row_at
      (known_rows v.items) p) same ∙ rows_known V.items p

  pub sees_popped : (rows : List (List Parcel))
      (old looked : List (Consumer Parcel Global AnyItems)) (at : ℕ) (parcel : Parcel)
      → StillKnow rows old → at < length old → IsPrefix (known_at old at) (known_at looked at)
      → ((k : ℕ) → (k ≡ at → ⊥) → known_at looked k ≡ known_at old k) → known_at looked at ≡ parcel
      ∷ known_at V.items at → ((k : ℕ) → (k ≡ at → ⊥) → known_at V.items k ≡ known_at looked k)
      → in_ends V.items ≡ with_item (in_ends looked) at parcel → in_ends looked ≡ in_ends old
      → SeesOn (in_ends old) rows (in_ends V.items) (known_rows S.items)
  sees_popped rows old looked at parcel know lt here others first apart ends same_ends =
      subst (λ (v : Vec (Consumer Parcel Global AnyItems) Global). SeesOn (in_ends old) rows
      (in_ends V.items) (known_rows v.items)) (sym same)
      (sees_taken rows old looked V.items at parcel know lt here others first apart
      (ends ∙ ap (λ t. with_item t at parcel) same_ends))

  -- what the ring shows comes next, where no replay is kept
  module _ (post : PostView) (at from : ℕ) (state : List ℕ) (place : at ≡ from)
      (may : MayReceive post from state) (bare : row_at post.kept from ≡ []) where
    comes : (next : Parcel) (rest : List Parcel) → known_at V.items at ≡ next ∷ rest
        → ComesNext post (row_at (known_rows S.items) from) from next
    comes next rest e = (
      rest,
      ap (λ t. parcels_of t ++ row_at (known_rows S.items) from) bare ∙
          (row_shown from ∙ subst (λ (x : ℕ). known_at V.items x ≡ next ∷ rest) place e),
    )

    pub full_message : BeginsWithMessage (known_at V.items at) → MOST_EVENTS ≤ length post.tape
        → IsNotReceived post (row_at (known_rows S.items) from) from state TapeFull
    full_message b many = (let (packet, rest, e) = begins_message (known_at V.items at) b in
        (may, Message packet, comes (Message packet) rest e, omega (arith, many)))

    pub lack_message : BeginsWithMessage (known_at V.items at) → length post.tape < MOST_EVENTS
        → IsNotReceived post (row_at (known_rows S.items) from) from state OutOfMemory
    lack_message b few = (let (packet, rest, e) = begins_message (known_at V.items at) b in
        (may, Message packet, comes (Message packet) rest e, omega (arith, few)))

    pub full_marker : (round : ℕ) (checked : Bool) → BeginsWithMarker round (known_at V.items at)
        → has_check_of round post.tape ≡ checked → MOST_EVENTS < length post.tape + cond checked 1 2
        → IsNotReceived post (row_at (known_rows S.items) from) from state TapeFull
    full_marker round checked b is many =
        let (rest, e) = begins_marker round (known_at V.items at) b in (
          may,
          Marker round,
          comes (Marker round) rest e,
          subst
              (λ (x : Bool). MOST_EVENTS < length post.tape + cond x 1 2) (sym is) many,
        )

    pub lack_marker : (round : ℕ) (checked : Bool) → BeginsWithMarker round (known_at V.items at)
        → has_check_of round post.tape ≡ checked → length post.tape + cond checked 1 2 ≤ MOST_EVENTS
        → IsNotReceived post (row_at (known_rows S.items) from) from state OutOfMemory
    lack_marker round checked b is few =
        let (rest, e) = begins_marker round (known_at V.items at) b in (
          may,
          Marker round,
          comes (Marker round) rest e,
          subst
              (λ (x : Bool). length post.tape + cond x 1 2 ≤ MOST_EVENTS) (sym is) few,
        )

    pub ring_marker : (round : ℕ) → BeginsWithMarker round (known_at V.items at)
        → has_check_of round post.tape ≡ false → suc (length post.tape) < MOST_EVENTS → HasFilled
        post.outs → IsNotReceived post (row_at (known_rows S.items) from) from state RingFull
    ring_marker round b is few filled = (let (rest, e) = begins_marker round
        (known_at V.items at) b in (may, bare, round, comes (Marker round) rest e, is, few, filled))

-- the first of the replays comes next, whatever the ring shows
replay_next : (post : PostView) (shown : List Parcel) (from : ℕ) (kept : List Packet)
    → row_at post.kept from ≡ kept → 0 < length kept
    → (packet : Packet) × ComesNext post shown from (Message packet)
replay_next post shown from [] e some = absurd (omega (arith, some))
replay_next post shown from (packet ∷ rest) e some =
    (packet, (parcels_of rest ++ shown, ap (λ t. parcels_of t ++ shown) e))

pub full_replay : (post : PostView) (shown : List Parcel) (from : ℕ) (state : List ℕ)
    → MayReceive post from state → 0 < length (row_at post.kept from)
    → MOST_EVENTS ≤ length post.tape → IsNotReceived post shown from state TapeFull
full_replay post shown from state may some many = (let (packet, next) = replay_next post shown from
    (row_at post.kept from) refl some in (may, Message packet, next, omega (arith, many)))

pub lack_replay : (post : PostView) (shown : List Parcel) (from : ℕ) (state : List ℕ)
    → MayReceive post from state → 0 < length (row_at post.kept from)
    → length post.tape < MOST_EVENTS → IsNotReceived post shown from state OutOfMemory
lack_replay post shown from state may some few = (let (packet, next) = replay_next post shown from
    (row_at post.kept from) refl some in (may, Message packet, next, omega (arith, few)))
