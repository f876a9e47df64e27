-- The ends of rings: which ring an end is of, and what has passed it.
use Rattle.std.specs.Prelude.{◌≡◌, ◌<◌, ◌≤◌, ℕ, zero, suc, List, [], ◌∷◌, ◌++◌, Option, Some, None}
use Rattle.std.specs.Prelude.{All, slice_get, slice_index_or, map, option_map, length}
use denote.RawPtr.{Ptr}
use mathlib.Core.List.{IsPrefix}
use Rattle.std.specs.declared.alloc.Global.{Global}
use Rattle.std.specs.declared.vec.Vec.{Vec}
use Rattle.rtrb.specs.Shared.{Names}
use Rattle.rtrb.specs.declared.producer.Producer.{Producer}
use Rattle.rtrb.specs.declared.consumer.Consumer.{Consumer}
use Rattle.rtrb.specs.Ring.{sent, received, known_items, known_free, producer_capacity}

-- which ring it is: its memory, and its names in proofs
abbrev pub Ring : Type 0
Ring = Ptr × Ptr × Names × Global

-- how many items fit in a ring
abbrev pub slots_of : Ring → ℕ
slots_of ring = ring.2.0

-- how many items fit in a ring; zero where there is none
abbrev pub slots_in : Option Ring → ℕ
slots_in None = 0
slots_in (Some ring) = slots_of ring

-- an end of a ring: which ring it is, and what was pushed there, or popped
pub record End (T : Type 0) : Type 0 where
  pub ring : Ring
  pub items : List T

module _ {T P : Type 0} where
  -- the end that pushes
  abbrev pub producer_end : Producer T Global P → End T
  producer_end p = record {
    ring = (p.end.words, p.end.slots, p.end.names, p.end.heap);
    items = sent p;
  }

  -- the end that pops
  abbrev pub consumer_end : Consumer T Global P → End T
  consumer_end c = record {
    ring = (c.end.words, c.end.slots, c.end.names, c.end.heap);
    items = received c;
  }

  -- the ends that push, by the process at the other end
  abbrev pub out_ends : List (Producer T Global P) → List (End T)
  out_ends outs = map producer_end outs

  -- the ends that pop, by the process at the other end
  abbrev pub in_ends : List (Consumer T Global P) → List (End T)
  in_ends ins = map consumer_end ins

  -- the items that an end has seen
  abbrev pub known_of : Option (Consumer T Global P) → List T
  known_of None = []
  known_of (Some c) = known_items c

  -- the items that the end at p has seen, the next to be popped first
  abbrev pub known_at : List (Consumer T Global P) → ℕ → List T
  known_at ins p = known_of (slice_get ins p)

  -- the items that each of these ends has seen
  abbrev pub known_rows : List (Consumer T Global P) → List (List T)
  known_rows ins = map known_items ins

  -- each end knows the items of its row first
  abbrev pub StillKnow : List (List T) → List (Consumer T Global P) → Type 0
  StillKnow rows ins = (p : ℕ) → IsPrefix (slice_index_or rows p []) (known_at ins p)

  -- how many slots an end knows to be free
  abbrev pub free_of : Option (Producer T Global P) → ℕ
  free_of None = 0
  free_of (Some p) = known_free p

  -- how many slots the end at q knows to be free
  abbrev pub free_at : List (Producer T Global P) → ℕ → ℕ
  free_at outs q = free_of (slice_get outs q)

  -- each end below q knows of a free slot
  abbrev pub HasRoomBelow : ℕ → List (Producer T Global P) → Type 0
  HasRoomBelow q outs = (k : ℕ) → k < q → 0 < free_at outs k

  -- some end knows of no free slot
  abbrev pub HasFullEnd : List (Producer T Global P) → Type 0
  HasFullEnd outs = (q : ℕ) × (q < length outs) × (free_at outs q ≡ 0)

  -- the end is of a ring of that capacity, and knows each slot of it to be free
  abbrev pub HasAllFree : ℕ → Producer T Global P → Type 0
  HasAllFree capacity p = (known_free p ≡ capacity) × (producer_capacity p ≡ capacity)

  -- the ends that push, by sender and then receiver
  abbrev pub out_rows : List (Vec (Producer T Global P) Global) → List (List (End T))
  out_rows outs = map (λ v. out_ends v.items) outs

  -- the ends that pop, by receiver and then sender
  abbrev pub in_rows : List (Vec (Consumer T Global P) Global) → List (List (End T))
  in_rows ins = map (λ v. in_ends v.items) ins

  -- each ring of each sender has that capacity, all of it free
  abbrev pub HaveAllFree : ℕ → List (Vec (Producer T Global P) Global) → Type 0
  HaveAllFree capacity outs = All (λ v. All (HasAllFree capacity) v.items) outs

-- an end, after these items passed it
abbrev pub with_items : {T : Type 0} → End T → List T → End T
with_items e items = record e { items = e.items ++ items }

module _ {T : Type 0} where
  -- the ends, after one more item passed the one at q
  abbrev pub with_item : List (End T) → ℕ → T → List (End T)
  with_item [] q item = []
  with_item (e ∷ es) zero item = with_items e (item ∷ []) ∷ es
  with_item (e ∷ es) (suc q) item = e ∷ with_item es q item

  -- what passed an end
  abbrev pub items_of : Option (End T) → List T
  items_of None = []
  items_of (Some e) = e.items

  -- what passed the end at q
  abbrev pub items_at : List (End T) → ℕ → List T
  items_at ends q = items_of (slice_get ends q)

  -- which ring the end at q is of
  abbrev pub ring_at : List (End T) → ℕ → Option Ring
  ring_at ends q = option_map (λ (e : End T). e.ring) (slice_get ends q)

  -- how many items fit in the ring of the end at q
  abbrev pub slots_at : List (End T) → ℕ → ℕ
  slots_at ends q = slots_in (ring_at ends q)

  -- as many items were pushed on the ring of the end at q as fit in it: only who pops can have
  -- freed slots since
  abbrev pub IsFilled : List (End T) → ℕ → Type 0
  IsFilled outs q = slots_at outs q ≤ length (items_at outs q)

  -- as many items were pushed on one of these rings as fit in it
  abbrev pub HasFilled : List (End T) → Type 0
  HasFilled outs = (q : ℕ) × (q < length outs) × IsFilled outs q

  -- nothing has passed any of these ends
  abbrev pub AreFresh : List (End T) → Type 0
  AreFresh ends = (q : ℕ) → items_at ends q ≡ []

-- each row with its item after it
abbrev pub rows_with_items : {X : Type 0} → List (List X) → List X → List (List X)
rows_with_items rows [] = rows
rows_with_items [] (x ∷ xs) = []
rows_with_items (row ∷ rows) (x ∷ xs) = (row ++ x ∷ []) ∷ rows_with_items rows xs

-- the row at p, empty where there is none
abbrev pub row_at : {X : Type 0} → List (List X) → ℕ → List X
row_at rows p = slice_index_or rows p []

-- m senders and n receivers have the ends of a ring from each to each, through which nothing has
-- passed
pub record AreLinked {T : Type 0} (m n : ℕ) (outs ins : List (List (End T))) : Type 0 where
  pub senders : length outs ≡ m
  pub receivers : length ins ≡ n
  pub out_count : (p : ℕ) → p < m → length (row_at outs p) ≡ n
  pub in_count : (q : ℕ) → q < n → length (row_at ins q) ≡ m
  pub linked : (p q : ℕ) → slice_get (row_at outs p) q ≡ slice_get (row_at ins q) p
  pub fresh : (p : ℕ) → AreFresh (row_at outs p)

-- the ring from each of the m senders to each of the n receivers has that many slots
abbrev pub HaveSlots : {T : Type 0} → ℕ → ℕ → ℕ → List (List (End T)) → Type 0
HaveSlots m n capacity outs =
    (p q : ℕ) → p < m → q < n → slots_at (row_at outs p) q ≡ capacity
