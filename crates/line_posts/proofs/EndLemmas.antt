-- A list of ends after a step on one of them.
use Rattle.std.proofs.lemmas.Bool.{cases_eq, cases_lt}
use Rattle.std.proofs.Common.{inl, inr, subst, ◌+◌, ◌≡◌, ◌∙◌, ◌<◌, ◌≤◌, ◌++◌, ◌∷◌, [], ℕ, zero, suc}
use Rattle.std.proofs.Common.{List, Some, map, set, get_or, length, refl, sym, ap, arith}
use Rattle.std.specs.Prelude.{All}
use Rattle.std.specs.declared.vec.Vec.{Vec}
use Rattle.std.proofs.lemmas.List.{append_assoc, append-nil, length-map}
use mathlib.Core.List.{IsPrefix}
use Rattle.std.specs.Prelude.{option_map, slice_get}
use Rattle.std.specs.declared.alloc.Global.{Global}
use Rattle.rtrb.specs.declared.producer.Producer.{Producer}
use Rattle.rtrb.specs.declared.consumer.Consumer.{Consumer}
use Rattle.rtrb.specs.Ring.{SameProducer, SameConsumer, IsPair, sent, received, known_items}
use Rattle.rtrb.specs.Ring.{known_free}
use Rattle.line_posts.specs.Ends.{Ring, End, HasAllFree, HasRoomBelow, HaveAllFree, IsFilled}
use Rattle.line_posts.specs.Ends.{StillKnow, free_at, known_at, known_rows, out_ends, out_rows}
use Rattle.line_posts.specs.Ends.{producer_end, consumer_end, row_at, slots_at, slots_of, with_item}
use Rattle.line_posts.specs.Ends.{items_of, items_at, ring_at}

-- what is seen of the elements, where one is put in another's place that looks the same
pub seen_kept : {X Y : Type 0} (f : X → Y) (xs : List X) (i : ℕ) (new d : X) → i < length xs
    → f new ≡ f (get_or xs i d) → map f (set xs i new) ≡ map f xs
seen_kept f [] i new d lt e = refl
seen_kept f (x ∷ xs) zero new d lt e = ap (λ t. t ∷ map f xs) e
seen_kept f (x ∷ xs) (suc i) new d lt e =
    ap (λ t. f x ∷ t) (seen_kept f xs i new d (omega (arith, lt)) e)

-- where one item more has passed it
pub seen_more : {X T : Type 0} (f : X → End T) (xs : List X) (i : ℕ) (new d : X) (item : T)
    → i < length xs
    → f new ≡ record (f (get_or xs i d)) { items = (f (get_or xs i d)).items ++ item ∷ [] }
    → map f (set xs i new) ≡ with_item (map f xs) i item
seen_more f [] i new d item lt e = refl
seen_more f (x ∷ xs) zero new d item lt e = ap (λ t. t ∷ map f xs) e
seen_more f (x ∷ xs) (suc i) new d item lt e =
    ap (λ t. f x ∷ t) (seen_more f xs i new d item (omega (arith, lt)) e)

module _ {T P : Type 0} where
  pub producer_kept : (a b : Producer T Global P) → SameProducer a b → sent b ≡ sent a
      → producer_end b ≡ producer_end a
  producer_kept a b h e = rw (h.0.0, h.0.1, h.0.2, h.0.3, e) refl

  pub consumer_kept : (a b : Consumer T Global P) → SameConsumer a b → received b ≡ received a
      → consumer_end b ≡ consumer_end a
  consumer_kept a b h e = rw (h.0.0, h.0.1, h.0.2, h.0.3, e) refl

  pub producer_more : (a b : Producer T Global P) (item : T) → SameProducer a b
      → sent b ≡ sent a ++ item ∷ []
      → producer_end b ≡ record (producer_end a) { items = (producer_end a).items ++ item ∷ [] }
  producer_more a b item h e = rw (h.0.0, h.0.1, h.0.2, h.0.3, e) refl

  pub consumer_more : (a b : Consumer T Global P) (item : T) → SameConsumer a b
      → received b ≡ received a ++ item ∷ []
      → consumer_end b ≡ record (consumer_end a) { items = (consumer_end a).items ++ item ∷ [] }
  consumer_more a b item h e = rw (h.0.0, h.0.1, h.0.2, h.0.3, e) refl

  -- the two ends of a ring through which nothing has passed
  pub pair_end : (p : Producer T Global P) (c : Consumer T Global P) → IsPair p c → sent p ≡ []
      → received c ≡ [] → consumer_end c ≡ producer_end p
  pair_end p c h e f = rw (h.0, h.1, h.2, h.3, e, f) refl

-- two ends of one ring are a pair
some_eq : {X : Type 0} (x y : X) → Some x ≡ Some y → x ≡ y
some_eq x y e = cc

at_map : {X Y : Type 0} (f : X → Y) (xs : List X) (i : ℕ) (d : X) → i < length xs
    → slice_get (map f xs) i ≡ Some (f (get_or xs i d))
at_map f [] i d lt = absurd (omega (arith, lt))
at_map f (x ∷ xs) zero d lt = refl
at_map f (x ∷ xs) (suc i) d lt = at_map f xs i d (omega (arith, lt))

pub ring_there : {X T : Type 0} (f : X → End T) (xs : List X) (i : ℕ) (d x : X) → i < length xs
    → get_or xs i d ≡ x → ring_at (map f xs) i ≡ Some ((f x).ring)
ring_there f xs i d x lt e =
    ap (option_map (λ (e : End _). e.ring)) (at_map f xs i d lt ∙ ap (λ t. Some (f t)) e)

pub items_there : {X T : Type 0} (f : X → End T) (xs : List X) (i : ℕ) (d x : X) → i < length xs
    → get_or xs i d ≡ x → items_at (map f xs) i ≡ (f x).items
items_there f xs i d x lt e = ap items_of (at_map f xs i d lt ∙ ap (λ t. Some (f t)) e)

pub is_pair : {T P : Type 0} (p : Producer T Global P) (c : Consumer T Global P)
    → Some ((producer_end p).ring) ≡ Some ((consumer_end c).ring) → IsPair p c
is_pair p c e =
    let r : (producer_end p).ring ≡ (consumer_end c).ring = some_eq _ _ e in
    let s = sym r in (
      ap (λ (t : Ring). t.0) s,
      ap (λ (t : Ring). t.1) s,
      ap (λ (t : Ring). t.2) s,
      ap
          (λ (t : Ring). t.3) s,
    )

-- what passed the ends, after one more item
pub length_item : {T : Type 0} (ends : List (End T)) (q : ℕ) (item : T)
    → length (with_item ends q item) ≡ length ends
length_item [] q item = refl
length_item (e ∷ es) zero item = refl
length_item (e ∷ es) (suc q) item = ap suc (length_item es q item)

pub items_same : {T : Type 0} (ends : List (End T)) (q k : ℕ) (item : T) → q < length ends → k ≡ q
    → items_at (with_item ends q item) k ≡ items_at ends k ++ item ∷ []
items_same [] q k item lt same = absurd (omega (arith, lt))
items_same (e ∷ es) zero zero item lt same = refl
items_same (e ∷ es) zero (suc k) item lt same = absurd (omega (arith, same))
items_same (e ∷ es) (suc q) zero item lt same = absurd (omega (arith, same))
items_same (e ∷ es) (suc q) (suc k) item lt same =
    items_same es q k item (omega (arith, lt)) (omega (arith, same))

pub items_other : {T : Type 0} (ends : List (End T)) (q k : ℕ) (item : T) → (k ≡ q → ⊥)
    → items_at (with_item ends q item) k ≡ items_at ends k
items_other [] q k item other = refl
items_other (e ∷ es) zero zero item other = absurd (other refl)
items_other (e ∷ es) zero (suc k) item other = refl
items_other (e ∷ es) (suc q) zero item other = refl
items_other (e ∷ es) (suc q) (suc k) item other =
    items_other es q k item (λ same. other (omega (arith, same)))

-- the rings stay
pub ring_item : {T : Type 0} (ends : List (End T)) (q k : ℕ) (item : T)
    → ring_at (with_item ends q item) k ≡ ring_at ends k
ring_item [] q k item = refl
ring_item (e ∷ es) zero zero item = refl
ring_item (e ∷ es) zero (suc k) item = refl
ring_item (e ∷ es) (suc q) zero item = refl
ring_item (e ∷ es) (suc q) (suc k) item = ring_item es q k item

-- what is known at one end, read and written
pub known_there : {T P : Type 0} (ins : List (Consumer T Global P)) (p : ℕ)
    (c : Consumer T Global P) → p < length ins → c ≡ get_or ins p c → known_at ins p ≡ known_items c
known_there [] p c lt e = absurd (omega (arith, lt))
known_there (x ∷ xs) zero c lt e = ap known_items (sym e)
known_there (x ∷ xs) (suc p) c lt e = known_there xs p c (omega (arith, lt)) e

pub known_set : {T P : Type 0} (ins : List (Consumer T Global P)) (p : ℕ)
    (new : Consumer T Global P) → p < length ins → known_at (set ins p new) p ≡ known_items new
known_set [] p new lt = absurd (omega (arith, lt))
known_set (x ∷ xs) zero new lt = refl
known_set (x ∷ xs) (suc p) new lt = known_set xs p new (omega (arith, lt))

pub known_other : {T P : Type 0} (ins : List (Consumer T Global P)) (p k : ℕ)
    (new : Consumer T Global P) → (k ≡ p → ⊥) → known_at (set ins p new) k ≡ known_at ins k
known_other [] p k new ne = refl
known_other (x ∷ xs) zero zero new ne = absurd (ne refl)
known_other (x ∷ xs) zero (suc k) new ne = refl
known_other (x ∷ xs) (suc p) zero new ne = refl
known_other (x ∷ xs) (suc p) (suc k) new ne = known_other xs p k new (λ e. ne (omega (arith, e)))

-- what is known to be free, read and written
pub free_there : {T P : Type 0} (outs : List (Producer T Global P)) (q : ℕ) (p : Producer T Global
    P) → q < length outs → p ≡ get_or outs q p → free_at outs q ≡ known_free p
free_there [] q p lt e = absurd (omega (arith, lt))
free_there (x ∷ xs) zero p lt e = ap known_free (sym e)
free_there (x ∷ xs) (suc q) p lt e = free_there xs q p (omega (arith, lt)) e

pub free_set : {T P : Type 0} (outs : List (Producer T Global P)) (q : ℕ)
    (new : Producer T Global P) → q < length outs → free_at (set outs q new) q ≡ known_free new
free_set [] q new lt = absurd (omega (arith, lt))
free_set (x ∷ xs) zero new lt = refl
free_set (x ∷ xs) (suc q) new lt = free_set xs q new (omega (arith, lt))

pub free_other : {T P : Type 0} (outs : List (Producer T Global P)) (q k : ℕ)
    (new : Producer T Global P) → (k ≡ q → ⊥) → free_at (set outs q new) k ≡ free_at outs k
free_other [] q k new ne = refl
free_other (x ∷ xs) zero zero new ne = absurd (ne refl)
free_other (x ∷ xs) zero (suc k) new ne = refl
free_other (x ∷ xs) (suc q) zero new ne = refl
free_other (x ∷ xs) (suc q) (suc k) new ne = free_other xs q k new (λ e. ne (omega (arith, e)))

-- one more of them has room
pub room_more : {T P : Type 0} (outs outs' : List (Producer T Global P)) (q : ℕ)
    → ((k : ℕ) → (k ≡ q → ⊥) → free_at outs' k ≡ free_at outs k) → 0 < free_at outs' q
    → HasRoomBelow q outs → HasRoomBelow (q + 1) outs'
room_more outs outs' q same here below k lt = elim (cases_lt k q) [
  | inl less ↦ subst (λ v. 0 < v) (sym (same k (λ e. omega (arith, e, less)))) (below k less)
  | inr ge ↦ (let e : k
      ≡ q = omega (arith, ge, lt) in subst (λ v. 0 < free_at outs' v) (sym e) here)
]

-- an end that knows of no free slot has pushed as many items as fit in the ring
filled_of : {T P : Type 0} (p : Producer T Global P) → known_free p ≡ 0
    → slots_of (producer_end p).ring ≤ length (producer_end p).items
filled_of p none =
    let most = p.counts.0 in
    let is = p.writes.2 in
    omega (arith, most, is, none)

pub filled_at : {T P : Type 0} (outs : List (Producer T Global P)) (q : ℕ)
    (old new : Producer T Global P) → q < length outs → old ≡ get_or outs q old
    → producer_end new ≡ producer_end old → known_free new ≡ 0 → IsFilled (out_ends outs) q
filled_at outs q old new lt at same none =
    let filled : slots_of (producer_end old).ring ≤ length (producer_end old).items = subst
    (λ (e : End _). slots_of e.ring ≤ length e.items) same (filled_of new none) in
    rw (
      ring_there producer_end outs q old old lt
          (sym at),
      items_there producer_end outs q old old lt (sym at),
    ) filled

-- the slots of rings that were made
slots_row : {T P : Type 0} (capacity : ℕ) (outs : List (Producer T Global P)) (q : ℕ)
    → All (HasAllFree capacity) outs → q < length outs → slots_at (out_ends outs) q ≡ capacity
slots_row capacity [] q h lt = absurd (omega (arith, lt))
slots_row capacity (x ∷ xs) zero h lt = sym x.writes.2 ∙ (h 0 x lt).1
slots_row capacity (x ∷ xs) (suc q) h lt =
    slots_row capacity xs q (λ i d l. h (suc i) d (omega (arith, l))) (omega (arith, lt))

pub slots_rows : {T P : Type 0} (capacity : ℕ) (outs : List (Vec (Producer T Global P) Global))
    (p q : ℕ) → HaveAllFree capacity outs → p < length outs → q < length (row_at (out_rows outs) p)
    → slots_at (row_at (out_rows outs) p) q ≡ capacity
slots_rows capacity [] p q h lt within = absurd (omega (arith, lt))
slots_rows capacity (v ∷ vs) zero q h lt within = (let l = length-map v.items producer_end in
    slots_row capacity v.items q (h 0 v lt) (omega (arith, l, within)))
slots_rows capacity (v ∷ vs) (suc p) q h lt within =
    slots_rows capacity vs p q (λ i d l. h (suc i) d (omega (arith, l))) (omega (arith, lt)) within

-- what was seen, as rows
pub rows_known : {T P : Type 0} (ins : List (Consumer T Global P)) (p : ℕ)
    → row_at (known_rows ins) p ≡ known_at ins p
rows_known [] p = refl
rows_known (c ∷ cs) zero = refl
rows_known (c ∷ cs) (suc p) = rows_known cs p

pub prefix_self : {X : Type 0} (xs : List X) → IsPrefix xs xs
prefix_self xs = ([], append-nil xs)

pub prefix_then : {X : Type 0} (xs ys zs : List X) → IsPrefix xs ys → IsPrefix ys zs
    → IsPrefix xs zs
prefix_then xs ys zs (t, e) (u, f) = (t ++ u, sym (append_assoc xs t u) ∙ (ap (λ v. v ++ u) e ∙ f))

pub prefix_behind : {X : Type 0} (first xs ys : List X) → IsPrefix xs ys
    → IsPrefix (first ++ xs) (first ++ ys)
prefix_behind first xs ys (t, e) = (t, append_assoc first xs t ∙ ap (λ v. first ++ v) e)

pub knows_self : {T P : Type 0} (ins : List (Consumer T Global P)) → StillKnow (known_rows ins) ins
knows_self ins p = rw (rows_known ins p) (prefix_self (known_at ins p))

-- what is still known after a look at one of them
pub knows_more : {T P : Type 0} (rows : List (List T)) (old new : List (Consumer T Global P))
    (p : ℕ) → StillKnow rows old → IsPrefix (known_at old p) (known_at new p)
    → ((k : ℕ) → (k ≡ p → ⊥) → known_at new k ≡ known_at old k) → StillKnow rows new
knows_more rows old new p know here others k = elim (cases_eq k p) [
  | inl same ↦ prefix_then (row_at rows k) (known_at old k) (known_at new k) (know k)
      (subst (λ (v : ℕ). IsPrefix (known_at old v) (known_at new v)) (sym same) here)
  | inr apart ↦ subst (λ (v : List _). IsPrefix (row_at rows k) v) (sym (others k apart)) (know k)
]

pub knows_then : {T P : Type 0} (rows : List (List T)) (old new : List (Consumer T Global P))
    → StillKnow rows old → StillKnow (known_rows old) new → StillKnow rows new
knows_then rows old new know later p = prefix_then (row_at rows p) (known_at old p) (known_at new p)
    (know p) (subst (λ (v : List _). IsPrefix v (known_at new p)) (rows_known old p) (later p))

-- the rows that are seen, after a look at one of them and after a take
pub looked_rows : {T P : Type 0} (old new : List (Consumer T Global P)) (p : ℕ) → IsPrefix
    (known_at old p) (known_at new p) → ((k : ℕ) → (k ≡ p → ⊥) → known_at new k ≡ known_at old k)
    → (q : ℕ) → IsPrefix (row_at (known_rows old) q) (row_at (known_rows new) q)
looked_rows old new p here others q = subst (λ (v : List _). IsPrefix (row_at (known_rows old) q) v)
    (sym (rows_known new q)) (knows_more (known_rows old) old new p (knows_self old) here others q)

pub other_rows : {T P : Type 0} (old new : List (Consumer T Global P)) (p : ℕ)
    → ((k : ℕ) → (k ≡ p → ⊥) → known_at new k ≡ known_at old k) → (q : ℕ) → (q ≡ p → ⊥)
    → row_at (known_rows new) q ≡ row_at (known_rows old) q
other_rows old new p others q ne = rows_known new q ∙ (others q ne ∙ sym (rows_known old q))

pub taken_rows : {T P : Type 0} (old looked new : List (Consumer T Global P)) (p : ℕ) (item : T)
    → IsPrefix (known_at old p) (known_at looked p) → known_at looked p ≡ item ∷ known_at new p
    → IsPrefix (row_at (known_rows old) p) (item ∷ row_at (known_rows new) p)
taken_rows old looked new p item here first = rw (rows_known old p, rows_known new p)
    (subst (λ (v : List _). IsPrefix (known_at old p) v) first here)

pub still_rows : {T P : Type 0} (rows : List (List T)) (new : List (Consumer T Global P))
    → StillKnow rows new → (q : ℕ) → IsPrefix (row_at rows q) (row_at (known_rows new) q)
still_rows rows new know q =
    subst (λ (v : List _). IsPrefix (row_at rows q) v) (sym (rows_known new q)) (know q)

-- what was known is next, where an item was taken after a look
pub taken_still : {T P : Type 0} (rows : List (List T))
    (old looked new : List (Consumer T Global P)) (p : ℕ) (item : T) → StillKnow rows old
    → IsPrefix (known_at old p) (known_at looked p)
    → ((k : ℕ) → (k ≡ p → ⊥) → known_at looked k ≡ known_at old k)
    → known_at looked p ≡ item ∷ known_at new p
    → ((k : ℕ) → (k ≡ p → ⊥) → known_at new k ≡ known_at looked k)
    → (q : ℕ) → (q ≡ p → IsPrefix (row_at rows q) (item ∷ row_at (known_rows new) q))
    × ((q ≡ p → ⊥) → IsPrefix (row_at rows q) (row_at (known_rows new) q))
taken_still rows old looked new p item know here others first apart q =
    let all = knows_more rows old looked p know here others in (
      λ e. rw (rows_known new q) (subst (λ (v : ℕ). IsPrefix (row_at rows v) (item ∷ known_at new
          v)) (sym e) (subst (λ (v : List _). IsPrefix (row_at rows p) v) first (all p))),
      λ ne. rw (rows_known new q)
          (subst (λ (v : List _). IsPrefix (row_at rows q) v) (sym (apart q ne)) (all q)),
    )
