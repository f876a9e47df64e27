-- What the queues from one process hold, and the room on each, as one of them changes.
use Rattle.std.proofs.Common.{◌≡◌, ◌≢◌, ℕ, ◌+◌, ◌<◌, ◌≤◌, cond, List, [], ◌∷◌, ◌++◌, length, get_or}
use Rattle.std.proofs.Common.{set, map, drop, sym, ap, ◌∙◌, subst, arith, inl, inr}
use Rattle.std.specs.Prelude.{◌==◌, if◌then◌else◌, OnErr, Result, Ok, Err}
use Rattle.std.proofs.lemmas.Bool.{cases_eq, eq-eqb, ne_eqb}
use Rattle.std.proofs.lemmas.List.{append-nil, get_or-map, get_or-set_same, get_or-set_other}
use Rattle.std.proofs.lemmas.List.{length-map, length-set, map-set, set-get_or}
use Rattle.std.proofs.lemmas.List.FromFn.{fill_by_all}
use Rattle.line_tape.specs.declared.items.Item.{Item}
use Rattle.line_moves.specs.Queues.{with_on_others}
use Rattle.line_moves.specs.Rooms.{no_queue, items_held, AreEmpty, QueueView}

-- what is seen of a list once one element changes
pub map-changed : {X Y : Type 0} (f : X → Y) (xs : List X) (i : ℕ) (d : Y) (old new : X) (g : Y → Y)
    → i < length xs → old ≡ get_or xs i old → f new ≡ g (f old)
    → map f (set xs i new) ≡ set (map f xs) i (g (get_or (map f xs) i d))
map-changed f xs i d old new g within at is = map-set f xs i new ∙ ap (λ y. set (map f xs) i y)
    (is ∙ ap g (ap f at ∙ sym (get_or-map f xs i old d within)))

-- what one queue holds is read among what all hold
items-at : (row : List QueueView) (q : ℕ) (d : QueueView) → q < length row
    → get_or (items_held row) q [] ≡ (get_or row q d).held
items-at row q d within = get_or-map (λ (queue : QueueView). queue.held) row q d [] within

-- the queues that have room, one more at a time
pub rooms-more : (row : List QueueView) (i : ℕ) (new : QueueView) → i < length row → 0 < new.room
    → ((k : ℕ) (d : QueueView) → k < i → 0 < (get_or row k d).room)
    → (k : ℕ) (d : QueueView) → k < i + 1 → 0 < (get_or (set row i new) k d).room
rooms-more row i new within here each k d below = elim (cases_eq k i) [
  | inl same ↦ subst (λ (v : QueueView). 0 < v.room) (sym
      (ap (λ (j : ℕ). get_or (set row i new) j d) same ∙ get_or-set_same row i new d within)) here
  | inr other ↦ subst (λ (v : QueueView). 0 < v.room) (sym (get_or-set_other row i k new d other))
      (each k d (omega (arith, below, other)))
]

-- the first q queues, but that to p, have an item more; those from there on are as before, with
-- room
pub record AreSent (p : ℕ) (item : Item) (q : ℕ) (old row : List QueueView) : Type 0 where
  pub count : length row ≡ length old
  pub sent : (k : ℕ) (d : QueueView) → k < q → k < length old
      → (get_or row k d).held ≡ get_or (items_held old) k [] ++ (if p == k then [] else item ∷ [])
  pub later : (k : ℕ) (d : QueueView) → q ≤ k → get_or row k d ≡ get_or old k d
  pub room : (k : ℕ) (d : QueueView) → q ≤ k → k < length old → 0 < (get_or row k d).room

module _ (p : ℕ) (item : Item) (q : ℕ) (old row : List QueueView) (is : AreSent p item q old row)
    (within : q < length row) where
  -- nothing is put on its own queue
  pub AreSent-own : q ≡ p → AreSent p item (q + 1) old row
  AreSent-own same = record {
    count = is.count;
    sent = λ k d below k_within. elim (cases_eq k q) [
      | inl here ↦ ap (λ (v : QueueView). v.held) (is.later k d (omega (arith, here)))
          ∙ sym (items-at old k d k_within)
          ∙ sym (append-nil (get_or (items_held old) k []))
          ∙ ap (λ b. get_or (items_held old) k [] ++ cond b [] (item ∷ []))
          (sym (eq-eqb p k (sym (here ∙ same))))
      | inr other ↦ is.sent k d (omega (arith, below, other)) k_within
    ];
    later = λ k d low. is.later k d (omega (arith, low));
    room = λ k d low. is.room k d (omega (arith, low));
  }

  -- the item is put on another
  pub AreSent-put : (before new : QueueView) → q ≢ p → before ≡ get_or row q before
      → new.held ≡ before.held ++ item ∷ [] → AreSent p item (q + 1) old (set row q new)
  AreSent-put before new apart at more = record {
    count = length-set row q new ∙ is.count;
    sent = λ k d below k_within. elim (cases_eq k q) [
      | inl here ↦ ap (λ (v : QueueView). v.held)
          (ap (λ (j : ℕ). get_or (set row q new) j d) here ∙ get_or-set_same row q new d within)
          ∙ more
          ∙ ap (λ (xs : List Item). xs ++ item ∷ [])
          (ap (λ (v : QueueView). v.held) (at ∙ is.later q before (omega arith))
          ∙ sym (items-at old q before (omega (arith, within, is.count)))
          ∙ ap (λ (j : ℕ). get_or (items_held old) j []) (sym here))
          ∙ ap (λ b. get_or (items_held old) k [] ++ cond b [] (item ∷ []))
          (sym (ne_eqb p k (λ e. apart (sym (e ∙ here)))))
      | inr other ↦ ap (λ (v : QueueView). v.held) (get_or-set_other row q k new d other) ∙ is.sent
          k d (omega (arith, below, other)) k_within
    ];
    later = λ k d low. get_or-set_other row q k new d
        (λ e. absurd (omega (arith, low, e))) ∙ is.later k d (omega (arith, low));
    room = λ k d low k_within. subst (λ (v : QueueView). 0 < v.room) (sym (get_or-set_other row q k
        new d (λ e. absurd (omega (arith, low, e))))) (is.room k d (omega (arith, low)) k_within);
  }

-- past the last queue
pub AreSent-end : (p : ℕ) (item : Item) (q : ℕ) (old row : List QueueView) → AreSent p item q old
    row → length row ≤ q → items_held row ≡ with_on_others (items_held old) p item
AreSent-end p item q old row is past =
    let held : QueueView → List Item = λ queue. queue.held in
    let none : QueueView = no_queue in
    fill_by_all (λ k. get_or (items_held old) k [] ++ (if p == k then [] else item ∷ []))
    (items_held row) (length (items_held old)) []
    (length-map row held ∙ is.count ∙ sym (length-map old held))
    (λ k within. let below : k < length old = omega
    (arith, within, length-map old held) in items-at row k none (omega (arith, below, is.count))
    ∙ is.sent k none (omega (arith, below, is.count, past)) below)

-- what holds anyway holds of an error
pub on_err : {T E P : Type 0} (r : Result T E) → P → OnErr r P
on_err (Ok x) p = tt
on_err (Err e) p = p

-- nor is anything once the first item of one is taken off
pub AreEmpty-off : (row new : List QueueView) (k : ℕ) → items_held new
    ≡ set (items_held row) k (drop 1 (get_or (items_held row) k [])) → AreEmpty row → AreEmpty new
AreEmpty-off row new k is empty q =
    let items : List (List Item) = items_held row in
    ap (λ (xs : List (List Item)). get_or xs q []) (is
    ∙ ap (λ (xs : List Item). set items k (drop 1 xs)) (empty k)
    ∙ ap (λ (xs : List Item). set items k xs) (sym (empty k))
    ∙ set-get_or items k [])
    ∙ empty q
