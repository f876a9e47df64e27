-- What is picked from a link, in what is left.
use Rattle.std.proofs.Common.{◌≡◌, ℕ, zero, suc, ◌-◌, Bool, true, false, not, cond, List, [], ◌∷◌}
use Rattle.std.proofs.Common.{length, Option, Some, None, refl, sym, ap, ◌∙◌, subst}
use Rattle.std.specs.Prelude.{◌==◌}
use Rattle.std.specs.List.{All, cons_option, filter_map, slice_get}
use Rattle.std.proofs.lemmas.Bool.{lt-ltb}
use Rattle.std.proofs.lemmas.List.Elements.{All-nil, All-cons, All-head, All-tail, All-drop}
use Rattle.line_tape.specs.declared.events.Event.{Event}
use Rattle.line_tape.specs.declared.events.Event.TheVariants.{Send as SendEvent, Recv}
use Rattle.line_tape.specs.declared.events.Event.TheVariants.{Check as CheckEvent, Mark}
use Rattle.line_tape.specs.declared.items.Item.{Item}
use Rattle.line_tape.specs.declared.items.Item.TheVariants.{Message, Marker}
use Rattle.line_tape.specs.Fit.{items_sent, sent_between, received_from, link}
use Rattle.line_tape.specs.History.{Process, tape_at}
use Rattle.line_moves.specs.Worlds.{IsItemOf}
use Rattle.line_cuts.specs.Cuts.{Floor, cut_name, cut_item}
use Rattle.line_live.specs.CutMachines.{IsItemLeft}

-- what a link holds is of its sender
items_from : (p q k : ℕ) (es : List Event) → All (IsItemOf p) (items_sent p q k es)
items_from p q k [] = All-nil (IsItemOf p)
items_from p q k (SendEvent to inc body ∷ es) =
    let ih = items_from p q (suc k) es in
    elim (to == q) as (λ b. All (IsItemOf p) (cond b (Message (record {
      from = p;
      inc = inc;
      number
          = k;
    }) ∷ items_sent p q (suc k) es) (items_sent p q (suc k) es))) [
      | true ↦ All-cons (IsItemOf p) (Message (record { from = p; inc = inc; number = k }))
          (items_sent p q (suc k) es) refl ih
      | false ↦ ih
    ]
items_from p q k (Recv m ∷ es) = items_from p q k es
items_from p q k (CheckEvent state None ∷ es) = items_from p q k es
items_from p q k (CheckEvent state (Some r) ∷ es) =
    All-cons (IsItemOf p) (Marker r) (items_sent p q k es) tt (items_from p q k es)
items_from p q k (Mark from r ∷ es) = items_from p q k es

pub link_from : (history : List Process) (p q : ℕ) → All (IsItemOf p) (link history p q)
link_from history p q = All-drop (IsItemOf p) (length (received_from history q p))
    (sent_between history p q) (items_from p q 0 (tape_at history p))

-- what is picked there is what is left of what is picked
abbrev pub IsCutOf : Floor → Option Item → Option Item → Type 0
IsCutOf floor None None = Unit {0}
IsCutOf floor None (Some item) = ⊥
IsCutOf floor (Some kept) None = ⊥
IsCutOf floor (Some kept) (Some item) = (cut_item floor item ≡ Some kept) × IsItemLeft floor item

abbrev pub kept_item : Floor → Item → Item
kept_item floor (Message m) = Message (cut_name floor m)
kept_item floor (Marker r) = Marker r

pub left_item : (floor : Floor) (item : Item) → IsItemLeft floor item
    → cut_item floor item ≡ Some (kept_item floor item)
left_item floor (Message m) left = ap (λ b. cond b (Some (Message (cut_name floor m))) None) left
left_item floor (Marker r) left =
    ap (λ b. cond b (Some (Marker r)) None) (lt-ltb floor.round r left)

pub picked_cut : (floor : Floor) (items : List Item) (pick : ℕ) → All (IsItemLeft floor) items
    → IsCutOf floor (slice_get (filter_map (cut_item floor) items) pick) (slice_get items pick)
picked_cut floor [] pick all = tt
picked_cut floor (item ∷ items) zero all =
    let head : IsItemLeft floor item = All-head (IsItemLeft floor) item items all in
    let l = left_item floor item head in
    subst (λ (o : Option Item). IsCutOf floor (slice_get
    (cons_option o (filter_map (cut_item floor) items)) zero) (Some item)) (sym l) (l, head)
picked_cut floor (item ∷ items) (suc n) all =
    let l = left_item floor item (All-head (IsItemLeft floor) item items all) in
    subst (λ (o : Option Item). IsCutOf floor
    (slice_get (cons_option o (filter_map (cut_item floor) items)) (suc n)) (slice_get items n))
    (sym l) (picked_cut floor items n (All-tail (IsItemLeft floor) item items all))

pub length_cut : (floor : Floor) (items : List Item) → All (IsItemLeft floor) items
    → length (filter_map (cut_item floor) items) ≡ length items
length_cut floor [] all = refl
length_cut floor (item ∷ items) all =
    let l = left_item floor item (All-head (IsItemLeft floor) item items all) in
    ap (λ (o : Option Item). length (cons_option o (filter_map (cut_item floor) items))) l ∙ ap suc
    (length_cut floor items (All-tail (IsItemLeft floor) item items all))

pub first_is : (items : List Item) (item : Item) → slice_get items 0 ≡ Some item
    → (rest : List Item) × (items ≡ item ∷ rest)
first_is [] item e = absurd (cc)
first_is (x ∷ xs) item e = let same : x ≡ item = cc e in (xs, ap (λ (v : Item). v ∷ xs) same)

pub some_same : (a b : Item) → Some a ≡ Some b → a ≡ b
some_same a b e = cc e

pub none_got : (b : Bool) → cond {A = List Item} b [] [] ≡ []
none_got true = refl
none_got false = refl

pub unforced : (b : Bool) → not b ≡ false → b ≡ true
unforced true e = refl
unforced false e = absurd (cc)

pub forced : (b : Bool) → not b ≡ true → b ≡ false
forced true e = absurd (cc)
forced false e = refl
