-- Rows of ends, dealt out one by one.
use Rattle.std.proofs.Common.{◌≡◌, ◌∙◌, ◌<◌, ◌≤◌, ◌+◌, ◌++◌, ◌∷◌, [], ℕ, zero, suc, List, Option}
use Rattle.std.proofs.Common.{Some, None, map, set, get_or, replicate, length, refl, sym, ap, inl}
use Rattle.std.proofs.Common.{inr, arith}
use Rattle.std.specs.Prelude.{slice_get}
use Rattle.std.proofs.lemmas.Bool.{cases_lt, cases_order}
use Rattle.std.proofs.lemmas.List.{length_push, get_or_push, get_or_append_left, get_or_past}
use Rattle.std.proofs.lemmas.List.{length-replicate, map-set, length-append}
use Rattle.std.proofs.lemmas.Option.{slice_get_past}
use Rattle.line_posts.specs.Ends.{End, row_at, rows_with_items, items_at, AreFresh, AreLinked}

-- one more item dealt
pub dealt_more : {X : Type 0} (rows : List (List X)) (xs : List X) (x : X) → length xs < length rows
    → rows_with_items rows (xs ++ x ∷ []) ≡ set (rows_with_items rows xs) (length xs)
    (get_or (rows_with_items rows xs) (length xs) [] ++ x ∷ [])
dealt_more [] [] x lt = absurd (omega (arith, lt))
dealt_more [] (y ∷ ys) x lt = absurd (omega (arith, lt))
dealt_more (row ∷ rows) [] x lt = refl
dealt_more (row ∷ rows) (y ∷ ys) x lt =
    ap (λ t. (row ++ y ∷ []) ∷ t) (dealt_more rows ys x (omega (arith, lt)))

pub dealt_length : {X : Type 0} (rows : List (List X)) (xs : List X)
    → length (rows_with_items rows xs) ≡ length rows
dealt_length rows [] = refl
dealt_length [] (x ∷ xs) = refl
dealt_length (row ∷ rows) (x ∷ xs) = ap suc (dealt_length rows xs)

tail_of : {X : Type 0} → Option X → List X
tail_of None = []
tail_of (Some x) = x ∷ []

-- each row has what was dealt to it
dealt_row : {X : Type 0} (rows : List (List X)) (xs : List X) (q : ℕ) → length xs ≡ length rows
    → row_at (rows_with_items rows xs) q ≡ row_at rows q ++ tail_of (slice_get xs q)
unfolding tail_of
dealt_row [] [] q e = refl
dealt_row (row ∷ rows) [] q e = absurd (omega (arith, e))
dealt_row [] (x ∷ xs) q e = absurd (omega (arith, e))
dealt_row (row ∷ rows) (x ∷ xs) zero e = refl
dealt_row (row ∷ rows) (x ∷ xs) (suc q) e = dealt_row rows xs q (omega (arith, e))

dealt_count : {X : Type 0} (rows : List (List X)) (xs : List X) (q : ℕ) → length xs ≡ length rows
    → q < length rows → length (row_at (rows_with_items rows xs) q) ≡ length (row_at rows q) + 1
dealt_count [] xs q e lt = absurd (omega (arith, lt))
dealt_count (row ∷ rows) [] q e lt = absurd (omega (arith, e))
dealt_count (row ∷ rows) (x ∷ xs) zero e lt = length_push row x
dealt_count (row ∷ rows) (x ∷ xs) (suc q) e lt =
    dealt_count rows xs q (omega (arith, e)) (omega (arith, lt))

get_below : {X : Type 0} (xs ys : List X) (i : ℕ) → i < length xs
    → slice_get (xs ++ ys) i ≡ slice_get xs i
get_below [] ys i lt = absurd (omega (arith, lt))
get_below (x ∷ xs) ys zero lt = refl
get_below (x ∷ xs) ys (suc i) lt = get_below xs ys i (omega (arith, lt))

get_at : {X : Type 0} (xs : List X) (o : Option X) (i : ℕ) → length xs ≡ i
    → slice_get (xs ++ tail_of o) i ≡ o
unfolding tail_of
get_at [] None i e = refl
get_at [] (Some x) zero e = refl
get_at [] (Some x) (suc i) e = absurd (omega (arith, e))
get_at (x ∷ xs) o zero e = absurd (omega (arith, e))
get_at (x ∷ xs) o (suc i) e = get_at xs o i (omega (arith, e))

tail_short : {X : Type 0} (o : Option X) → length (tail_of o) ≤ 1
unfolding tail_of
tail_short None = omega arith
tail_short (Some x) = omega arith

tail_none : {X : Type 0} (o : Option X) → o ≡ None → tail_of o ≡ []
unfolding tail_of
tail_none None e = refl
tail_none (Some x) e = cc e

-- the rings of one more sender
linked_more : {X : Type 0} (rows cols : List (List X)) (row : List X)
    → ((p q : ℕ) → slice_get (row_at rows p) q ≡ slice_get (row_at cols q) p)
    → ((q : ℕ) → q < length cols → length (row_at cols q) ≡ length rows) → length row ≡ length cols
    → (p q : ℕ) → slice_get (row_at (rows ++ row ∷ []) p) q
    ≡ slice_get (row_at (rows_with_items cols row) q) p
linked_more rows cols row linked full long p q =
    let o = slice_get row q in
    let dealt_to : row_at (rows_with_items cols row) q
    ≡ row_at cols q ++ tail_of o = dealt_row cols row q long in
    let to : slice_get (row_at cols q ++ tail_of o) p ≡ slice_get
    (row_at (rows_with_items cols row) q) p = ap (λ t. slice_get t p) (sym dealt_to) in
    elim (cases_lt q (length cols)) [
      | inl within ↦ elim (cases_order p (length rows)) [
        | inl here ↦ ap (λ t. slice_get t q) (get_or_push rows row [] p (sym here)) ∙
            (sym (get_at (row_at cols q) o p (full q within ∙ sym here)) ∙ to)
        | inr (inl below) ↦
            let e = full q within in
            ap (λ t. slice_get t q) (get_or_append_left rows (row ∷ []) [] p below) ∙ (linked p q ∙
            (sym (get_below (row_at cols q) (tail_of o) p (omega (arith, e, below))) ∙ to))
        | inr (inr above) ↦
            let e = full q within in
            let s = tail_short o in
            let l = length-append (row_at cols q) (tail_of o) in
            ap (λ t. slice_get t q)
            (get_or_past (rows ++ row ∷ []) p [] (omega (arith, above, length_push rows row)))
            ∙ (sym (slice_get_past (row_at cols q ++ tail_of o) p (omega (arith, e, above, s, l))) ∙
            to)
      ]
      | inr past ↦
          let none : o ≡ None = slice_get_past row q (omega (arith, past, long)) in
          let bare : row_at cols q ++ tail_of o
          ≡ [] = ap (λ t. t ++ tail_of o) (get_or_past cols q [] past) ∙ tail_none o none in
          let empty : slice_get (row_at cols q ++ tail_of o) p
          ≡ None = ap (λ t. slice_get t p) bare in
          elim (cases_order p (length rows)) [
            | inl here ↦ ap (λ t. slice_get t q) (get_or_push rows row [] p (sym here)) ∙
                (none ∙ (sym empty ∙ to))
            | inr (inl below) ↦ ap (λ t. slice_get t q)
                (get_or_append_left rows (row ∷ []) [] p below) ∙ (linked p q ∙
                (ap (λ t. slice_get t p) (get_or_past cols q [] past) ∙ (sym empty ∙ to)))
            | inr (inr above) ↦ ap (λ t. slice_get t q) (get_or_past (rows ++ row ∷ []) p []
                (omega (arith, above, length_push rows row))) ∙ (sym empty ∙ to)
          ]
    ]

row_push : {X : Type 0} (P : List X → Type 0) (rows : List (List X)) (row : List X) (m p : ℕ)
    → length rows ≡ m → P row → ((i : ℕ) → i < m → P (row_at rows i)) → p < m + 1
    → P (row_at (rows ++ row ∷ []) p)
row_push P rows row m p count here below lt = elim (cases_lt p m) [
  | inl less ↦ rw (get_or_append_left rows (row ∷ []) [] p (omega (arith, less, count)))
      (below p less)
  | inr ge ↦ rw (get_or_push rows row [] p (omega (arith, ge, lt, count))) here
]

fresh_push : {T : Type 0} (rows : List (List (End T))) (row : List (End T)) (p : ℕ) → AreFresh row
    → ((i : ℕ) → AreFresh (row_at rows i)) → AreFresh (row_at (rows ++ row ∷ []) p)
fresh_push rows row p here all q = elim (cases_order p (length rows)) [
  | inl e ↦ ap (λ t. items_at t q) (get_or_push rows row [] p (sym e)) ∙ here q
  | inr (inl below) ↦ ap (λ t. items_at t q)
      (get_or_append_left rows (row ∷ []) [] p below) ∙ all p q
  | inr (inr above) ↦ ap (λ t. items_at t q)
      (get_or_past (rows ++ row ∷ []) p [] (omega (arith, above, length_push rows row)))
]

pub linked_step : {T : Type 0} (m n : ℕ) (outs ins : List (List (End T))) (row : List (End T))
    → AreLinked m n outs ins → length row ≡ n → AreFresh row
    → AreLinked (m + 1) n (outs ++ row ∷ []) (rows_with_items ins row)
linked_step m n outs ins row h long fresh = record {
  senders = length_push outs row ∙ ap (λ t. t + 1) h.senders;
  receivers = dealt_length ins row ∙ h.receivers;
  out_count = λ p lt. row_push (λ t. length t ≡ n) outs row m p h.senders long h.out_count lt;
  in_count = λ q lt. (let r = h.receivers in dealt_count ins row q (long ∙ sym r)
      (omega (arith, lt, r)) ∙ ap (λ t. t + 1) (h.in_count q lt));
  linked = linked_more outs ins row h.linked (λ q lt. (let r = h.receivers in let s = h.senders in
      h.in_count q (omega (arith, lt, r)) ∙ sym s)) (long ∙ sym h.receivers);
  fresh = λ p. fresh_push outs row p fresh h.fresh;
}

none_replicated : {X : Type 0} (n q : ℕ) → row_at {X = X} (replicate n []) q ≡ []
none_replicated zero q = refl
none_replicated (suc n) zero = refl
none_replicated (suc n) (suc q) = none_replicated n q

pub linked_start : {T : Type 0} (n : ℕ) → AreLinked {T = T} 0 n [] (replicate n [])
linked_start n = record {
  senders = refl;
  receivers = length-replicate n [];
  out_count = λ p lt. absurd (omega (arith, lt));
  in_count = λ q lt. ap length (none_replicated n q);
  linked = λ p q. ap (λ t. slice_get t p) (sym (none_replicated n q));
  fresh = λ p q. refl;
}

pub row_seen : {X Y : Type 0} (f : X → List Y) (xs : List X) (i : ℕ) (d : X) → i < length xs
    → row_at (map f xs) i ≡ f (get_or xs i d)
row_seen f [] i d lt = absurd (omega (arith, lt))
row_seen f (x ∷ xs) zero d lt = refl
row_seen f (x ∷ xs) (suc i) d lt = row_seen f xs i d (omega (arith, lt))

-- one ring more: its end that pops goes to the column at q
pub deal_step : {X Y : Type 0} (f : X → List Y) (ins : List X) (rows : List (List Y))
    (xs ys : List Y) (q : ℕ) (col new : X) (e : Y)
    → q < length ins → length rows ≡ length ins → length xs ≡ q → map f ins ≡ rows_with_items rows
    xs → col ≡ get_or ins q col → f new ≡ f col ++ e ∷ [] → ys ≡ xs ++ e ∷ []
    → map f (set ins q new) ≡ rows_with_items rows ys
deal_step f ins rows xs ys q col new e lt same at is here put more =
    let there : row_at (rows_with_items rows xs) q
    ≡ f col = ap (λ t. row_at t q) (sym is) ∙ (row_seen f ins q col lt ∙ ap f (sym here)) in
    let D = rows_with_items rows xs in
    map-set f ins q new ∙ (ap (λ t. set t q (f new)) is ∙
    (ap (λ t. set D q t) (put ∙ ap (λ t. t ++ e ∷ []) (sym there))
    ∙ (ap (λ k. set D k (row_at D k ++ e ∷ [])) (sym at) ∙ (sym (dealt_more rows xs e
    (omega (arith, lt, same, at))) ∙ ap (λ t. rows_with_items rows t) (sym more)))))

pub fresh_more : {T : Type 0} (xs ys : List (End T)) (e : End T) → ys ≡ xs ++ e ∷ [] → e.items ≡ []
    → AreFresh xs → AreFresh ys
fresh_more [] ys e is bare h zero = ap (λ t. items_at t 0) is ∙ bare
fresh_more [] ys e is bare h (suc q) = ap (λ t. items_at t (suc q)) is
fresh_more (x ∷ xs) ys e is bare h zero = ap (λ t. items_at t 0) is ∙ h 0
fresh_more (x ∷ xs) ys e is bare h (suc q) =
    ap (λ t. items_at t (suc q)) is ∙ fresh_more xs (xs ++ e ∷ []) e refl bare (λ k. h (suc k)) q

pub linked_moved : {T : Type 0} (m n : ℕ) (outs outs' ins ins' : List (List (End T))) → outs ≡ outs'
    → ins ≡ ins' → AreLinked m n outs ins → AreLinked m n outs' ins'
linked_moved m n outs outs' ins ins' eo ei h = rw (← eo, ← ei) h
