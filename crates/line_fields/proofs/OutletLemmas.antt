-- The text of a record, field by field.
use Rattle.std.proofs.Common.{◌≡◌, ◌<◌, ◌≤◌, ◌+◌, ◌++◌, ◌∷◌, ◌∙◌, ℕ, List, [], length, map, take}
use Rattle.std.proofs.Common.{drop, get_or, refl, ap, sym, append_assoc, arith}
use Rattle.std.specs.Prelude.{decimal}
use Rattle.std.specs.List.{flat_map, join_with_byte, range_with_len}
use Rattle.std.proofs.lemmas.Grind.{flat_map-append}
use Rattle.std.proofs.lemmas.List.{append-nil, drop_all, drop_more, take_all}
use Rattle.std.proofs.lemmas.List.FromFn.{get_or-range_with_len, length-range_with_len}
use Rattle.line_fields.specs.Records.{Record}
use Rattle.line_fields.specs.Texts.{hex_pair, hex_text, record_text, records_text}

-- fields behind a first one, each behind a comma
pub join_more : {A : Type 0} (f : A → List ℕ) (name : List ℕ) (items : List A)
    → join_with_byte 44 (name ∷ map f items) ≡ name ++ flat_map (λ (x : A). 44 ∷ f x) items
join_more {A} f name [] = sym (append-nil name)
join_more {A} f name (x ∷ items) =
    ap (λ (t : List ℕ). name ++ (44 ∷ t)) (join_more f (f x) items)

-- the same before an end
pub join_ends : {A : Type 0} (f : A → List ℕ) (name : List ℕ) (items : List A) (end : List ℕ)
    → join_with_byte 44 (name ∷ map f items) ++ end
    ≡ name ++ (flat_map (λ (x : A). 44 ∷ f x) items ++ end)
join_ends {A} f name items end = ap (λ (t : List ℕ). t ++ end)
    (join_more f name items) ∙ append_assoc name (flat_map (λ (x : A). 44 ∷ f x) items) end

-- what is left of the parts of items, before an end
pub parts_left : {A : Type 0} (f : A → List ℕ) (items : List A) (i : ℕ) (d : A) (end : List ℕ)
    → i < length items
    → flat_map f (drop i items) ++ end
    ≡ f (get_or items i d) ++ (flat_map f (drop (i + 1) items) ++ end)
parts_left {A} f items i d end lt = ap (λ (xs : List A). flat_map f xs ++ end) (drop_more items i d
    lt) ∙ append_assoc (f (get_or items i d)) (flat_map f (drop (i + 1) items)) end

pub end_left : {A : Type 0} (f : A → List ℕ) (items : List A) (i : ℕ) (end : List ℕ)
    → length items ≤ i → flat_map f (drop i items) ++ end ≡ end
end_left {A} f items i end le = ap (λ (xs : List A). flat_map f xs ++ end) (drop_all i items le)

-- a name behind a text, and numbers behind that
pub begun : (held named all name numbers : List ℕ) → named ≡ held ++ name → all ≡ named ++ flat_map
    (λ n. 44 ∷ decimal n) numbers → all ≡ held ++ join_with_byte 44 (name ∷ map decimal numbers)
begun held named all name numbers a b =
    b ∙ ap (λ (t : List ℕ). t ++ flat_map (λ n. 44 ∷ decimal n) numbers) a ∙ append_assoc held name
    (flat_map (λ n. 44 ∷ decimal n) numbers)
    ∙ ap (λ (t : List ℕ). held ++ t) (sym (join_more decimal name numbers))

-- a record that was begun behind a text, and its end
pub ended : (held begun all : List ℕ) (fields : List (List ℕ)) → begun
    ≡ held ++ join_with_byte 44 fields → all ≡ begun ++ 10 ∷ [] → all ≡ held ++ record_text fields
ended held begun all fields a b =
    b ∙ ap (λ (t : List ℕ). t ++ 10 ∷ []) a ∙ append_assoc held (join_with_byte 44 fields) (10 ∷ [])

-- a last field behind others
pub join_last : (name : List ℕ) (fields : List (List ℕ)) (last : List ℕ) → join_with_byte 44
    (name ∷ fields ++ last ∷ []) ≡ join_with_byte 44 (name ∷ fields) ++ 44 ∷ last
join_last name [] last = refl
join_last name (field ∷ fields) last = ap (λ (t : List ℕ). name ++ (44 ∷ t)) (join_last field fields
    last) ∙ sym (append_assoc name (44 ∷ join_with_byte 44 (field ∷ fields)) (44 ∷ last))

-- a record with a last field
pub ending_is : (name : List ℕ) (fields : List (List ℕ)) (last : List ℕ) → record_text
    (name ∷ fields ++ last ∷ []) ≡ join_with_byte 44 (name ∷ fields) ++ ((44 ∷ last) ++ 10 ∷ [])
ending_is name fields last = ap (λ (t : List ℕ). t ++ 10 ∷ []) (join_last name fields last) ∙
    append_assoc (join_with_byte 44 (name ∷ fields)) (44 ∷ last) (10 ∷ [])

-- all items, as far as one past the last
pub all_of : {A : Type 0} (f : A → List ℕ) (items : List A) (i : ℕ) → length items ≤ i
    → flat_map f items ≡ flat_map f (take i items)
all_of {A} f items i le = ap (λ (xs : List A). flat_map f xs) (sym (take_all i items le))

-- the records of items from one on: its own, and those behind it
pub item_left : {A : Type 0} (f : A → Record) (items : List A) (i : ℕ) (item : A) → i < length items
    → item ≡ get_or items i item
    → records_text (map f (drop i items))
    ≡ record_text (f item) ++ records_text (map f (drop (i + 1) items))
item_left {A} f items i item lt is = ap (λ (rest : List A). records_text (map f rest))
    (drop_more items i item lt ∙ ap (λ (x : A). x ∷ drop (i + 1) items) (sym is))

pub no_item_left : {A : Type 0} (f : A → Record) (items : List A) (i : ℕ) → length items ≤ i
    → records_text (map f (drop i items)) ≡ []
no_item_left {A} f items i le = ap (λ (rest : List A). records_text (map f rest))
    (drop_all i items le)

-- the same of items that have several records each
pub next_item : {A : Type 0} (f : A → List Record) (items : List A) (i : ℕ) (item : A)
    → i < length items → item ≡ get_or items i item
    → records_text (flat_map f (drop i items))
    ≡ records_text (f item) ++ records_text (flat_map f (drop (i + 1) items))
next_item {A} f items i item lt is =
    ap (λ (rest : List A). records_text (flat_map f rest))
    (drop_more items i item lt ∙ ap (λ (x : A). x ∷ drop (i + 1) items) (sym is))
    ∙ flat_map-append record_text (f item) (flat_map f (drop (i + 1) items))

pub no_item : {A : Type 0} (f : A → List Record) (items : List A) (i : ℕ) → length items ≤ i
    → records_text (flat_map f (drop i items)) ≡ []
no_item {A} f items i le = ap (λ (rest : List A). records_text (flat_map f rest))
    (drop_all i items le)

-- the same of the first n numbers
pub next_number : (f : ℕ → List Record) (n i : ℕ) → i < n
    → records_text (flat_map f (drop i (range_with_len 0 n)))
    ≡ records_text (f i) ++ records_text (flat_map f (drop (i + 1) (range_with_len 0 n)))
next_number f n i lt =
    let long : length (range_with_len 0 n) ≡ n = length-range_with_len 0 n in
    let there : i < length (range_with_len 0 n) = omega (arith, long, lt) in
    let first : get_or (range_with_len 0 n) i i
    ≡ i = get_or-range_with_len 0 n i i lt ∙ omega arith in
    next_item f (range_with_len 0 n) i i there (sym first)

pub no_number : (f : ℕ → List Record) (n i : ℕ) → n ≤ i
    → records_text (flat_map f (drop i (range_with_len 0 n))) ≡ []
no_number f n i le =
    let long : length (range_with_len 0 n) ≡ n = length-range_with_len 0 n in
    no_item f (range_with_len 0 n) i (omega (arith, long, le))

-- the records of the first n numbers, one each
pub number_left : (f : ℕ → Record) (n i : ℕ) → i < n → records_text (map f (drop i (range_with_len 0
    n))) ≡ record_text (f i) ++ records_text (map f (drop (i + 1) (range_with_len 0 n)))
number_left f n i lt =
    let long : length (range_with_len 0 n) ≡ n = length-range_with_len 0 n in
    let there : i < length (range_with_len 0 n) = omega (arith, long, lt) in
    let first : get_or (range_with_len 0 n) i i
    ≡ i = get_or-range_with_len 0 n i i lt ∙ omega arith in
    item_left f (range_with_len 0 n) i i there (sym first)

pub no_number_left : (f : ℕ → Record) (n i : ℕ) → n ≤ i
    → records_text (map f (drop i (range_with_len 0 n))) ≡ []
no_number_left f n i le =
    let long : length (range_with_len 0 n) ≡ n = length-range_with_len 0 n in
    no_item_left f (range_with_len 0 n) i (omega (arith, long, le))

-- parts of the first n numbers, one each
pub next_part : (f : ℕ → List ℕ) (n i : ℕ) → i < n → flat_map f (drop i (range_with_len 0 n))
    ≡ f i ++ flat_map f (drop (i + 1) (range_with_len 0 n))
next_part f n i lt =
    let all : List ℕ = range_with_len 0 n in
    let long : length all ≡ n = length-range_with_len 0 n in
    let there : i < length all = omega (arith, long, lt) in
    let first : get_or all i i ≡ i = get_or-range_with_len 0 n i i lt ∙ omega arith in
    ap (λ (rest : List ℕ). flat_map f rest)
    (drop_more all i i there ∙ ap (λ (x : ℕ). x ∷ drop (i + 1) all) first)

pub no_part : (f : ℕ → List ℕ) (n i : ℕ) → n ≤ i → flat_map f (drop i (range_with_len 0 n)) ≡ []
no_part f n i le =
    let long : length (range_with_len 0 n) ≡ n = length-range_with_len 0 n in
    ap (λ (rest : List ℕ). flat_map f rest)
    (drop_all i (range_with_len 0 n) (omega (arith, long, le)))

-- a record alone
pub one_text : (fields : Record) → records_text (fields ∷ []) ≡ record_text fields
one_text fields = append-nil (record_text fields)

-- two lists of records
pub both_texts : (ls ps : List Record)
    → records_text (ls ++ ps) ≡ records_text ls ++ records_text ps
both_texts ls ps = flat_map-append record_text ls ps

-- the digits of bytes are those of each
pub digits_of : (bytes : List ℕ) → hex_text bytes ≡ flat_map hex_pair bytes
unfolding hex_text
digits_of bytes = refl
