-- What several puts in a row put, and several fills in a row fill.
use Rattle.std.proofs.Common.{◌≡◌, ℕ, ◌+◌, ◌-◌, List, [], ◌++◌, length, take, drop, Option, Some}
use Rattle.std.proofs.Common.{None, refl, sym, ap, ◌∙◌, subst, append_assoc, arith}
use Rattle.std.proofs.lemmas.List.{append-nil, length-drop, take-append-drop, take_all}
use Rattle.std.proofs.Math.Seq.{take-add}
use Rattle.line_devices.specs.Devices.{Fills, FillsFront, IsDone, Puts, PutsButEnd, PutsFront}

-- a slice from a place on is all that follows that place
pub slice_from : (i : ℕ) (xs : List ℕ) → take (length xs - i) (drop i xs) ≡ drop i xs
slice_from i xs =
    let long = length-drop i xs in take_all (length xs - i) (drop i xs) (omega (arith, long))

-- two puts, one after the other
pub puts_both : (a b c : Option (List ℕ)) (xs ys : List ℕ) → Puts a b xs → Puts b c ys
    → Puts a c (xs ++ ys)
puts_both None b c xs ys h k = tt
puts_both (Some p) None c xs ys h k = absurd h
puts_both (Some p) (Some q) None xs ys h k = absurd k
puts_both (Some p) (Some q) (Some r) xs ys h k =
    k ∙ ap (λ (t : List ℕ). t ++ ys) h ∙ append_assoc p xs ys

-- a front of some bytes, and a front of those after it
pub puts_more : (a b c : Option (List ℕ)) (i n : ℕ) (xs : List ℕ) → Puts a b (take i xs)
    → Puts b c (take n (drop i xs)) → Puts a c (take (i + n) xs)
puts_more a b c i n xs h k =
    rw (take-add i n xs) (puts_both a b c (take i xs) (take n (drop i xs)) h k)

-- some bytes, and a front of what comes after them: the rule by which texts put in turn go out as a
-- front of them all
pub front_then : (a b c : Option (List ℕ)) (pre piece post : List ℕ) → Puts a b pre
    → PutsFront b c piece → PutsFront a c (pre ++ (piece ++ post))
front_then None b c pre piece post h k = tt
front_then (Some p) None c pre piece post h k = absurd h
front_then (Some p) (Some q) None pre piece post h k = absurd k
front_then (Some p) (Some q) (Some r) pre piece post h (front, rest, parts, k) =
    let whole : pre ++ (piece ++ post) ≡ (pre ++ front) ++ (rest ++ post) =
    ap (λ (t : List ℕ). pre ++ (t ++ post)) parts ∙ ap (λ (t : List ℕ). pre ++ t)
    (append_assoc front rest post) ∙ sym (append_assoc pre front (rest ++ post)) in (
      pre ++ front,
      rest
          ++ post,
      whole,
      k ∙ ap (λ (t : List ℕ). t ++ front) h ∙ append_assoc p pre front,
    )

-- a front of some bytes, and a front of all that follows it
pub front_more : (a b c : Option (List ℕ)) (i : ℕ) (xs : List ℕ) → Puts a b (take i xs)
    → PutsFront b c (drop i xs) → PutsFront a c xs
front_more a b c i xs h k =
    let whole : take i xs ++ (drop i xs ++ []) ≡ xs = ap (λ (t : List ℕ). take i xs ++ t)
    (append-nil (drop i xs)) ∙ take-append-drop i xs in
    let P : List ℕ → Type 0 = λ t. PutsFront a c t in
    rw (← whole) (front_then a b c (take i xs) (drop i xs) [] h k)

-- a front of a front
pub front_of_front : (a b : Option (List ℕ)) (bytes rest : List ℕ) → PutsFront a b bytes
    → PutsFront a b (bytes ++ rest)
front_of_front None b bytes rest h = tt
front_of_front (Some xs) b bytes rest h =
    front_then (Some xs) (Some xs) b [] bytes rest (sym (append-nil xs)) h

-- where nothing was put, all is held
pub holds_all : (taken : Option (List ℕ)) (held : List ℕ) → PutsButEnd taken taken held held
holds_all None held = record { front = []; put = tt; parts = refl }
holds_all (Some xs) held = record { front = []; put = sym (append-nil xs); parts = refl }

-- more is held
pub holds_more : (old new : Option (List ℕ)) (held text more : List ℕ)
    → PutsButEnd old new held text → PutsButEnd old new (held ++ more) (text ++ more)
holds_more old new held text more h = record {
  front = h.front;
  put = h.put;
  parts = ap (λ (t : List ℕ). t ++ more) h.parts ∙ append_assoc h.front held more;
}

-- what was held is put
pub holds_none : (old new : Option (List ℕ)) (text : List ℕ) → Puts old new text
    → PutsButEnd old new [] text
holds_none old new text h = record { front = text; put = h; parts = sym (append-nil text) }

-- more was put of what was held
pub puts_of_held : (old mid new : Option (List ℕ)) (held later text : List ℕ)
    → PutsButEnd old mid held text → PutsButEnd mid new later held → PutsButEnd old new later text
puts_of_held old mid new held later text h k = record {
  front = h.front ++ k.front;
  put = puts_both old mid new h.front k.front h.put k.put;
  parts = h.parts ∙ ap (λ (t : List ℕ). h.front ++ t) k.parts ∙ sym
      (append_assoc h.front k.front later);
}

-- a front of what was held was put
pub puts_front_of_held : (old mid new : Option (List ℕ)) (held text : List ℕ)
    → PutsButEnd old mid held text → PutsFront mid new held → PutsFront old new text
puts_front_of_held old mid new held text h put =
    let parts : h.front ++ (held ++ [])
    ≡ text = ap (λ (t : List ℕ). h.front ++ t) (append-nil held) ∙ sym h.parts in
    subst (λ (t : List ℕ). PutsFront old new t) parts
    (front_then old mid new h.front held [] h.put put)

-- what was held was put, and more is held
pub then_held : (old new : Option (List ℕ)) (text more : List ℕ) → Puts old new text
    → PutsButEnd old new more (text ++ more)
then_held old new text more h = record { front = text; put = h; parts = refl }

-- one text behind another
pub then_put : (old mid new : Option (List ℕ)) (held kept later xs ys : List ℕ)
    → PutsButEnd old mid kept (held ++ xs) → PutsButEnd mid new later (kept ++ ys)
    → PutsButEnd old new later (held ++ (xs ++ ys))
then_put old mid new held kept later xs ys h k =
    subst (λ (t : List ℕ). PutsButEnd old new later t) (append_assoc held xs ys)
    (puts_of_held old mid new (kept ++ ys) later ((held ++ xs) ++ ys)
    (holds_more old mid kept (held ++ xs) ys h) k)

-- one text behind another, of which a front was put
pub then_front : (old mid new : Option (List ℕ)) (held kept xs ys : List ℕ) → PutsButEnd old mid
    kept (held ++ xs) → PutsFront mid new (kept ++ ys) → PutsFront old new (held ++ (xs ++ ys))
then_front old mid new held kept xs ys h k =
    subst (λ (t : List ℕ). PutsFront old new t) (append_assoc held xs ys) (puts_front_of_held old
    mid new (kept ++ ys) ((held ++ xs) ++ ys) (holds_more old mid kept (held ++ xs) ys h) k)

-- a front of the first of two texts
pub first_front : (old new : Option (List ℕ)) (held xs ys : List ℕ) → PutsFront old new (held ++ xs)
    → PutsFront old new (held ++ (xs ++ ys))
first_front old new held xs ys h = subst (λ (t : List ℕ). PutsFront old new t)
    (append_assoc held xs ys) (front_of_front old new (held ++ xs) ys h)

-- two fills, one after the other
pub fills_both : (a b c : Option (List ℕ)) (xs ys : List ℕ) → Fills a b xs → Fills b c ys
    → Fills a c (xs ++ ys)
fills_both None b c xs ys h k = tt
fills_both (Some p) None c xs ys h k = absurd h
fills_both (Some p) (Some q) None xs ys h k = absurd k
fills_both (Some p) (Some q) (Some r) xs ys h k =
    h ∙ ap (λ (t : List ℕ). xs ++ t) k ∙ sym (append_assoc xs ys r)

-- bytes that came were in front
pub fills_front : (a b : Option (List ℕ)) (xs : List ℕ) → Fills a b xs → FillsFront a b
fills_front None b xs h = tt
fills_front (Some p) None xs h = absurd h
fills_front (Some p) (Some q) xs h = (xs, h)

-- some bytes, and then perhaps some more
pub fills_then : (a b c : Option (List ℕ)) (xs : List ℕ) → Fills a b xs → FillsFront b c
    → FillsFront a c
fills_then None b c xs h k = tt
fills_then (Some p) None c xs h k = absurd h
fills_then (Some p) (Some q) None xs h k = absurd k
fills_then (Some p) (Some q) (Some r) xs h (bytes, k) =
    (xs ++ bytes, h ∙ ap (λ (t : List ℕ). xs ++ t) k ∙ sym (append_assoc xs bytes r))

-- a fill of no bytes at the end: nothing is left of what was told at first
pub all_read : (a b c : Option (List ℕ)) (text : List ℕ) (n : ℕ) (into xs : List ℕ) → a ≡ Some xs
    → Fills a b text → n ≡ 0 → Fills b c (take n into) → IsDone b → c ≡ Some []
all_read None b c text n into xs told h none k done = cc told
all_read (Some p) None c text n into xs told h none k done = absurd h
all_read (Some p) (Some q) None text n into xs told h none k done = absurd k
all_read (Some p) (Some q) (Some r) text n into xs told h none k done =
    let same : q ≡ r = k ∙ ap (λ (i : ℕ). take i into ++ r) none in
    ap Some (sym same ∙ done)

-- nothing is left: what came is all that was told at first
pub all_told : (a b : Option (List ℕ)) (text xs : List ℕ) → a ≡ Some xs → Fills a b text → IsDone b
    → text ≡ xs
all_told None b text xs told h done = cc told
all_told (Some p) None text xs told h done = absurd h
all_told (Some p) (Some q) text xs told h done =
    let same : p ≡ xs = cc told in
    sym (append-nil text) ∙ ap (λ (t : List ℕ). text ++ t) (sym done) ∙ sym h ∙ same
