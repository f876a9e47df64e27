-- Several reports at once.
use Rattle.std.proofs.Common.{zero, suc, add-one, ◌≡◌, ◌∙◌, ◌+◌, ◌<◌, ◌≤◌, ◌++◌, ◌∷◌, [], ℕ, List}
use Rattle.std.proofs.Common.{Some, length, take, drop, refl, sym, ap, arith}
use Rattle.std.specs.Prelude.{slice_get}
use Rattle.std.specs.List.{filter_map}
use Rattle.std.proofs.lemmas.List.{append_assoc, append_cancel_left, append-nil, length-append}
use Rattle.std.proofs.lemmas.List.{length-drop, length-take-le}
use Rattle.std.proofs.lemmas.List.Elements.{filter_map-append}
use Rattle.line_tape.specs.Event.{state_of}
use Rattle.line_tape.specs.declared.events.Event.{Event}
use Rattle.line_posts.specs.Ends.{End, with_items}
use Rattle.line_posts.specs.Posts.{opening_tape, reported_count, IsPost, PostView}

pub at_drop : {X : Type 0} (xs : List X) (from i j : ℕ) (e : X) → j ≡ from + i
    → slice_get xs j ≡ Some e → slice_get (drop from xs) i ≡ Some e
at_drop [] zero i j e is at = cc at
at_drop [] (suc from) i j e is at = cc at
at_drop (x ∷ xs) zero i j e is at =
    (let s : i ≡ j = omega (arith, is) in ap (slice_get (x ∷ xs)) s ∙ at)
at_drop (x ∷ xs) (suc from) i zero e is at = absurd (omega (arith, is))
at_drop (x ∷ xs) (suc from) i (suc j) e is at = at_drop xs from i j e (omega (arith, is)) at

take_more : {X : Type 0} (xs : List X) (i : ℕ) (e : X) → slice_get xs i ≡ Some e
    → take (suc i) xs ≡ take i xs ++ e ∷ []
take_more [] i e h = cc h
take_more (x ∷ xs) zero e h = cc h
take_more (x ∷ xs) (suc i) e h = ap (λ (t : List _). x ∷ t) (take_more xs i e h)

-- one copy more
pub copied_more : {X : Type 0} (xs done new : List X) (from i : ℕ) (e : X)
    → done ≡ take i (drop from xs) → slice_get xs (from + i) ≡ Some e → new ≡ done ++ e ∷ []
    → new ≡ take (i + 1) (drop from xs)
copied_more xs done new from i e is at more =
    let there : slice_get (drop from xs) i ≡ Some e = at_drop xs from i (from + i) e refl at in
    more ∙ (ap (λ t. t ++ e ∷ []) is ∙ (sym (take_more (drop from xs) i e there) ∙ ap
    (λ v. take v (drop from xs)) (sym (add-one i))))

-- a report line after none, and after one item more
pub with_none : {T : Type 0} (e : End T) → e ≡ with_items e []
with_none e = ap (λ (v : List _). let x : End _ = record { ring = e.ring; items = v } in x)
    (sym (append-nil e.items))

pub with_more : {T : Type 0} (a b c : End T) (items items' : List T) (x : T)
    → b ≡ with_items a items → c ≡ record b { items = b.items ++ x ∷ [] } → items' ≡ items ++ x ∷ []
    → c ≡ with_items a items'
with_more a b c items items' x eb ec ei = rw (ec, eb, ei) (ap (λ (v : List _). let e : End _ =
    record { ring = a.ring; items = v } in e) (append_assoc a.items items (x ∷ [])))

-- the next of the first k
pub next_of : {X : Type 0} (xs : List X) (i k : ℕ) (e : X) → i < k → slice_get xs i ≡ Some e
    → drop i (take k xs) ≡ e ∷ drop (i + 1) (take k xs)
next_of xs i k e lt at = rw (add-one i) (go xs i k e lt at)
  where
    go : {X : Type 0} (xs : List X) (i k : ℕ) (e : X) → i < k → slice_get xs i ≡ Some e
        → drop i (take k xs) ≡ e ∷ drop (suc i) (take k xs)
    go xs i zero e lt at = absurd (omega (arith, lt))
    go [] i (suc k) e lt at = cc at
    go (x ∷ xs) zero (suc k) e lt at = ap (λ t. t ∷ take k xs) (cc at)
    go (x ∷ xs) (suc i) (suc k) e lt at = go xs i k e (omega (arith, lt)) at

-- the states that events store, one event more or less
pub states_more : (events events' : List Event) (e : Event) (states states' : List (List ℕ))
    → states ≡ filter_map state_of events → states' ≡ states ++ filter_map state_of (e ∷ [])
    → events' ≡ events ++ e ∷ [] → states' ≡ filter_map state_of events'
states_more events events' e states states' is more next = more ∙
    (ap (λ t. t ++ filter_map state_of (e ∷ [])) is ∙
    (sym (filter_map-append state_of events (e ∷ [])) ∙ ap (filter_map state_of) (sym next)))

pub states_first : (events rest : List Event) (e : Event) (states : List (List ℕ))
    → states ≡ filter_map state_of events → events ≡ e ∷ rest
    → states ≡ filter_map state_of (e ∷ []) ++ filter_map state_of rest
states_first events rest e states is first =
    is ∙ (ap (filter_map state_of) first ∙ filter_map-append state_of (e ∷ []) rest)

pub states_left : (events rest : List Event) (e : Event) (states states' : List (List ℕ))
    → states ≡ filter_map state_of events → events ≡ e ∷ rest
    → states ≡ filter_map state_of (e ∷ []) ++ states' → states' ≡ filter_map state_of rest
states_left events rest e states states' is first took = append_cancel_left
    (filter_map state_of (e ∷ [])) states' (filter_map state_of rest)
    (sym took ∙ states_first events rest e states is first)

take-drop : {X : Type 0} (k : ℕ) (xs : List X) → take k xs ++ drop k xs ≡ xs
take-drop zero [] = refl
take-drop zero (x ∷ xs) = refl
take-drop (suc k) [] = refl
take-drop (suc k) (x ∷ xs) = ap (λ t. x ∷ t) (take-drop k xs)

drop_front : {X : Type 0} (xs rest : List X) (n : ℕ) → n ≡ length xs → drop n (xs ++ rest) ≡ rest
drop_front [] rest zero e = refl
drop_front [] rest (suc n) e = absurd (omega (arith, e))
drop_front (x ∷ xs) rest zero e = absurd (omega (arith, e))
drop_front (x ∷ xs) rest (suc n) e = drop_front xs rest n (omega (arith, e))

-- no more is reported than there is
pub reported_within : (post : PostView) → IsPost post → reported_count post ≤ length post.tape
reported_within post h =
    let (rest, joins) = h.reports in
    let is = sym joins in
    let a = ap length is in
    let b = length-append (opening_tape post ++ post.line.items) rest in
    let d = length-append (opening_tape post) post.line.items in
    omega (arith, a, b, d)

pub reported_more : (post : PostView) (k : ℕ) → IsPost post → reported_count post + k ≤ length
    post.tape → length (take k (drop (reported_count post) post.tape)) ≡ k
reported_more post k h le = (let l = length-drop (reported_count post) post.tape in length-take-le k
    (drop (reported_count post) post.tape) (omega (arith, l, le)))

pub report_all : (post : PostView) (k : ℕ) (line : End Event) → IsPost post → line ≡ with_items
    post.line (take k (drop (reported_count post) post.tape)) → IsPost (record post { line = line })
report_all post k line h el =
    let O = opening_tape post in
    let L = post.line.items in
    let (rest, joins) = h.reports in
    let is = sym joins in
    let long : reported_count post ≡ length (O ++ L) = sym (length-append O L) in
    let new = take k (drop (reported_count post) post.tape) in
    let left : drop (reported_count post) post.tape ≡ rest = ap
    (drop (reported_count post)) is ∙ drop_front (O ++ L) rest (reported_count post) long in
    let split : rest ≡ new
    ++ drop k rest = sym (take-drop k rest) ∙ ap (λ t. take k t ++ drop k rest) (sym left) in
    rw el (record {
      within = h.within;
      out_count = h.out_count;
      in_count = h.in_count;
      kept_count = h.kept_count;
      named = h.named;
      reports = (
        drop k rest,
        sym (is ∙ (ap (λ t. (O ++ L) ++ t) split ∙ (sym (append_assoc
            (O ++ L) new (drop k rest)) ∙ ap (λ t. t ++ drop k rest) (append_assoc O L new)))),
      );
      sends_are = h.sends_are;
      receipts_are = h.receipts_are;
      replays = h.replays;
      alone = h.alone;
      present = h.present;
      rounds = h.rounds;
      marks = h.marks;
    })
