-- What a walk over two tapes finds of their link, and a walk over one tape of its rounds.
use Rattle.std.proofs.Common.{◌≡◌, ℕ, zero, suc, ◌+◌, ◌<◌, ◌≤◌, ◌↔◌, Bool, true, false, cond, List}
use Rattle.std.proofs.Common.{[], ◌∷◌, ◌++◌, length, take, drop, get_or, replicate, set, Option}
use Rattle.std.proofs.Common.{Some, None, refl, sym, ap, ◌∙◌, subst, arith, inl, inr}
use Rattle.std.specs.Prelude.{◌==◌, ◌||◌, IsTrue}
use Rattle.std.specs.List.{All, Contains, cons_option, filter_map, slice_get}
use Rattle.std.proofs.Math.Seq.{drop-cons, get_or-append_seam}
use Rattle.std.proofs.lemmas.Bool.{cases_eq, eq-eqb, eqb-true, false_from_ne_true, ne_eqb, or_cases}
use Rattle.std.proofs.lemmas.Bool.{or_left, or_right}
use Rattle.std.proofs.lemmas.List.{drop_all, get_or-append-add, get_or-set_other}
use Rattle.std.proofs.lemmas.List.{get_or_append_left, length-append, length-replicate, length-set}
use Rattle.std.proofs.lemmas.List.{take-append-drop, take_at, take_more}
use Rattle.std.proofs.lemmas.Grind.{get_or-set_at}
use Rattle.line_tape.proofs.ListLemmas.{or-false}
use Rattle.std.proofs.lemmas.List.Elements.{All-cons, All-nil, filter_map-append}
use Rattle.std.proofs.lemmas.List.Folds.{list_any-append}
use Rattle.std.proofs.lemmas.Option.{get_or_from_slice_get, slice_get-get_or, slice_get_within}
use Rattle.line_tape.specs.declared.events.Event.{Event}
use Rattle.line_tape.specs.declared.events.Event.TheVariants.{Send, Recv, Check, Mark}
use Rattle.line_tape.specs.declared.items.Item.{Item}
use Rattle.line_tape.specs.declared.items.Item.TheVariants.{Message, Marker}
use Rattle.line_tape.specs.Event.{sends}
use Rattle.line_tape.specs.Fit.{item_received, items_sent, AreDistinct}
use Rattle.line_tape.specs.Rounds.{checked_round, has_check_of, is_check_of, rounds_checked}
use Rattle.line_tape.proofs.EventLemmas.{name_of}
use Rattle.line_laws.proofs.CompletionLemmas.{contains_round, unchecked}
use Rattle.line_laws.proofs.GrowthLemmas.{has_check_push}
use Rattle.line_laws.proofs.NextLemmas.{check_in, marks_push, rounds_push}
use Rattle.line_moves.specs.Worlds.{IsMessage}
use Rattle.line_world.specs.Deliveries.{AreDelivered, AreRoundsNoted, HasRoundsUpTo, IsNextUpTo}

-- the event after i others comes first in the rest
pub drop_event : (es : List Event) (i : ℕ) (e : Event) → slice_get es i ≡ Some e
    → drop i es ≡ e ∷ drop (i + 1) es
drop_event es i e at =
    let more : suc i ≡ i + 1 = omega arith in
    drop-cons es i e (slice_get_within es i e at)
    ∙ ap (λ (v : Event). v ∷ drop (suc i) es) (get_or_from_slice_get es i e e at)
    ∙ ap (λ (n : ℕ). e ∷ drop n es) more

-- what is received from an event on
pub received_step : (p i : ℕ) (es : List Event) (e : Event) (o : Option Item)
    → slice_get es i ≡ Some e → o ≡ item_received p e
    → filter_map (item_received p) (drop i es)
    ≡ cons_option o (filter_map (item_received p) (drop (i + 1) es))
received_step p i es e o at is =
    ap (filter_map (item_received p)) (drop_event es i e at)
    ∙ ap (λ (v : Option Item). cons_option v (filter_map (item_received p) (drop (i + 1) es)))
    (sym is)

-- past the end nothing is
pub received_past : (p i n : ℕ) (es : List Event) → length es ≤ i → length es ≤ n
    → filter_map (item_received p) (drop i es) ≡ filter_map (item_received p) (drop n es)
received_past p i n es far past =
    ap (filter_map (item_received p)) (drop_all i es far ∙ sym (drop_all n es past))

-- what is sent by an event and those after it
pub sent_split : (p q k : ℕ) (e : Event) (rest : List Event) → items_sent p q k (e ∷ rest)
    ≡ items_sent p q k (e ∷ []) ++ items_sent p q (k + sends (e ∷ [])) rest
sent_split p q k (Send to inc body) rest =
    let more : suc k ≡ k + 1 = omega arith in
    let next : items_sent p q (suc k) rest
    ≡ items_sent p q (k + 1) rest = ap (λ (n : ℕ). items_sent p q n rest) more in
    elim (to == q) as
    (λ b. cond b (Message (name_of p inc k) ∷ items_sent p q (suc k) rest) (items_sent p q
    (suc k) rest) ≡ cond b (Message (name_of p inc k) ∷ []) [] ++ items_sent p q (k + 1) rest) [
      | true ↦ ap (λ (xs : List Item). Message (name_of p inc k) ∷ xs) next
      | false ↦ next
    ]
sent_split p q k (Recv m) rest =
    let same : k ≡ k + 0 = omega arith in ap (λ (n : ℕ). items_sent p q n rest) same
sent_split p q k (Check state None) rest =
    let same : k ≡ k + 0 = omega arith in ap (λ (n : ℕ). items_sent p q n rest) same
sent_split p q k (Check state (Some s)) rest =
    let same : k ≡ k + 0 = omega arith in ap (λ (n : ℕ). Marker s ∷ items_sent p q n rest) same
sent_split p q k (Mark from s) rest =
    let same : k ≡ k + 0 = omega arith in ap (λ (n : ℕ). items_sent p q n rest) same

one_before : (o : Option Item) (xs rest : List Item) → xs ≡ cons_option o []
    → xs ++ rest ≡ cons_option o rest
one_before None xs rest e = ap (λ (v : List Item). v ++ rest) e
one_before (Some item) xs rest e = ap (λ (v : List Item). v ++ rest) e

pub sent_step : (p q k i : ℕ) (es : List Event) (e : Event) (o : Option Item)
    → slice_get es i ≡ Some e → items_sent p q k (e ∷ []) ≡ cons_option o []
    → items_sent p q k (drop i es)
    ≡ cons_option o (items_sent p q (k + sends (e ∷ [])) (drop (i + 1) es))
sent_step p q k i es e o at is =
    ap (items_sent p q k) (drop_event es i e at)
    ∙ sent_split p q k e (drop (i + 1) es)
    ∙ one_before o (items_sent p q k (e ∷ []))
    (items_sent p q (k + sends (e ∷ [])) (drop (i + 1) es)) is

-- one event of the sender more, and what is received of what it puts on the link
pub walk_on : (own : Bool) (p q k n i : ℕ) (sent : List Event) (e : Event) (o : Option Item)
    (old new whole all : List Item) → slice_get sent i ≡ Some e
    → items_sent p q k (e ∷ []) ≡ cons_option o []
    → n ≡ sends (e ∷ []) →
    ((rest : List Item) → AreDelivered own new rest ↔ AreDelivered own old (cons_option o rest))
    → (AreDelivered own old (items_sent p q k (drop i sent)) ↔ AreDelivered own whole all)
    → AreDelivered own new (items_sent p q (k + n) (drop (i + 1) sent)) ↔ AreDelivered own whole all
walk_on own p q k n i sent e o old new whole all at is count step so_far =
    let rest : List Item = items_sent p q (k + sends (e ∷ [])) (drop (i + 1) sent) in
    let here : items_sent p q k (drop i sent)
    ≡ cons_option o rest = sent_step p q k i sent e o at is in
    let later : items_sent p q (k + n) (drop (i + 1) sent)
    ≡ rest = ap (λ (v : ℕ). items_sent p q (k + v) (drop (i + 1) sent)) count in (
      λ are. so_far.0 (subst (AreDelivered own old) (sym here)
          ((step rest).0 (subst (AreDelivered own new) later are))),
      λ are. subst (AreDelivered own new) (sym later)
          ((step rest).1 (subst (AreDelivered own old) here (so_far.1 are))),
    )

-- what stays are messages
stays : (own : Bool) (xs : List Item) → AreDelivered own [] xs → own ≡ false → All IsMessage xs
stays own [] are is = All-nil IsMessage
stays own (x ∷ xs) (may, more) is = All-cons IsMessage x xs (may is) (stays own xs more is)

-- what was received begins what was sent
pub delivered_parts : (own : Bool) (rs ss : List Item) → AreDelivered own rs ss
    → (zs : List Item) × (ss ≡ rs ++ zs) × (own ≡ false → All IsMessage zs)
delivered_parts own [] [] are = ([], refl, λ is. All-nil IsMessage)
delivered_parts own [] (s ∷ ss) are = (s ∷ ss, refl, λ is. stays own (s ∷ ss) are is)
delivered_parts own (r ∷ rs) [] are = absurd are
delivered_parts own (r ∷ rs) (s ∷ ss) (same, more) =
    let ih = delivered_parts own rs ss more in
    (ih.0, ap (λ (v : Item). v ∷ ss) (sym same) ∙ ap (λ (v : List Item). r ∷ v) ih.1, ih.2)

pub delivered_from : (own : Bool) (rs zs : List Item) → (own ≡ false → All IsMessage zs)
    → AreDelivered own rs (rs ++ zs)
delivered_from own [] [] all = tt
delivered_from own [] (z ∷ zs) all = (
  λ is. all is 0 z (omega arith),
  delivered_from own [] zs
      (λ is k d within. all is (suc k) d (omega arith)),
)
delivered_from own (r ∷ rs) zs all = (refl, delivered_from own rs zs all)

-- nothing is noted of no events
pub noted_none : (last : ℕ) (flags : List Bool) → flags ≡ replicate (last + 1) false
    → AreRoundsNoted last [] flags
noted_none last flags is = record {
  count = ap (λ (v : List Bool). length v) is ∙ length-replicate (last + 1) false;
  each = λ r. ap (λ (v : List Bool). get_or v r false) is ∙ cleared (last + 1) r;
}
  where
    cleared : (n r : ℕ) → get_or (replicate n false) r false ≡ false
    cleared zero r = refl
    cleared (suc n) zero = refl
    cleared (suc n) (suc r) = cleared n r

-- a flag that is set
pub noted_round : (last round : ℕ) (seen : List Event) (state : List ℕ) (old new : List Bool)
    → AreRoundsNoted last seen old → round < length old → new ≡ set old round true
    → AreRoundsNoted last (seen ++ Check state (Some round) ∷ []) new
noted_round last round seen state old new noted within is = record {
  count = ap (λ (v : List Bool). length v) is ∙ length-set old round true ∙ noted.count;
  each = λ r. ap (λ (v : List Bool). get_or v r false) is ∙ found r ∙ sym
      (has_check_push seen (Check state (Some round)) r);
}
  where
    found : (r : ℕ) → get_or (set old round true) r false ≡ (has_check_of r seen || (round == r))
    found r = elim (cases_eq r round) [
      | inl same ↦ get_or-set_at old round r true false same within ∙ sym
          (or_right (has_check_of r seen) (round == r) (eq-eqb round r (sym same)))
      | inr other ↦ get_or-set_other old round r true false other ∙ noted.each r ∙ sym
          (or-false (has_check_of r seen)) ∙ ap (λ b. has_check_of r seen || b)
          (sym (ne_eqb round r (λ e. other (sym e))))
    ]

-- an event that is no check of a round changes no flag
pub noted_same : (last : ℕ) (seen : List Event) (e : Event) (flags : List Bool) → checked_round e
    ≡ None → AreRoundsNoted last seen flags → AreRoundsNoted last (seen ++ e ∷ []) flags
noted_same last seen e flags none noted = record {
  count = noted.count;
  each = λ r. noted.each r ∙ sym (has_check_push seen e r ∙ ap (λ b. has_check_of r seen || b)
      (unchecked e r none) ∙ or-false (has_check_of r seen));
}

-- a marker may come next where its round is noted
pub mark_next : (last from round : ℕ) (seen : List Event) (e : Event) (flags : List Bool) (b : Bool)
    → e ≡ Mark from round → b ≡ get_or flags round false → AreRoundsNoted last seen flags
    → IsTrue b ↔ IsNextUpTo last seen e
mark_next last from round seen e flags b is value noted =
    let same : b ≡ has_check_of round seen = value ∙ noted.each round in
    subst (λ (v : Event). IsTrue b ↔ IsNextUpTo last seen v) (sym is)
    (λ t. sym same ∙ t, λ t. same ∙ t)

-- one event more
pub rounds_from : (last : ℕ) (seen : List Event) (e : Event) → HasRoundsUpTo last seen
    → IsNextUpTo last seen e → HasRoundsUpTo last (seen ++ e ∷ [])
rounds_from last seen e old next = record {
  numbers = λ r has. elim
      (or_cases (has_check_of r seen) (is_check_of r e) (sym (has_check_push seen e r) ∙ has)) [
        | inl before ↦ old.numbers r before
        | inr here ↦ up_to e r next here
      ];
  rounds = rounds_push seen e old.rounds (λ r is. anew e r next is);
  marks = marks_push seen e old.marks (λ from r is. follows e from r next is);
}
  where
    up_to : (v : Event) (r : ℕ) → IsNextUpTo last seen v → is_check_of r v ≡ true → r ≤ last
    up_to (Send to inc body) r n is = absurd (cc)
    up_to (Recv m) r n is = absurd (cc)
    up_to (Check state None) r n is = absurd (cc)
    up_to (Check state (Some s)) r n is = let same : s
        ≡ r = eqb-true s r is in let within : s ≤ last = n.0 in omega (arith, same, within)
    up_to (Mark from s) r n is = absurd (cc)

    anew : (v : Event) (r : ℕ) → IsNextUpTo last seen v → checked_round v ≡ Some r
        → has_check_of r seen ≡ false
    anew (Send to inc body) r n is = absurd (cc)
    anew (Recv m) r n is = absurd (cc)
    anew (Check state None) r n is = absurd (cc)
    anew (Check state (Some s)) r n is =
        let same : s ≡ r = cc in subst (λ (w : ℕ). has_check_of w seen ≡ false) same n.1
    anew (Mark from s) r n is = absurd (cc)

    follows : (v : Event) (from r : ℕ) → IsNextUpTo last seen v → v ≡ Mark from r
        → Contains (rounds_checked seen) r
    follows (Send to inc body) from r n is = absurd (cc)
    follows (Recv m) from r n is = absurd (cc)
    follows (Check state s) from r n is = absurd (cc)
    follows (Mark f s) from r n is = let same : s
        ≡ r = cc in contains_round seen r (subst (λ (w : ℕ). has_check_of w seen ≡ true) same n)

-- of two parts of a list without repetition no element is in both
pub apart_parts : (xs ys : List ℕ) (x : ℕ) → AreDistinct (xs ++ ys) → Contains xs x → Contains ys x
    → ⊥
apart_parts xs ys x apart (i, l, e) (j, k, f) =
    apart i (length xs + j) x (omega arith) (omega (arith, length-append xs ys))
    (get_or_append_left xs ys x i l ∙ e ∙ sym (get_or-append-add xs ys j x ∙ f))

-- what a tape says of one of its events
pub next_from : (last : ℕ) (seen more : List Event) (e : Event)
    → HasRoundsUpTo last (seen ++ e ∷ more) → IsNextUpTo last seen e
next_from last seen more (Send to inc body) is = tt
next_from last seen more (Recv m) is = tt
next_from last seen more (Check state None) is = tt
next_from last seen more (Check state (Some r)) is =
    let e : Event = Check state (Some r) in
    let whole : rounds_checked (seen ++ e ∷ more) ≡ rounds_checked seen
    ++ r ∷ rounds_checked more = filter_map-append checked_round seen (e ∷ more) in
    let here : has_check_of r (e ∷ more)
    ≡ true = or_left (r == r) (has_check_of r more) (eq-eqb r r refl) in (
      is.numbers r (list_any-append (is_check_of r) seen (e ∷ more) ∙ or_right (has_check_of r seen)
          (has_check_of r (e ∷ more)) here),
      false_from_ne_true (has_check_of r seen) (λ t.
          apart_parts (rounds_checked seen) (r ∷ rounds_checked more) r (subst (λ (rs : List ℕ).
          AreDistinct rs) whole is.rounds) (contains_round seen r t) (0, omega arith, refl)),
    )
next_from last seen more (Mark from r) is =
    let n : ℕ = length seen in
    let tape : List Event = seen ++ Mark from r ∷ more in
    let at : slice_get tape n ≡ Some (Mark from r) =
    slice_get-get_or tape n (Mark from r) (omega (arith, length-append seen (Mark from r ∷ more))) ∙
    ap (λ (v : Event). Some v) (get_or-append_seam seen (Mark from r) more (Mark from r)) in
    check_in r seen (subst (λ (es : List Event). Contains (rounds_checked es) r)
    (take_at seen (Mark from r ∷ more) n refl) (is.marks n from r at))

-- so of any of its events
pub next_at : (last i : ℕ) (tape : List Event) (e : Event) → slice_get tape i ≡ Some e
    → HasRoundsUpTo last tape → IsNextUpTo last (take i tape) e
next_at last i tape e at is =
    next_from last (take i tape) (drop (i + 1) tape) e
    (subst (HasRoundsUpTo last) (sym (ap (λ (v : List Event). take i tape ++ v)
    (sym (drop_event tape i e at)) ∙ take-append-drop i tape)) is)

-- the events looked at grow by one
pub take_event : (es : List Event) (i : ℕ) (e : Event) → slice_get es i ≡ Some e
    → take (i + 1) es ≡ take i es ++ e ∷ []
take_event es i e at =
    take_more es i e (slice_get_within es i e at)
    ∙ ap (λ (v : Event). take i es ++ v ∷ []) (get_or_from_slice_get es i e e at)

-- no rounds
pub rounds_none : (last : ℕ) → HasRoundsUpTo last []
rounds_none last = record {
  numbers = λ r has. absurd (cc has);
  rounds = λ i j d l k. absurd (omega (arith, k));
  marks = λ i from r at. absurd (cc at);
}
