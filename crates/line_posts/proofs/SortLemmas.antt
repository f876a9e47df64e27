-- What links hold at a restart, found on the tapes that go on, each read from its end back.
use Rattle.std.proofs.Common.{cond, zero, suc, true, false, ◌≡◌, ◌≢◌, ◌∙◌, ◌+◌, ◌-◌, ◌<◌, ◌≤◌, ◌++◌}
use Rattle.std.proofs.Common.{◌∷◌, [], ℕ, List, Some, None, length, map, get_or, set, take, drop}
use Rattle.std.proofs.Common.{replicate, refl, sym, ap, subst, inl, inr, arith}
use Rattle.std.specs.Prelude.{slice_get, All, ◌==◌}
use Rattle.std.proofs.lemmas.Bool.{cases_eq, cases_lt}
use Rattle.std.proofs.lemmas.List.{length-append, length-drop, length-set, map-set, get_or-set_same}
use Rattle.std.proofs.lemmas.List.{get_or-set_other, get_or_past, take-append-drop}
use Rattle.std.proofs.lemmas.Option.{get_or_from_slice_get, slice_get_within}
use Rattle.line_tape.specs.declared.events.Event.{Event}
use Rattle.line_tape.specs.declared.events.Event.TheVariants.{Send, Recv, Check, Mark}
use Rattle.line_tape.specs.Event.{sends, NamesBelow}
use Rattle.line_tape.specs.Fit.{received_from}
use Rattle.line_tape.specs.History.{Process, tape_at}
use Rattle.line_posts.specs.Ends.{row_at}
use Rattle.line_posts.proofs.RowLemmas.{row_seen}
use Rattle.line_posts.specs.declared.parcels.Packet.{Packet}
use Rattle.line_posts.specs.declared.parcels.Parcel.TheVariants.{Message}
use Rattle.line_posts.specs.Openings.{parcels_left}
use Rattle.line_posts.specs.Parcels.{parcels_of, parcels_sent}
use Rattle.line_posts.specs.Replays.{cell_at, take_last, total, with_cell, AreOfSender, AreSorted}
use Rattle.line_posts.specs.Replays.{AreSquare, IsNoted}
use Rattle.line_posts.proofs.ParcelLemmas.{parcels_append}
use Rattle.line_posts.proofs.ReplayLemmas.{drop_none, sent_to, sent_past}

-- another item in a row
pub cell_same : {X : Type 0} (none : X) (rows : List (List X)) (q p : ℕ) (x : X) → q < length rows
    → p < length (row_at rows q) → cell_at none (with_cell rows q p x) q p ≡ x
cell_same none rows q p x to from = ap (λ r. get_or r p none) (get_or-set_same rows q
    (set (row_at rows q) p x) [] to) ∙ get_or-set_same (row_at rows q) p x none from

pub cell_apart : {X : Type 0} (none : X) (rows : List (List X)) (q p k j : ℕ) (x : X) → k ≢ q
    → cell_at none (with_cell rows q p x) k j ≡ cell_at none rows k j
cell_apart none rows q p k j x ne =
    ap (λ r. get_or r j none) (get_or-set_other rows q k (set (row_at rows q) p x) [] ne)

pub cell_beside : {X : Type 0} (none : X) (rows : List (List X)) (q p k j : ℕ) (x : X)
    → q < length rows → j ≢ p → cell_at none (with_cell rows q p x) k j ≡ cell_at none rows k j
cell_beside none rows q p k j x to ne = elim (cases_eq k q) [
  | inl e ↦
      ap (λ v. cell_at none (with_cell rows q p x) v j) e
      ∙ (ap (λ r. get_or r j none) (get_or-set_same rows q (set (row_at rows q) p x) [] to)
      ∙ (get_or-set_other (row_at rows q) p j x none ne ∙ ap (λ v. cell_at none rows v j) (sym e)))
  | inr apart ↦ cell_apart none rows q p k j x apart
]

pub square_cell : {X : Type 0} (n : ℕ) (rows : List (List X)) (q p : ℕ) (x : X) → q < n
    → AreSquare n rows → AreSquare n (with_cell rows q p x)
square_cell n rows q p x to s = record {
  count = length-set rows q (set (row_at rows q) p x) ∙ s.count;
  each = λ k lt. elim (cases_eq k q) [
    | inl e ↦ (let c = s.count in
        ap (λ v. length (row_at (with_cell rows q p x) v)) e
        ∙ (ap length (get_or-set_same rows q (set (row_at rows q) p x) [] (omega (arith, c, to)))
        ∙ (length-set (row_at rows q) p x ∙ s.each q to)))
    | inr apart ↦ ap length
        (get_or-set_other rows q k (set (row_at rows q) p x) [] apart) ∙ s.each k lt
  ];
}

-- the same of vectors
pub cell_put : {V Y : Type 0} (f : V → List Y) (rows : List V) (q p : ℕ) (old new : V) (x : Y)
    → q < length rows → old ≡ get_or rows q old → f new ≡ set (f old) p x
    → map f (set rows q new) ≡ with_cell (map f rows) q p x
cell_put f rows q p old new x to at put =
    map-set f rows q new ∙ ap (λ t. set (map f rows) q t)
    (put ∙ ap (λ t. set t p x) (sym (row_seen f rows q old to ∙ ap f (sym at))))

-- sums
pub total_less : (xs : List ℕ) (i : ℕ) → i < length xs → 0 < get_or xs i 0
    → total (set xs i (get_or xs i 0 - 1)) + 1 ≡ total xs
total_less [] i lt some = absurd (omega (arith, lt))
total_less (x ∷ xs) zero lt some = omega (arith, some)
total_less (x ∷ xs) (suc i) lt some =
    (let h = total_less xs i (omega (arith, lt)) some in omega (arith, h))

pub total_more : (xs : List ℕ) (i : ℕ) → i < length xs
    → total (set xs i (get_or xs i 0 + 1)) ≡ total xs + 1
total_more [] i lt = absurd (omega (arith, lt))
total_more (x ∷ xs) zero lt = omega arith
total_more (x ∷ xs) (suc i) lt = (let h = total_more xs i (omega (arith, lt)) in omega (arith, h))

pub total_least : (xs : List ℕ) (i : ℕ) → get_or xs i 0 ≤ total xs
total_least [] i = (let z = get_or_past {X = ℕ} [] i 0 (omega arith) in omega (arith, z))
total_least (x ∷ xs) zero = omega arith
total_least (x ∷ xs) (suc i) = (let h = total_least xs i in omega (arith, h))

pub total_none : (n : ℕ) → total (replicate n 0) ≡ 0
total_none zero = refl
total_none (suc n) = (let h = total_none n in omega (arith, h))

-- the last ones of a list
take_none : {X : Type 0} (n : ℕ) → take {A = X} n [] ≡ []
take_none zero = refl
take_none (suc n) = refl

take_one : {X : Type 0} (n : ℕ) (x : X) → 0 < n → take n (x ∷ []) ≡ x ∷ []
take_one zero x lt = absurd (omega (arith, lt))
take_one (suc n) x lt = ap (λ t. x ∷ t) (take_none n)

pub front_more : {X : Type 0} (first rest : List X) (w n : ℕ) → length first ≤ 1
    → n ≡ w - length rest → take n first ++ take_last w rest ≡ take_last w (first ++ rest)
front_more [] rest w n one e = ap (λ t. t ++ take_last w rest) (take_none n)
front_more (x ∷ []) rest w n one e = elim (cases_lt (length rest) w) [
  | inl lt ↦ (
      let a : length rest - w ≡ 0 = omega (arith, lt) in
      let b : suc (length rest) - w ≡ 0 = omega (arith, lt) in
      ap (λ t. t ++ drop (length rest - w) rest) (take_one n x (omega (arith, e, lt))) ∙
      (ap (λ k. x ∷ drop k rest) a ∙ sym (ap (λ k. drop k (x ∷ rest)) b)))
  | inr ge ↦ (
      let z : n ≡ 0 = omega (arith, e, ge) in
      let b : suc (length rest) - w ≡ suc (length rest - w) = omega (arith, ge) in
      ap (λ k. take k (x ∷ []) ++ drop (length rest - w) rest) z ∙ sym
      (ap (λ k. drop k (x ∷ rest)) b))
]
front_more (x ∷ y ∷ first) rest w n one e = absurd (omega (arith, one))

last_behind : {X : Type 0} (xs ys : List X) (w : ℕ) → w ≤ length ys
    → take_last w (xs ++ ys) ≡ take_last w ys
last_behind [] ys w le = refl
last_behind (x ∷ xs) ys w le =
    let l = length-append xs ys in
    let e : suc (length (xs ++ ys)) - w ≡ suc (length (xs ++ ys) - w) = omega (arith, l, le) in
    ap (λ k. drop k (x ∷ xs ++ ys)) e ∙ last_behind xs ys w le

last_dropped : {X : Type 0} (k : ℕ) (xs : List X) → take_last (length (drop k xs)) xs ≡ drop k xs
last_dropped zero xs = (let e : length xs - length xs ≡ 0 = omega arith in ap (λ n. drop n xs) e)
last_dropped (suc k) [] = refl
last_dropped (suc k) (x ∷ xs) =
    let l = length-drop k xs in
    let e : suc (length xs) - length (drop k xs)
    ≡ suc (length xs - length (drop k xs)) = omega (arith, l) in
    ap (λ n. drop n (x ∷ xs)) e ∙ last_dropped k xs

-- a link holds the last ones of the messages that were sent on it
pub left_last : (history : List Process) (p q w : ℕ) (tape : List Event) → tape ≡ tape_at history p
    → w ≡ length (parcels_left history p q)
    → take_last w (parcels_sent q 0 tape) ≡ parcels_left history p q
left_last history p q w tape et ew =
    let all = parcels_sent q 0 (tape_at history p) in
    ap (λ t. take_last w (parcels_sent q 0 t)) et ∙
    (ap (λ n. take_last n all) ew ∙ last_dropped (length (received_from history q p)) all)

-- the queues of other senders stay as they are
pub of_none : (n p : ℕ) (packets : List (List (List Packet))) → AreSquare n packets
    → AreOfSender n p packets packets
of_none n p packets s = record { square = s; same = λ q k ne. refl }

pub of_then : (n p : ℕ) (a b c : List (List (List Packet))) → AreOfSender n p a b
    → AreOfSender n p b c → AreOfSender n p a c
of_then n p a b c h k = record { square = k.square; same = λ q i ne. k.same q i ne ∙ h.same q i ne }

-- reading one that sends a message
noted_put : (p number to inc : ℕ) (body : List ℕ) (counts counts' : List ℕ)
    (packets packets' : List (List (List Packet))) → to < length counts → p < length counts
    → AreSquare (length counts) packets
    → 0 < get_or counts to 0 → counts' ≡ set counts to (get_or counts to 0 - 1)
    → packets' ≡ with_cell packets to p
    (record { inc = inc; number = number; body = body } ∷ cell_at [] packets to p)
    → IsNoted p number (Send to inc body) counts counts' packets packets' 1
noted_put p number to inc body counts counts' packets packets' lt within s some ec ep =
    let c = s.count in
    let r = s.each to lt in
    let packet : Packet = record { inc = inc; number = number; body = body } in
    let more = packet ∷ cell_at [] packets to p in
    rw (ec, ep) (record {
      sender = record {
        square = square_cell (length counts) packets to p more lt s;
        same = λ q k ne. cell_beside [] packets to p q k more (omega (arith, c, lt)) ne;
      };
      count = length-set counts to (get_or counts to 0 - 1);
      sum = total_less counts to lt some;
      still = λ q below. elim (cases_eq q to) [
        | inl e ↦ (
            let x = get_or-set_same counts to (get_or counts to 0 - 1) 0 lt in
            let one = ap length (sent_to to number to inc body refl) in
            subst (λ v. get_or (set counts to (get_or counts to 0 - 1)) v 0
            ≡ get_or counts v 0 - length (parcels_sent v number (Send to inc body ∷ [])))
            (sym e) (omega (arith, x, one)))
        | inr apart ↦ (
            let x = get_or-set_other counts to q (get_or counts to 0 - 1) 0 apart in
            let none = ap length (sent_past q number to inc body (λ h. apart (sym h))) in
            omega (arith, x, none))
      ];
      queued = λ q below. elim (cases_eq q to) [
        | inl e ↦ subst
            (λ v. parcels_of (cell_at [] (with_cell packets to p more) v p)
            ≡ take (get_or counts v 0) (parcels_sent v number (Send to inc body ∷ []))
            ++ parcels_of (cell_at [] packets v p)) (sym e)
            (ap parcels_of
            (cell_same [] packets to p more (omega (arith, c, lt)) (omega (arith, r, within)))
            ∙ sym (ap (λ t. take (get_or counts to 0) t ++ parcels_of (cell_at [] packets to p))
            (sent_to to number to inc body refl)
            ∙ ap (λ t. t ++ parcels_of (cell_at [] packets to p))
            (take_one (get_or counts to 0) (Message packet) some)))
        | inr apart ↦ ap parcels_of (cell_apart [] packets to p q p more apart)
            ∙ sym (ap (λ t. take (get_or counts q 0) t ++ parcels_of (cell_at [] packets q p))
            (sent_past q number to inc body (λ h. apart (sym h))) ∙ ap
            (λ t. t ++ parcels_of (cell_at [] packets q p)) (take_none (get_or counts q 0)))
      ];
    })

pub put_at : (p number q to inc : ℕ) (body : List ℕ) (event : Event) (packet : Packet)
    (counts counts' : List ℕ) (packets packets' : List (List (List Packet))) → event
    ≡ Send to inc body → q ≡ to → packet ≡ record { inc = inc; number = number; body = body }
    → NamesBelow (length counts) event → p < length counts → AreSquare (length counts) packets
    → 0 < get_or counts q 0 → counts' ≡ set counts q (get_or counts q 0 - 1)
    → packets' ≡ with_cell packets q p (packet ∷ cell_at [] packets q p)
    → IsNoted p number event counts counts' packets packets' 1
put_at p number q to inc body event packet counts counts' packets packets' ee eq el named within s
    some ec ep =
    subst (λ (e : Event). IsNoted p number e counts counts' packets packets' 1) (sym ee)
    (noted_put p number to inc body counts counts' packets packets'
    (subst (NamesBelow (length counts)) ee named) within s (subst (λ v. 0 < get_or counts v 0)
    eq some) (subst (λ v. counts' ≡ set counts v (get_or counts v 0 - 1)) eq ec)
    (subst (λ (l : Packet). packets' ≡ with_cell packets to p (l ∷ cell_at [] packets to p)) el
    (subst (λ v. packets' ≡ with_cell packets v p (packet ∷ cell_at [] packets v p)) eq ep)))

-- an event puts one item on a ring at most
one_sent : (q k : ℕ) (event : Event) → length (parcels_sent q k (event ∷ [])) ≤ 1
one_sent q k (Send to inc body) = elim (to == q) as (λ b. length (cond b (Message (record {
  inc =
      inc;
  number = k;
  body = body;
}) ∷ []) []) ≤ 1) [ true ↦ omega arith | false ↦ omega arith ]
one_sent q k (Recv message) = omega arith
one_sent q k (Check state None) = omega arith
one_sent q k (Check state (Some r)) = omega arith
one_sent q k (Mark from r) = omega arith

-- after one event more has been read, the one before these
pub sorted_before : (wanted : List ℕ) (p number before : ℕ) (event : Event) (events : List Event)
    (counts counts' : List ℕ) (packets packets' : List (List (List Packet))) (taken : ℕ)
    → number ≡ before + sends (event ∷ []) → length counts ≡ length wanted
    → AreSorted wanted p number events counts packets → IsNoted p before event counts counts'
    packets packets' taken → AreSorted wanted p before (event ∷ events) counts' packets'
sorted_before wanted p number before event events counts counts' packets packets' taken en long h
    new =
    let step : (q : ℕ) → q < length wanted
    → (get_or counts' q 0 ≡ get_or wanted q 0 - length (parcels_sent q before (event ∷ events)))
    × (parcels_of (cell_at [] packets' q p)
    ≡ take_last (get_or wanted q 0) (parcels_sent q before (event ∷ events))) =
    λ q lt.
    (let first = parcels_sent q before (event ∷ []) in
    let rest = parcels_sent q number events in
    let all : parcels_sent q before (event ∷ events) ≡ first ++ rest = parcels_append q before
    (event ∷ []) events ∙ ap (λ n. first ++ parcels_sent q n events) (sym en) in
    let both = ap length all ∙ length-append first rest in
    let within : q < length counts = omega (arith, lt, long) in
    let a = new.still q within in
    let b = h.still q lt in (
      omega (arith, a, b, both),
      new.queued q within ∙
          (ap (λ t. take (get_or counts q 0) first ++ t) (h.queued q lt) ∙
          (front_more first rest (get_or wanted q 0) (get_or counts q 0)
          (one_sent q before event) b ∙ sym (ap (take_last (get_or wanted q 0)) all))),
    )) in
    record { still = λ q lt. (step q lt).0; queued = λ q lt. (step q lt).1 }

-- before any event has been read
pub sorted_start : (wanted : List ℕ) (p number : ℕ) (events : List Event)
    (packets : List (List (List Packet))) → events ≡ [] → ((q : ℕ) → q < length wanted
    → cell_at [] packets q p ≡ []) → AreSorted wanted p number events wanted packets
sorted_start wanted p number events packets e none = rw e (record {
  still = λ q lt. omega arith;
  queued = λ q lt. ap parcels_of (none q lt) ∙ sym (drop_none (0 - get_or wanted q 0));
})

-- the queues hold all that was looked for, once no count is left, or all of the tape has been read
pub sorted_done : (wanted : List ℕ) (p i : ℕ) (tape : List Event) (counts : List ℕ)
    (packets : List (List (List Packet)))
    → AreSorted wanted p (sends (take i tape)) (drop i tape) counts packets → total counts ≡ 0
    → (q : ℕ) → q < length wanted → parcels_of (cell_at [] packets q p)
    ≡ take_last (get_or wanted q 0) (parcels_sent q 0 tape)
sorted_done wanted p i tape counts packets h none q lt =
    let first = parcels_sent q 0 (take i tape) in
    let rest = parcels_sent q (sends (take i tape)) (drop i tape) in
    let zero_on : 0 + sends (take i tape) ≡ sends (take i tape) = omega arith in
    let all : parcels_sent q 0 tape
    ≡ first ++ rest = ap (parcels_sent q 0) (sym (take-append-drop i tape)) ∙
    (parcels_append q 0 (take i tape) (drop i tape) ∙ ap
    (λ n. first ++ parcels_sent q n (drop i tape)) zero_on) in
    let a = h.still q lt in
    let b = total_least counts q in
    h.queued q lt ∙ sym (ap (take_last (get_or wanted q 0)) all ∙ last_behind first rest
    (get_or wanted q 0) (omega (arith, a, b, none)))

pub sorted_whole : (wanted : List ℕ) (p i : ℕ) (tape : List Event) (counts : List ℕ)
    (packets : List (List (List Packet)))
    → AreSorted wanted p (sends (take i tape)) (drop i tape) counts packets → i ≡ 0
    → (q : ℕ) → q < length wanted → parcels_of (cell_at [] packets q p)
    ≡ take_last (get_or wanted q 0) (parcels_sent q 0 tape)
sorted_whole wanted p i tape counts packets h e q lt =
    h.queued q lt ∙ ap
    (λ k. take_last (get_or wanted q 0) (parcels_sent q (sends (take k tape)) (drop k tape))) e
    ∙ ap (λ t. take_last (get_or wanted q 0) (parcels_sent q (sends t) tape)) (start tape)
  where
    start : (es : List Event) → take 0 es ≡ []
    start [] = refl
    start (e ∷ es) = refl

-- another default, where there is one to find
pub other_default : {X : Type 0} (xs : List X) (i : ℕ) (c d : X) → i < length xs
    → get_or xs i c ≡ get_or xs i d
other_default [] i c d lt = absurd (omega (arith, lt))
other_default (x ∷ xs) zero c d lt = refl
other_default (x ∷ xs) (suc i) c d lt = other_default xs i c d (omega (arith, lt))

-- an event of a tape names processes of its history
pub named_at : (n m : ℕ) (tape all : List Event) (i : ℕ) (event : Event) → m ≡ n → all ≡ tape
    → All (NamesBelow n) tape → slice_get all i ≡ Some event → NamesBelow m event
named_at n m tape all i event em is h at =
    let there : slice_get tape i ≡ Some event = ap (λ t. slice_get t i) (sym is) ∙ at in
    subst (λ k. NamesBelow k event) (sym em) (subst (NamesBelow n) (get_or_from_slice_get tape i
    event event there) (h i event (slice_get_within tape i event there)))
