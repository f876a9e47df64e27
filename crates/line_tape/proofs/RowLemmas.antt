-- How places, sends and rows grow with the events.
use Rattle.std.proofs.Common.{◌≡◌, ◌≢◌, ℕ, zero, suc, ◌+◌, ◌-◌, ◌<◌, ◌≤◌, true, false, cond, List}
use Rattle.std.proofs.Common.{[], ◌∷◌, ◌++◌, length, take, drop, get_or, Option, Some, None, refl}
use Rattle.std.proofs.Common.{sym, ap, ◌∙◌, subst, arith, inl, inr}
use Rattle.std.specs.List.{cons_option, filter_map, slice_get}
use Rattle.std.proofs.lemmas.Bool.{cases_lt}
use Rattle.std.proofs.lemmas.List.{length_push, get_or-take, take-append-drop, take_at, take_all}
use Rattle.std.proofs.lemmas.List.{take-append-le, get_or_append_left, get_or_push, append-nil}
use Rattle.std.proofs.lemmas.List.Elements.{filter_map-append}
use Rattle.std.proofs.lemmas.Option.{slice_get-get_or}
use Rattle.line_tape.specs.declared.events.Event.{Event}
use Rattle.line_tape.specs.declared.events.Event.TheVariants.{Send, Recv, Check, Mark}
use Rattle.line_tape.specs.declared.tapes.CheckRow.{CheckRow}
use Rattle.line_tape.specs.Event.{is_check, checks, incarnations_sent, incarnation_of, state_of}
use Rattle.line_tape.specs.Event.{stored_state}
use Rattle.line_tape.specs.Front.{check_place}
use Rattle.line_tape.specs.Kept.{IsCheckRow, AreCheckRows}
use Rattle.line_tape.specs.Transit.{addressee_of, names_received, received_name}
use Rattle.line_tape.proofs.FrontLemmas.{check_place-le}

-- a tape has no more sends than events
pub sends_le : (tape : List Event) → length (incarnations_sent tape) ≤ length tape
sends_le [] = omega arith
sends_le (Send to inc body ∷ es) = omega (arith, sends_le es)
sends_le (Recv message ∷ es) = omega (arith, sends_le es)
sends_le (Check state round ∷ es) = omega (arith, sends_le es)
sends_le (Mark from round ∷ es) = omega (arith, sends_le es)

-- a tape has no more receipts than events
pub receipts_le : (tape : List Event) → length (names_received tape) ≤ length tape
receipts_le [] = omega arith
receipts_le (Send to inc body ∷ es) = omega (arith, receipts_le es)
receipts_le (Recv message ∷ es) = omega (arith, receipts_le es)
receipts_le (Check state round ∷ es) = omega (arith, receipts_le es)
receipts_le (Mark from round ∷ es) = omega (arith, receipts_le es)

-- a tape has no more checks than events
pub checks_le : (tape : List Event) → checks tape ≤ length tape
checks_le [] = omega arith
checks_le (Send to inc body ∷ es) = omega (arith, checks_le es)
checks_le (Recv message ∷ es) = omega (arith, checks_le es)
checks_le (Check state round ∷ es) = omega (arith, checks_le es)
checks_le (Mark from round ∷ es) = omega (arith, checks_le es)

-- what the events of a front tell is what comes first of all that the tape tells
pub told_front : {X : Type 0} (tell : Event → Option X) (tape : List Event) (n : ℕ) → filter_map
    tell (take n tape) ≡ take (length (filter_map tell (take n tape))) (filter_map tell tape)
told_front {X} tell tape n =
    let told : List X = filter_map tell (take n tape) in
    let parts : filter_map tell tape ≡ told ++ filter_map tell (drop n tape) = ap (filter_map tell)
    (sym (take-append-drop n tape)) ∙ filter_map-append tell (take n tape) (drop n tape) in
    sym (ap (take (length told)) parts ∙ take_at told (filter_map tell (drop n tape))
    (length told) refl)

-- the sends in a front are the first ones of the tape
pub sent_front : (tape : List Event) (n : ℕ) → incarnations_sent (take n tape)
    ≡ take (length (incarnations_sent (take n tape))) (incarnations_sent tape)
sent_front tape n = told_front incarnation_of tape n

-- what a tape says of its first sends, as a read at a place
pub sent_at : (tape : List Event) (n k inc : ℕ) → k < length (incarnations_sent (take n tape))
    → (d : ℕ) → slice_get (incarnations_sent (take n tape)) k
    ≡ Some (get_or (incarnations_sent tape) k d)
sent_at tape n k inc h d =
    slice_get-get_or (incarnations_sent (take n tape)) k d h ∙ ap Some
    (ap (λ xs. get_or xs k d) (sent_front tape n) ∙ get_or-take
    (length (incarnations_sent (take n tape))) (incarnations_sent tape) k d h)

pub checks-push : (tape : List Event) (e : Event)
    → checks (tape ++ e ∷ []) ≡ checks tape + cond (is_check e) 1 0
checks-push [] e = elim (is_check e) as
    (λ v. cond v 1 0 ≡ 0 + cond v 1 0) [ true ↦ omega arith | false ↦ omega arith ]
checks-push (x ∷ xs) e =
    let ih = checks-push xs e in
    elim (is_check x) as
    (λ v. cond v (suc (checks (xs ++ e ∷ []))) (checks (xs ++ e ∷ []))
    ≡ cond v (suc (checks xs)) (checks xs) + cond (is_check e) 1 0)
    [ true ↦ omega (arith, ih) | false ↦ omega (arith, ih) ]

-- checks stand where they stood when events are added
pub check_place-append : (tape more : List Event) (c : ℕ) → c ≤ checks tape
    → check_place (tape ++ more) c ≡ check_place tape c
check_place-append xs more zero h = refl
check_place-append [] more (suc c) h = absurd (omega arith)
check_place-append (x ∷ xs) more (suc c) h =
    let le : cond (is_check x) c (suc c) ≤ checks xs = elim (is_check x) as
    (λ v. suc c ≤ cond v (suc (checks xs)) (checks xs) → cond v c (suc c) ≤ checks xs)
    [ true ↦ λ k. omega arith | false ↦ λ k. k ] h in
    ap suc (check_place-append xs more (cond (is_check x) c (suc c)) le)

pub check_place-push : (tape : List Event) (e : Event) (c : ℕ) → c ≤ checks tape
    → check_place (tape ++ e ∷ []) c ≡ check_place tape c
check_place-push tape e c h = check_place-append tape (e ∷ []) c h

pub check_place-last : (tape : List Event) (e : Event) → is_check e ≡ true
    → check_place (tape ++ e ∷ []) (suc (checks tape)) ≡ length tape + 1
check_place-last [] e h = ap (λ v. suc (check_place [] (cond v 0 1))) h
check_place-last (x ∷ xs) e h =
    let step : cond (is_check x) (checks (x ∷ xs)) (suc (checks (x ∷ xs)))
    ≡ suc (checks xs) = elim (is_check x) as
    (λ v. cond v (cond v (suc (checks xs)) (checks xs)) (suc
    (cond v (suc (checks xs)) (checks xs))) ≡ suc (checks xs)) [ true ↦ refl | false ↦ refl ] in
    let ih = check_place-last xs e h in
    let at = ap (λ c. suc (check_place (xs ++ e ∷ []) c)) step in
    omega (arith, at, ih)

-- a front has the checks up to its own
pub checks_front : (tape : List Event) (c : ℕ) → c ≤ checks tape
    → checks (take (check_place tape c) tape) ≡ c
checks_front tape zero h = refl
checks_front [] (suc c) h = absurd (omega arith)
checks_front (Check state round ∷ es) (suc c) h = ap suc (checks_front es c (omega arith))
checks_front (Send to inc body ∷ es) (suc c) h = checks_front es (suc c) h
checks_front (Recv message ∷ es) (suc c) h = checks_front es (suc c) h
checks_front (Mark from round ∷ es) (suc c) h = checks_front es (suc c) h

-- the rows of a tape stay right when an event is added
pub IsRow-push : (events : List Event) (e : Event) (c : ℕ) (row : CheckRow) → c < checks events
    → IsCheckRow events c row → IsCheckRow (events ++ e ∷ []) c row
IsRow-push events e c row h r =
    let same = check_place-push events e (suc c) h in
    let front_same : take (check_place events (suc c)) (events ++ e ∷ [])
    ≡ take (check_place events (suc c)) events = take-append-le
    (check_place events (suc c)) events (e ∷ []) (check_place-le events (suc c)) in
    record {
      place_is = r.place_is ∙ sym same;
      sends_is = r.sends_is ∙ ap (λ xs. length (incarnations_sent xs)) (sym front_same) ∙ ap
          (λ n. length (incarnations_sent (take n (events ++ e ∷ [])))) (sym same);
      receipts_is = r.receipts_is ∙ ap (λ xs. length (names_received xs)) (sym front_same) ∙ ap
          (λ n. length (names_received (take n (events ++ e ∷ [])))) (sym same);
    }

-- what is told of the events, once one is added that tells nothing
pub told-none : {X : Type 0} (tell : Event → Option X) (events : List Event) (e : Event)
    → tell e ≡ None → filter_map tell (events ++ e ∷ []) ≡ filter_map tell events
told-none tell events e none = filter_map-append tell events (e ∷ []) ∙ ap
    (λ o. filter_map tell events ++ cons_option o []) none ∙ append-nil (filter_map tell events)

-- and once one is added that does
pub told-some : {X : Type 0} (tell : Event → Option X) (events : List Event) (e : Event) (x : X)
    → tell e ≡ Some x → filter_map tell (events ++ e ∷ []) ≡ filter_map tell events ++ x ∷ []
told-some tell events e x some = filter_map-append tell events (e ∷ []) ∙ ap
    (λ o. filter_map tell events ++ cons_option o []) some

-- the row of a check that is added
pub IsRow-last : (events : List Event) (e : Event) (row : CheckRow) → is_check e ≡ true
    → incarnation_of e ≡ None → received_name e ≡ None → row.place ≡ length events + 1
    → row.sends ≡ length (incarnations_sent events) → row.receipts ≡ length (names_received events)
    → IsCheckRow (events ++ e ∷ []) (checks events) row
IsRow-last events e row h none no_receipt p s t =
    let last = check_place-last events e h in
    let whole : take (check_place (events ++ e ∷ []) (suc (checks events))) (events ++ e ∷ [])
    ≡ events ++ e ∷ [] =
    take_all _ (events ++ e ∷ []) (omega (arith, last, length_push events e)) in
    let sent : incarnations_sent (events ++ e ∷ [])
    ≡ incarnations_sent events = told-none incarnation_of events e none in
    record {
      place_is = p ∙ sym last;
      sends_is = s ∙ ap length (sym sent) ∙ ap (λ xs. length (incarnations_sent xs)) (sym whole);
      receipts_is = t ∙ ap length (sym (told-none received_name events e no_receipt)) ∙ ap
          (λ xs. length (names_received xs)) (sym whole);
    }

-- an event that is no check and no send
pub AreRows-other : (events : List Event) (e : Event) (rows : List CheckRow)
    (incarnations addressed : List ℕ) → is_check e ≡ false → incarnation_of e ≡ None
    → addressee_of e ≡ None → AreCheckRows events rows incarnations addressed
    → AreCheckRows (events ++ e ∷ []) rows incarnations addressed
AreRows-other events e rows incarnations addressed h none no_one r =
    let more : checks (events ++ e ∷ [])
    ≡ checks events + 0 = checks-push events e ∙ ap (λ b. checks events + cond b 1 0) h in
    record {
      sent = r.sent ∙ sym (told-none incarnation_of events e none);
      named = r.named ∙ sym (told-none addressee_of events e no_one);
      count = omega (arith, r.count, more);
      each =
          λ c d k. IsRow-push events e c (get_or rows c d) (omega (arith, r.count)) (r.each c d k);
    }

-- a send
pub AreRows-send : (events : List Event) (e : Event) (rows : List CheckRow)
    (incarnations addressed : List ℕ) (inc to : ℕ) → is_check e ≡ false
    → incarnation_of e ≡ Some inc → addressee_of e ≡ Some to
    → AreCheckRows events rows incarnations addressed
    → AreCheckRows (events ++ e ∷ []) rows (incarnations ++ inc ∷ []) (addressed ++ to ∷ [])
AreRows-send events e rows incarnations addressed inc to h some one r =
    let more : checks (events ++ e ∷ [])
    ≡ checks events + 0 = checks-push events e ∙ ap (λ b. checks events + cond b 1 0) h in
    record {
      sent = ap (λ xs. xs ++ inc ∷ []) r.sent ∙ sym (told-some incarnation_of events e inc some);
      named = ap (λ xs. xs ++ to ∷ []) r.named ∙ sym (told-some addressee_of events e to one);
      count = omega (arith, r.count, more);
      each =
          λ c d k. IsRow-push events e c (get_or rows c d) (omega (arith, r.count)) (r.each c d k);
    }

-- a check
pub AreRows-check : (events : List Event) (e : Event) (rows : List CheckRow)
    (incarnations addressed : List ℕ) (row : CheckRow) → is_check e ≡ true → incarnation_of e ≡ None
    → addressee_of e ≡ None → received_name e ≡ None → row.place ≡ length events + 1
    → row.sends ≡ length incarnations → row.receipts ≡ length (names_received events)
    → AreCheckRows events rows incarnations addressed
    → AreCheckRows (events ++ e ∷ []) (rows ++ row ∷ []) incarnations addressed
AreRows-check events e rows incarnations addressed row h none no_one no_receipt p s t r =
    let more : checks (events ++ e ∷ [])
    ≡ checks events + 1 = checks-push events e ∙ ap (λ b. checks events + cond b 1 0) h in
    record {
      sent = r.sent ∙ sym (told-none incarnation_of events e none);
      named = r.named ∙ sym (told-none addressee_of events e no_one);
      count = omega (arith, r.count, more, length_push rows row);
      each = λ c d k. elim (cases_lt c (length rows)) [
        | inl l ↦ subst (IsCheckRow (events ++ e ∷ []) c) (sym (get_or_append_left rows (row ∷ []) d
            c l)) (IsRow-push events e c (get_or rows c d) (omega (arith, r.count)) (r.each c d l))
        | inr g ↦
            let at : c ≡ checks events = omega (arith, r.count, length_push rows row) in
            subst (λ (x : ℕ). IsCheckRow (events ++ e ∷ []) x (get_or (rows ++ row ∷ []) c d))
            (sym at) (subst (IsCheckRow (events ++ e ∷ []) (checks events))
            (sym (get_or_push rows row d c (omega (arith, r.count))))
            (IsRow-last events e row h none no_receipt p (s ∙ ap length r.sent) t))
      ];
    }

-- the place of a check of the tape is past its start
pub check_place-some : (tape : List Event) (c : ℕ) → suc c ≤ checks tape
    → 1 ≤ check_place tape (suc c)
check_place-some [] c h = absurd (omega arith)
check_place-some (x ∷ xs) c h = omega arith

-- a read behind the first element
get_or-behind : (x : Event) (xs : List Event) (n : ℕ) (d : Event) → 1 ≤ n
    → get_or (x ∷ xs) (suc n - 1) d ≡ get_or xs (n - 1) d
get_or-behind x xs zero d h = absurd (omega arith)
get_or-behind x xs (suc n) d h =
    let here : suc (suc n) - 1 ≡ suc n = omega arith in
    let there : n ≡ suc n - 1 = omega arith in
    ap (λ k. get_or (x ∷ xs) k d) here ∙ ap (λ k. get_or xs k d) there

-- the event before the place of a check is that check, with the state that it stores
pub state_at : (tape : List Event) (c : ℕ) (d : Event) → suc c ≤ checks tape
    → state_of (get_or tape (check_place tape (suc c) - 1) d) ≡ Some (stored_state tape (suc c))
state_at [] c d h = absurd (omega arith)
state_at (Send to inc body ∷ es) c d h =
    ap state_of (get_or-behind (Send to inc body) es (check_place es (suc c)) d
    (check_place-some es c h)) ∙ state_at es c d h
state_at (Recv message ∷ es) c d h =
    ap state_of (get_or-behind (Recv message) es (check_place es (suc c)) d
    (check_place-some es c h)) ∙ state_at es c d h
state_at (Mark from round ∷ es) c d h =
    ap state_of (get_or-behind (Mark from round) es (check_place es (suc c)) d
    (check_place-some es c h)) ∙ state_at es c d h
state_at (Check state round ∷ es) zero d h = refl
state_at (Check state round ∷ es) (suc c) d h =
    let within : suc c ≤ checks es = omega arith in
    ap state_of (get_or-behind (Check state round) es (check_place es (suc c)) d
    (check_place-some es c within)) ∙ state_at es c d within

-- the row of a check
pub row_of : (events : List Event) (rows : List CheckRow) (incarnations addressed : List ℕ)
    (check : ℕ) (row : CheckRow) → check ≢ 0 → check ≤ checks events
    → AreCheckRows events rows incarnations addressed → row ≡ get_or rows (check - 1) row
    → row.place ≡ check_place events check
row_of events rows incarnations addressed zero row some within are is = absurd (some refl)
row_of events rows incarnations addressed (suc c) row some within are is =
    let index : suc c - 1 ≡ c = omega arith in
    let at : row ≡ get_or rows c row = is ∙ ap (λ k. get_or rows k row) index in
    subst (λ (r : CheckRow). r.place ≡ check_place events (suc c)) (sym at)
    ((are.each c row (omega (arith, are.count))).place_is)

-- the row of a check leads to an event
pub row_within : (events : List Event) (rows : List CheckRow) (incarnations addressed : List ℕ)
    (check : ℕ) (row : CheckRow) → check ≢ 0 → check ≤ checks events → AreCheckRows events rows
    incarnations addressed → row ≡ get_or rows (check - 1) row → row.place - 1 < length events
row_within events rows incarnations addressed zero row some within are is = absurd (some refl)
row_within events rows incarnations addressed (suc c) row some within are is =
    omega (
      arith,
      row_of events rows incarnations addressed (suc c) row some within are is,
      check_place-le events (suc c),
      check_place-some events c within,
    )

-- that event stores what is stored with the check
pub row_state : (events : List Event) (rows : List CheckRow) (incarnations addressed : List ℕ)
    (check : ℕ) (row : CheckRow) (event : Event) → check ≢ 0 → check ≤ checks events
    → AreCheckRows events rows incarnations addressed → row ≡ get_or rows (check - 1) row → event
    ≡ get_or events (row.place - 1) event → state_of event ≡ Some (stored_state events check)
row_state events rows incarnations addressed zero row event some within are is at =
    absurd (some refl)
row_state events rows incarnations addressed (suc c) row event some within are is at =
    ap state_of (at ∙ ap (λ k. get_or events (k - 1) event) (row_of events rows incarnations
    addressed (suc c) row some within are is)) ∙ state_at events c event within
