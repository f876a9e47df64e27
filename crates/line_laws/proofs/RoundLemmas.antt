-- The channels of a completed round of markers are what is in transit at its line, which is
-- consistent.
use Rattle.std.proofs.Common.{◌≡◌, ℕ, suc, ◌<◌, ◌≤◌, Bool, true, false, cond, ◌&&◌, List, [], ◌∷◌}
use Rattle.std.proofs.Common.{◌++◌, length, take, drop, get_or, Some, None, refl, sym, ap, ◌∙◌}
use Rattle.std.proofs.Common.{subst, arith, inl, inr}
use Rattle.std.specs.Prelude.{◌==◌}
use Rattle.std.specs.List.{filter_map, cons_option, list_any, Contains, slice_get, before_first}
use Rattle.std.specs.List.{after_first, position_or_len}
use Rattle.std.proofs.lemmas.List.{append_assoc, append-nil, take-append-drop, take-append-le}
use Rattle.std.proofs.lemmas.List.{take_at, length-take, length_push, get_or-take}
use Rattle.std.proofs.lemmas.List.Elements.{filter_map-append}
use Rattle.std.proofs.lemmas.List.Sums.{split_at_first, fails_before_first, passes_at_first}
use Rattle.std.proofs.lemmas.List.Folds.{Any-from_list_any, list_any-append}
use Rattle.std.proofs.lemmas.Bool.{eqb-true, eq-eqb, and_parts, or_parts, or_from, or_cases}
use Rattle.std.proofs.lemmas.Bool.{or_left, false_from_ne_true, both_ways, cases_lt}
use Rattle.line_names.specs.declared.messages.MsgName.{MsgName}
use Rattle.line_names.specs.declared.choices.Choice.TheVariants.{Check as AtCheck}
use Rattle.line_tape.specs.declared.events.Event.{Event}
use Rattle.line_tape.specs.declared.events.Event.TheVariants.{Send, Recv, Check, Mark}
use Rattle.line_tape.specs.declared.items.Item.{Item}
use Rattle.line_tape.specs.declared.items.Item.TheVariants.{Message, Marker}
use Rattle.line_tape.specs.Event.{checks}
use Rattle.line_tape.specs.Front.{check_place, front}
use Rattle.line_tape.specs.History.{Process, tape_at}
use Rattle.line_tape.specs.Transit.{names_received}
use Rattle.line_tape.specs.Rounds.{rounds_checked, is_check_of, is_mark_of, has_check_of}
use Rattle.line_tape.specs.Rounds.{check_index, after_check, names_from, channel_fifo}
use Rattle.line_tape.specs.Fit.{items_sent, item_received, sent_between, received_from, link}
use Rattle.line_tape.specs.Fit.{MarksFollow, IsFitFifo}
use Rattle.line_tape.proofs.FrontLemmas.{slice_get-append_left}
use Rattle.line_laws.proofs.NextLemmas.{check_in}
use Rattle.line_tape.proofs.RowLemmas.{checks-push, check_place-last, check_place-append}
use Rattle.line_laws.proofs.SentLemmas.{messages, item_message, sent_append}
use Rattle.line_tape.proofs.EventLemmas.{name_of}

-- a list up to the first element that passes, that element, and the rest
pub split_first : {X : Type 0} (p : X → Bool) (xs : List X) → list_any p xs ≡ true
    → (x : X) × (p x ≡ true) × (xs ≡ before_first p xs ++ (x ∷ after_first p xs))
split_first p xs t =
    let a = Any-from_list_any p xs t in
    elim (cases_lt (position_or_len p xs) (length xs)) [
      | inl l ↦ (
        get_or xs
            (position_or_len p xs) a.1,
        passes_at_first p xs a.1 l,
        split_at_first p xs a.1 l,
      )
      | inr g ↦ absurd (both_ways (p a.1)
          (ap p (sym a.3) ∙ fails_before_first p xs a.0 a.1 (omega (arith, a.2))) a.4)
    ]

pub before_none : {X : Type 0} (p : X → Bool) (xs : List X) → list_any p (before_first p xs) ≡ false
before_none p xs =
    let n : ℕ = position_or_len p xs in
    false_from_ne_true (list_any p (take n xs)) (λ t.
    let a = Any-from_list_any p (take n xs) t in
    let l : a.0 < n = omega (arith, a.2, length-take n xs) in
    both_ways (p a.1)
    (ap p (sym a.3 ∙ get_or-take n xs a.0 a.1 l) ∙ fails_before_first p xs a.0 a.1 l) a.4)

pub any_take : {X : Type 0} (p : X → Bool) (xs : List X) (i : ℕ) → list_any p (take i xs) ≡ true
    → list_any p xs ≡ true
any_take p xs i t = ap (list_any p) (sym (take-append-drop i xs)) ∙ list_any-append p (take i xs)
    (drop i xs) ∙ or_left _ _ t

abbrev pub is_marker : ℕ → Item → Bool
is_marker r (Message m) = false
is_marker r (Marker s) = s == r

pub check_is : (r : ℕ) (e : Event) → is_check_of r e ≡ true
    → (state : List ℕ) × (e ≡ Check state (Some r))
check_is r (Send to inc body) t = absurd (cc)
check_is r (Recv m) t = absurd (cc)
check_is r (Check state None) t = absurd (cc)
check_is r (Check state (Some s)) t = (state, ap (λ v. Check state (Some v)) (eqb-true s r t))
check_is r (Mark from s) t = absurd (cc)

pub mark_is : (p r : ℕ) (e : Event) → is_mark_of p r e ≡ true → e ≡ Mark p r
mark_is p r (Send to inc body) t = absurd (cc)
mark_is p r (Recv m) t = absurd (cc)
mark_is p r (Check state s) t = absurd (cc)
mark_is p r (Mark from s) t = let x = and_parts _ _ t in ap (λ v. Mark v s)
    (eqb-true from p x.0) ∙ ap (λ v. Mark p v) (eqb-true s r x.1)

pub sent_lacks : (r p q k : ℕ) (es : List Event) → list_any (is_check_of r) es ≡ false
    → list_any (is_marker r) (items_sent p q k es) ≡ false
sent_lacks r p q k [] t = refl
sent_lacks r p q k (Send to inc body ∷ es) t =
    let ih = sent_lacks r p q (suc k) es t in
    elim (to == q) as (λ b. list_any (is_marker r) (cond b (Message (name_of p inc k) ∷ items_sent p
    q (suc k) es) (items_sent p q (suc k) es)) ≡ false) [ true ↦ ih | false ↦ ih ]
sent_lacks r p q k (Recv m ∷ es) t = sent_lacks r p q k es t
sent_lacks r p q k (Check state None ∷ es) t = sent_lacks r p q k es t
sent_lacks r p q k (Check state (Some s) ∷ es) t =
    let x = or_parts _ _ t in or_from _ _ x.0 (sent_lacks r p q k es x.1)
sent_lacks r p q k (Mark from s ∷ es) t = sent_lacks r p q k es t

pub received_lacks : (r p : ℕ) (es : List Event) → list_any (is_mark_of p r) es ≡ false
    → list_any (is_marker r) (filter_map (item_received p) es) ≡ false
received_lacks r p [] t = refl
received_lacks r p (Send to inc body ∷ es) t = received_lacks r p es t
received_lacks r p (Recv m ∷ es) t =
    let ih = received_lacks r p es t in
    elim (m.from == p) as (λ b. list_any (is_marker r) (cons_option (cond b (Some (Message m)) None)
    (filter_map (item_received p) es)) ≡ false) [ true ↦ ih | false ↦ ih ]
received_lacks r p (Check state s ∷ es) t = received_lacks r p es t
received_lacks r p (Mark from s ∷ es) t =
    let x = or_parts _ _ t in
    let ih = received_lacks r p es x.1 in
    elim (from == p) as (λ b. (b && (s == r)) ≡ false → list_any (is_marker r)
    (cons_option (cond b (Some (Marker s)) None) (filter_map (item_received p) es)) ≡ false) [
      | true ↦ λ y. or_from _ _ y ih
      | false ↦ λ y. ih
    ] x.0

-- a marker that is received comes by a Mark
pub marker_at : (r p : ℕ) (es : List Event) → list_any (is_mark_of p r) es ≡ true
    → (i : ℕ) × (i < length es) × (slice_get es i ≡ Some (Mark p r))
marker_at r p [] t = absurd (cc)
marker_at r p (e ∷ es) t = elim (or_cases _ _ t) [
  | inl a ↦ (0, omega arith, ap (λ (v : Event). Some v) (mark_is p r e a))
  | inr b ↦ let ih = marker_at r p es b in (suc ih.0, omega (arith, ih.1), ih.2)
]

-- before a tape's Check of a round there is no Mark of it
pub no_mark_before : (tape before rest : List Event) (r p : ℕ) → MarksFollow tape → tape ≡ before
    ++ rest → list_any (is_check_of r) before ≡ false → list_any (is_mark_of p r) before ≡ false
no_mark_before tape before rest r p follow e none =
    false_from_ne_true (list_any (is_mark_of p r) before) (λ t.
    let at = marker_at r p before t in
    let on_tape : slice_get tape at.0 ≡ Some (Mark p r) = ap (λ (v : List Event). slice_get v at.0)
    e ∙ slice_get-append_left before rest at.0 (Mark p r) at.2 in
    let same : take at.0 tape ≡ take at.0 before = ap
    (take at.0) e ∙ take-append-le at.0 before rest (omega (arith, at.1)) in
    let seen = subst (λ (v : List Event). Contains (rounds_checked v) r) same
    (follow at.0 p r on_tape) in
    both_ways (list_any (is_check_of r) before) none
    (any_take (is_check_of r) before at.0 (check_in r (take at.0 before) seen)))

pub sent_check : (p q k : ℕ) (es : List Event) (state : List ℕ) (r : ℕ)
    → items_sent p q k (es ++ Check state (Some r) ∷ []) ≡ items_sent p q k es ++ Marker r ∷ []
sent_check p q k [] state r = refl
sent_check p q k (Send to inc body ∷ es) state r =
    let ih = sent_check p q (suc k) es state r in
    elim (to == q) as
    (λ b. cond b
    (Message (name_of p inc k) ∷ items_sent p q (suc k) (es ++ Check state (Some r) ∷ []))
    (items_sent p q (suc k) (es ++ Check state (Some r) ∷ []))
    ≡ cond b (Message (name_of p inc k) ∷ items_sent p q (suc k) es) (items_sent p q (suc k) es)
    ++ Marker r ∷ [])
    [ true ↦ ap (λ (xs : List Item). Message (name_of p inc k) ∷ xs) ih | false ↦ ih ]
sent_check p q k (Recv m ∷ es) state r = sent_check p q k es state r
sent_check p q k (Check st None ∷ es) state r = sent_check p q k es state r
sent_check p q k (Check st (Some s) ∷ es) state r =
    ap (λ (xs : List Item). Marker s ∷ xs) (sent_check p q k es state r)
sent_check p q k (Mark from s ∷ es) state r = sent_check p q k es state r

-- the front of a tape's Check of round r
pub front_of_check : (tape before after : List Event) (state : List ℕ) (r : ℕ)
    → tape ≡ before ++ (Check state (Some r) ∷ after)
    → front tape (AtCheck (suc (checks before))) ≡ before ++ Check state (Some r) ∷ []
front_of_check tape before after state r e =
    let head : List Event = before ++ Check state (Some r) ∷ [] in
    let split : tape
    ≡ head ++ after = e ∙ sym (append_assoc before (Check state (Some r) ∷ []) after) in
    let within : suc (checks before) ≤ checks head = omega
    (arith, checks-push before (Check state (Some r))) in
    let place_is : check_place tape (suc (checks before)) ≡ length head =
    ap (λ (v : List Event). check_place v (suc (checks before))) split ∙ check_place-append head
    after (suc (checks before)) within
    ∙ check_place-last before (Check state (Some r)) refl ∙ sym
    (length_push before (Check state (Some r))) in
    ap (λ n. take n tape) place_is ∙ ap (take (length head)) split ∙ take_at head after
    (length head) refl

-- two beginnings of one list that both lack the marker which follows them
pub up_to_marker : (r : ℕ) (xs ws ys bs : List Item) → xs ++ (Marker r ∷ ys) ≡ ws ++ (Marker r ∷ bs)
    → list_any (is_marker r) xs ≡ false → list_any (is_marker r) ws ≡ false → ws ≡ xs
up_to_marker r [] [] ys bs e x a = refl
up_to_marker r [] (i ∷ ws) ys bs e x a = let same : Marker r
    ≡ i = cc in absurd (both_ways (is_marker r i) (or_parts _ _ a).0
    (subst (λ (v : Item). is_marker r v ≡ true) same (eq-eqb r r refl)))
up_to_marker r (i ∷ xs) [] ys bs e x a = let same : Marker r
    ≡ i = cc in absurd (both_ways (is_marker r i) (or_parts _ _ x).0
    (subst (λ (v : Item). is_marker r v ≡ true) same (eq-eqb r r refl)))
up_to_marker r (i ∷ xs) (j ∷ ws) ys bs e x a =
    let same : j ≡ i = cc in
    let rest : xs ++ (Marker r ∷ ys) ≡ ws ++ (Marker r ∷ bs) = cc in
    ap (λ (v : Item). v ∷ ws) same ∙ ap (λ (v : List Item). i ∷ v)
    (up_to_marker r xs ws ys bs rest (or_parts _ _ x).1 (or_parts _ _ a).1)

-- a beginning that lacks the marker begins what stands before it
pub short_of_marker : (r : ℕ) (xs ws ys bs : List Item) → xs ++ ys ≡ ws ++ (Marker r ∷ bs)
    → list_any (is_marker r) xs ≡ false → (zs : List Item) × (ws ≡ xs ++ zs)
short_of_marker r [] ws ys bs e x = (ws, refl)
short_of_marker r (i ∷ xs) [] ys bs e x = let same : Marker r
    ≡ i = cc in absurd (both_ways (is_marker r i) (or_parts _ _ x).0
    (subst (λ (v : Item). is_marker r v ≡ true) same (eq-eqb r r refl)))
short_of_marker r (i ∷ xs) (j ∷ ws) ys bs e x =
    let same : j ≡ i = cc in
    let rest : xs ++ ys ≡ ws ++ (Marker r ∷ bs) = cc in
    let ih = short_of_marker r xs ws ys bs rest (or_parts _ _ x).1 in
    (ih.0, ap (λ (v : Item). v ∷ ws) same ∙ ap (λ (v : List Item). i ∷ v) ih.1)

pub channel_is : (p : ℕ) (es : List Event)
    → names_from p (names_received es) ≡ messages (filter_map (item_received p) es)
channel_is p [] = refl
channel_is p (Send to inc body ∷ es) = channel_is p es
channel_is p (Recv m ∷ es) =
    let ih = channel_is p es in
    elim (m.from == p) as
    (λ b. cond b (m ∷ names_from p (names_received es)) (names_from p (names_received es))
    ≡ messages (cons_option (cond b (Some (Message m)) None) (filter_map (item_received p) es)))
    [ true ↦ ap (λ (xs : List MsgName). m ∷ xs) ih | false ↦ ih ]
channel_is p (Check state s ∷ es) = channel_is p es
channel_is p (Mark from s ∷ es) =
    let ih = channel_is p es in
    elim (from == p) as (λ b. names_from p (names_received es) ≡ messages (cons_option (cond b
    (Some (Marker s)) None) (filter_map (item_received p) es))) [ true ↦ ih | false ↦ ih ]

-- what p sends before its Check of round r, with its marker, begins all that it sends
pub sent_to_check : (history : List Process) (r p q : ℕ) → has_check_of r (tape_at history p) ≡ true
    → (rest : List Item) × (sent_between history p q
    ≡ items_sent p q 0 (before_first (is_check_of r) (tape_at history p)) ++ (Marker r ∷ rest))
    × (items_sent p q 0 (front (tape_at history p) (AtCheck (check_index r (tape_at history p))))
    ≡ items_sent p q 0 (before_first (is_check_of r) (tape_at history p)) ++ Marker r ∷ [])
sent_to_check history r p q t =
    let tape : List Event = tape_at history p in
    let before : List Event = before_first (is_check_of r) tape in
    let after : List Event = after_first (is_check_of r) tape in
    let s = split_first (is_check_of r) tape t in
    let c = check_is r s.0 s.1 in
    let split : tape ≡ before
    ++ (Check c.0 (Some r) ∷ after) = s.2 ∙ ap (λ (v : Event). before ++ (v ∷ after)) c.1 in
    let head : List Event = before ++ Check c.0 (Some r) ∷ [] in
    let more = sent_append p q 0 head after in
    let by_head : items_sent p q 0 head
    ≡ items_sent p q 0 before ++ Marker r ∷ [] = sent_check p q 0 before c.0 r in (
      more.0,
      ap (items_sent p q 0)
          (split ∙ sym (append_assoc before (Check c.0 (Some r) ∷ []) after)) ∙ more.1
          ∙ ap (λ (v : List Item). v ++ more.0) by_head ∙ append_assoc (items_sent p q 0 before)
          (Marker r ∷ []) more.0,
      ap (items_sent p q 0) (front_of_check tape before after c.0 r split) ∙ by_head,
    )

-- what q receives from p before its Check of round r
pub received_to_check : (history : List Process) → IsFitFifo history → (r p q : ℕ)
    → has_check_of r (tape_at history q) ≡ true
    → (list_any (is_marker r)
    (filter_map (item_received p) (before_first (is_check_of r) (tape_at history q))) ≡ false)
    × (received_from history q p ≡ filter_map (item_received p) (before_first (is_check_of r)
    (tape_at history q)) ++ filter_map (item_received p) (after_check r (tape_at history q)))
    × (filter_map (item_received p)
    (front (tape_at history q) (AtCheck (check_index r (tape_at history q))))
    ≡ filter_map (item_received p) (before_first (is_check_of r) (tape_at history q)))
received_to_check history fit r p q t =
    let tape : List Event = tape_at history q in
    let before : List Event = before_first (is_check_of r) tape in
    let after : List Event = after_first (is_check_of r) tape in
    let s = split_first (is_check_of r) tape t in
    let c = check_is r s.0 s.1 in
    let split : tape ≡ before
    ++ (Check c.0 (Some r) ∷ after) = s.2 ∙ ap (λ (v : Event). before ++ (v ∷ after)) c.1 in (
      received_lacks r p before (no_mark_before tape before (Check c.0 (Some r) ∷ after) r p
          (fit.marks q) split (before_none (is_check_of r) tape)),
      ap (filter_map (item_received p)) split ∙ filter_map-append (item_received p) before
          (Check c.0 (Some r) ∷ after),
      ap (filter_map (item_received p)) (front_of_check tape before after c.0 r split) ∙
          filter_map-append (item_received p) before (Check c.0 (Some r) ∷ [])
          ∙ append-nil (filter_map (item_received p) before),
    )

-- what is sent before the line of round r is what is received before it, and then the channel
pub channel_follows : (history : List Process) → IsFitFifo history → (r p q : ℕ)
    → has_check_of r (tape_at history p) ≡ true → has_check_of r (tape_at history q) ≡ true
    → list_any (is_mark_of p r) (after_check r (tape_at history q)) ≡ true
    → messages (items_sent p q 0
    (front (tape_at history p) (AtCheck (check_index r (tape_at history p)))))
    ≡ messages (filter_map (item_received p) (front (tape_at history q)
    (AtCheck (check_index r (tape_at history q))))) ++ channel_fifo history r p q
channel_follows history fit r p q tp tq tm =
    let s = sent_to_check history r p q tp in
    let g = received_to_check history fit r p q tq in
    let early : List Item = filter_map (item_received p)
    (before_first (is_check_of r) (tape_at history q)) in
    let after : List Event = after_check r (tape_at history q) in
    let until : List Event = before_first (is_mark_of p r) after in
    let beyond : List Event = after_first (is_mark_of p r) after in
    let m = split_first (is_mark_of p r) after tm in
    let split : after ≡ until ++ (Mark p r ∷ beyond) = m.2 ∙ ap
    (λ (v : Event). until ++ (v ∷ beyond)) (mark_is p r m.0 m.1) in
    let inner : List Item = filter_map (item_received p) until in
    let outer : List Item = filter_map (item_received p) beyond in
    let mark_item : filter_map (item_received p) (Mark p r ∷ beyond) ≡ Marker r
    ∷ outer = ap (λ b. cons_option (cond b (Some (Marker r)) None) outer) (eq-eqb p p refl) in
    let by_after : filter_map (item_received p) after ≡ inner ++ (Marker r ∷ outer) =
    ap (filter_map (item_received p)) split ∙ filter_map-append (item_received p) until
    (Mark p r ∷ beyond) ∙ ap (λ (v : List Item). inner ++ v) mark_item in
    let before : List Item = items_sent p q 0 (before_first (is_check_of r) (tape_at history p)) in
    let held : List Item = link history p q in
    let all_received : received_from history q p ++ held
    ≡ (early ++ inner) ++ (Marker r ∷ (outer ++ held)) =
    ap (λ (v : List Item). v ++ held) (g.1 ∙ ap (λ (v : List Item). early ++ v) by_after ∙ sym
    (append_assoc early inner (Marker r ∷ outer)))
    ∙ append_assoc (early ++ inner) (Marker r ∷ outer) held in
    let whole : (early ++ inner) ++ (Marker r ∷ (outer ++ held))
    ≡ before ++ (Marker r ∷ s.0) = sym all_received ∙ fit.order p q ∙ s.1 in
    let lacks : list_any (is_marker r) (early ++ inner) ≡ false =
    list_any-append (is_marker r) early inner ∙ or_from _ _ g.0
    (received_lacks r p until (before_none (is_mark_of p r) after)) in
    let none_sent : list_any (is_marker r) before ≡ false = sent_lacks r p q 0 (before_first
    (is_check_of r) (tape_at history p)) (before_none (is_check_of r) (tape_at history p)) in
    let same : before ≡ early ++ inner = up_to_marker r (early ++ inner) before
    (outer ++ held) s.0 whole lacks none_sent in
    ap messages s.2 ∙ filter_map-append item_message before (Marker r ∷ []) ∙ append-nil
    (messages before) ∙ ap messages same ∙ filter_map-append item_message early inner
    ∙ ap (λ (v : List MsgName). messages early ++ v) (sym (channel_is p until)) ∙ ap
    (λ (v : List Item). messages v ++ channel_fifo history r p q) (sym g.2)
