-- Histories at which no round is open: what their links hold, and that all their rounds are
-- completed.
use Rattle.std.proofs.Common.{◌≡◌, ℕ, zero, suc, ◌<◌, ◌≤◌, Bool, true, false, cond, List, [], ◌∷◌}
use Rattle.std.proofs.Common.{◌++◌, length, take, map, replicate, Option, Some, None, refl, sym, ap}
use Rattle.std.proofs.Common.{◌∙◌, subst, arith, inl, inr}
use Rattle.std.specs.Prelude.{◌==◌, ◌||◌, ◌&&◌}
use Rattle.std.specs.List.{after_first, before_first, All, Contains, cons_option, filter_map}
use Rattle.std.specs.List.{list_any}
use Rattle.std.proofs.lemmas.Bool.{both_ways, cases_eq, cases_lt, eq-eqb, eqb-true}
use Rattle.std.proofs.lemmas.Bool.{false_from_ne_true, ne_eqb, or_cases, or_left, or_right}
use Rattle.std.proofs.lemmas.List.{get_or_past, take_all}
use Rattle.std.proofs.lemmas.List.Elements.{All-cons, All-nil, Contains-append_right}
use Rattle.std.proofs.lemmas.List.Elements.{filter_map-append}
use Rattle.std.proofs.lemmas.List.Folds.{list_any-append}
use Rattle.line_names.specs.declared.choices.Choice.{Choice}
use Rattle.line_names.specs.declared.choices.Choice.TheVariants.{Now}
use Rattle.line_names.specs.Lines.{choice_at}
use Rattle.line_tape.specs.declared.events.Event.{Event}
use Rattle.line_tape.specs.declared.events.Event.TheVariants.{Send, Recv, Check, Mark}
use Rattle.line_tape.specs.declared.items.Item.{Item}
use Rattle.line_tape.specs.declared.items.Item.TheVariants.{Message, Marker}
use Rattle.line_tape.specs.Event.{NamesBelow}
use Rattle.line_tape.specs.Fit.{item_received, items_sent, link, received_from, sent_between}
use Rattle.line_tape.specs.Fit.{AreDistinct, IsFitFifo, IsPrefix, MarksFollow}
use Rattle.line_tape.specs.Front.{front}
use Rattle.line_tape.specs.History.{tape_at, fresh, Process, IsHistory}
use Rattle.line_tape.specs.Line.{events_before}
use Rattle.line_tape.specs.Rounds.{after_check, has_check_of, has_mark_of, is_check_of}
use Rattle.line_tape.specs.Rounds.{is_completed_fifo, is_mark_of, rounds_checked}
use Rattle.line_tape.specs.Transit.{in_transit_between}
use Rattle.line_tape.proofs.EventLemmas.{name_of}
use Rattle.line_laws.proofs.CompletionLemmas.{closed_from, completed_from}
use Rattle.line_laws.proofs.LinkLemmas.{transit_is}
use Rattle.line_laws.proofs.NextLemmas.{check_in, prefix_from, rest_from}
use Rattle.line_laws.proofs.OrderLemmas.{messages_sent}
use Rattle.line_laws.proofs.RoundLemmas.{any_take, before_none, check_is, is_marker, marker_at}
use Rattle.line_laws.proofs.RoundLemmas.{no_mark_before, received_lacks, sent_lacks, split_first}
use Rattle.line_laws.proofs.RoundLines.{closed_has_check, closed_has_mark}
use Rattle.line_laws.proofs.SentLemmas.{messages}
use Rattle.line_moves.specs.Worlds.{IsMessage}
use Rattle.line_world.specs.Deliveries.{AreDelivered, HasRoundsUpTo}
use Rattle.line_world.specs.Idle.{AreMarkersReceived, IsIdle}
use Rattle.line_world.proofs.WalkLemmas.{apart_parts, delivered_from, delivered_parts, rounds_none}

-- there is no tape past the last process
pub tape_past : (history : List Process) (p : ℕ) → length history ≤ p → tape_at history p ≡ []
tape_past history p past = ap (λ (v : Process). v.tape) (get_or_past history p fresh past)

-- nothing is received from a process that there isn't
none_received : (n p : ℕ) (es : List Event) → n ≤ p → All (NamesBelow n) es
    → filter_map (item_received p) es ≡ []
none_received n p [] past named = refl
none_received n p (Send to inc body ∷ es) past named =
    none_received n p es past (λ k d within. named (suc k) d (omega arith))
none_received n p (Recv m ∷ es) past named =
    let below : m.from < n = named 0 (Recv m) (omega arith) in
    let other : (m.from == p) ≡ false = ne_eqb m.from p (λ e. omega (arith, e, below, past)) in
    ap (λ b. cons_option (cond b (Some (Message m)) None) (filter_map (item_received p) es)) other
    ∙ none_received n p es past (λ k d within. named (suc k) d (omega arith))
none_received n p (Check state round ∷ es) past named =
    none_received n p es past (λ k d within. named (suc k) d (omega arith))
none_received n p (Mark from round ∷ es) past named =
    let below : from < n = named 0 (Mark from round) (omega arith) in
    let other : (from == p) ≡ false = ne_eqb from p (λ e. omega (arith, e, below, past)) in
    ap (λ b. cons_option (cond b (Some (Marker round)) None) (filter_map (item_received p) es))
    other
    ∙ none_received n p es past (λ k d within. named (suc k) d (omega arith))

-- each walk over tapes of an idle history finds that
pub idle_delivered : (history : List Process) (last p q : ℕ) → IsIdle history last
    → p < length history → q < length history
    → AreDelivered (p == q) (received_from history q p) (sent_between history p q)
idle_delivered history last p q idle p_within q_within =
    subst (AreDelivered (p == q) (received_from history q p)) (idle.fit.order p q)
    (delivered_from (p == q) (received_from history q p) (link history p q)
    (λ apart. idle.received p q p_within q_within (λ e. both_ways (p == q) apart (eq-eqb p q e))))

pub idle_rounds : (history : List Process) (last p : ℕ) → IsIdle history last
    → HasRoundsUpTo last (tape_at history p)
idle_rounds history last p idle =
    record { numbers = idle.numbers p; rounds = idle.fit.rounds p; marks = idle.fit.marks p }

-- and a history is idle where all find it
pub idle_from : (history : List Process) (last : ℕ) → IsHistory history
    → ((p : ℕ) → p < length history → HasRoundsUpTo last (tape_at history p))
    → ((p : ℕ) → p < length history → (q : ℕ) → q < length history → AreDelivered (p == q)
    (received_from history q p) (sent_between history p q)) → IsIdle history last
idle_from history last limits rounds walked = record {
  fit = record { order = order; rounds = λ p. (each p).rounds; marks = λ p. (each p).marks };
  numbers = λ p r has. (each p).numbers r has;
  received = λ p q p_within q_within apart.
      let parts = delivered_parts (p == q) (received_from history q p) (sent_between history p q)
      (walked p p_within q q_within) in
      let rest : link history p q ≡ parts.0 = rest_from (received_from history q p)
      (sent_between history p q) parts.0 parts.1 in
      subst (λ (xs : List Item). All IsMessage xs) (sym rest) (parts.2 (ne_eqb p q apart));
}
  where
    each : (p : ℕ) → HasRoundsUpTo last (tape_at history p)
    each p = elim (cases_lt p (length history)) [
      | inl within ↦ rounds p within
      | inr past ↦ subst (HasRoundsUpTo last) (sym (tape_past history p (omega (arith, past))))
          (rounds_none last)
    ]

    order : (p q : ℕ) → IsPrefix (received_from history q p) (sent_between history p q)
    order p q = elim (cases_lt q (length history)) [
      | inl q_within ↦ elim (cases_lt p (length history)) [
        | inl p_within ↦
            let parts = delivered_parts (p == q) (received_from history q p)
            (sent_between history p q) (walked p p_within q q_within) in
            prefix_from (received_from history q p) (sent_between history p q) parts.0 parts.1
        | inr past ↦
            prefix_from (received_from history q p) (sent_between history p q)
            (sent_between history p q)
            (ap (λ (v : List Item). v ++ sent_between history p q)
            (sym (none_received (length history) p (tape_at history q) (omega (arith, past))
            (limits.processes q fresh q_within).named)))
      ]
      | inr past ↦
          prefix_from (received_from history q p) (sent_between history p q)
          (sent_between history p q)
          (ap (λ (es : List Event). filter_map (item_received p) es ++ sent_between history p q)
          (sym (tape_past history q (omega (arith, past)))))
    ]

-- a tape without a check of a round
pub no_check_of : (r : ℕ) (es : List Event) → rounds_checked es ≡ [] → has_check_of r es ≡ false
no_check_of r [] e = refl
no_check_of r (Send to inc body ∷ es) e = no_check_of r es e
no_check_of r (Recv m ∷ es) e = no_check_of r es e
no_check_of r (Check state None ∷ es) e = no_check_of r es e
no_check_of r (Check state (Some s) ∷ es) e = absurd (cc)
no_check_of r (Mark from s ∷ es) e = no_check_of r es e

-- items without a marker are messages
unmarked : (xs : List Item) → ((r : ℕ) → list_any (is_marker r) xs ≡ false) → All IsMessage xs
unmarked [] none = All-nil IsMessage
unmarked (Message m ∷ xs) none = All-cons IsMessage (Message m) xs tt (unmarked xs none)
unmarked (Marker r ∷ xs) none = absurd (both_ways (list_any (is_marker r) (Marker r ∷ xs)) (none r)
    (or_left (r == r) (list_any (is_marker r) xs) (eq-eqb r r refl)))

-- and messages are no markers
no_marker : (r : ℕ) (xs : List Item) → All IsMessage xs → list_any (is_marker r) xs ≡ false
no_marker r [] all = refl
no_marker r (Message m ∷ xs) all = no_marker r xs (λ k d within. all (suc k) d (omega arith))
no_marker r (Marker s ∷ xs) all = absurd (all 0 (Marker s) (omega arith))

same_items : (xs : List Item) → All IsMessage xs → map (λ m. Message m) (messages xs) ≡ xs
same_items [] all = refl
same_items (Message m ∷ xs) all = ap (λ (v : List Item). Message m ∷ v)
    (same_items xs (λ k d within. all (suc k) d (omega arith)))
same_items (Marker s ∷ xs) all = absurd (all 0 (Marker s) (omega arith))

-- a round that a tape has no check of is on none of its links, so where no tape has a round the
-- history is idle
link_lacks : (history : List Process) (p q r : ℕ) → IsFitFifo history
    → has_check_of r (tape_at history p) ≡ false → list_any (is_marker r) (link history p q) ≡ false
link_lacks history p q r fit none =
    let got : List Item = received_from history q p in
    let held : List Item = link history p q in
    let parts : list_any (is_marker r) (sent_between history p q)
    ≡ (list_any (is_marker r) got || list_any (is_marker r) held) =
    ap (list_any (is_marker r)) (sym (fit.order p q)) ∙ list_any-append (is_marker r) got held in
    false_from_ne_true (list_any (is_marker r) held) (λ t.
    both_ways (list_any (is_marker r) (sent_between history p q))
    (sent_lacks r p q 0 (tape_at history p) none)
    (parts ∙ or_right (list_any (is_marker r) got) (list_any (is_marker r) held) t))

pub idle_unbegun : (history : List Process) (last : ℕ) → IsFitFifo history
    → ((p : ℕ) → rounds_checked (tape_at history p) ≡ []) → IsIdle history last
idle_unbegun history last fit unbegun = record {
  fit = fit;
  numbers = λ p r has. absurd (both_ways (has_check_of r (tape_at history p))
      (no_check_of r (tape_at history p) (unbegun p)) has);
  received = λ p q p_within q_within apart. unmarked (link history p q)
      (λ r. link_lacks history p q r fit (no_check_of r (tape_at history p) (unbegun p)));
}

-- what the link holds is what is in transit where each process stands
pub idle_link : (history : List Process) (p q : ℕ) → IsFitFifo history → AreMarkersReceived history
    → p < length history → q < length history → (p ≡ q → ⊥)
    → link history p q
    ≡ map (λ m. Message m) (in_transit_between history (replicate (length history) Now) p q)
idle_link history p q fit received p_within q_within apart =
    let line : List Choice = replicate (length history) Now in
    let held : List Item = link history p q in
    let whole : messages (items_sent p q 0 (events_before history line p))
    ≡ messages (filter_map (item_received p) (events_before history line q)) ++ messages held =
    ap (λ (es : List Event). messages (items_sent p q 0 es))
    (all_before p p_within) ∙ messages_sent history fit p q
    ∙ ap (λ (es : List Event). messages (filter_map (item_received p) es) ++ messages held)
    (sym (all_before q q_within)) in
    sym (ap (map (λ m. Message m)) (transit_is history line p q (messages held) whole) ∙ same_items
    held (received p q p_within q_within apart))
  where
    stands : (n v : ℕ) → v < n → choice_at (replicate n Now) v ≡ Now
    stands zero v within = absurd (omega (arith, within))
    stands (suc n) zero within = refl
    stands (suc n) (suc v) within = stands n v (omega (arith, within))

    all_before : (v : ℕ) → v < length history
        → events_before history (replicate (length history) Now) v ≡ tape_at history v
    all_before v within = ap (front (tape_at history v)) (stands (length history) v within) ∙
        take_all (length (tape_at history v)) (tape_at history v) (omega arith)

-- the marker of a check is sent on each link
sent_has : (r p q k : ℕ) (es : List Event) → has_check_of r es ≡ true
    → list_any (is_marker r) (items_sent p q k es) ≡ true
sent_has r p q k [] t = absurd (cc)
sent_has r p q k (Send to inc body ∷ es) t =
    let ih = sent_has r p q (suc k) es t in
    elim (to == q) as (λ b. list_any (is_marker r) (cond b (Message (name_of p inc k)
    ∷ items_sent p q (suc k) es) (items_sent p q (suc k) es)) ≡ true) [ true ↦ ih | false ↦ ih ]
sent_has r p q k (Recv m ∷ es) t = sent_has r p q k es t
sent_has r p q k (Check state None ∷ es) t = sent_has r p q k es t
sent_has r p q k (Check state (Some s) ∷ es) t = elim (or_cases (s == r) (has_check_of r es) t) [
  | inl here ↦ or_left (s == r) (list_any (is_marker r) (items_sent p q k es)) here
  | inr later ↦ or_right (s == r) (list_any (is_marker r) (items_sent p q k es))
      (sent_has r p q k es later)
]
sent_has r p q k (Mark from s ∷ es) t = sent_has r p q k es t

-- after a tape's check of a round stand its markers
mark_after : (tape : List Event) (r p : ℕ) → MarksFollow tape → has_check_of r tape ≡ true
    → list_any (is_mark_of p r) tape ≡ true → has_mark_of p r tape ≡ true
mark_after tape r p follow has marked =
    let before : List Event = before_first (is_check_of r) tape in
    let after : List Event = after_first (is_check_of r) tape in
    let split = split_first (is_check_of r) tape has in
    let check = check_is r split.0 split.1 in
    let unmarked_before : list_any (is_mark_of p r) before ≡ false = no_mark_before tape before
    (split.0 ∷ after) r p follow split.2 (before_none (is_check_of r) tape) in
    let parts : (list_any (is_mark_of p r) before || list_any (is_mark_of p r) (split.0 ∷ after))
    ≡ true =
    sym (list_any-append (is_mark_of p r) before (split.0 ∷ after)) ∙ ap (list_any (is_mark_of p r))
    (sym split.2) ∙ marked in
    elim (or_cases (list_any (is_mark_of p r) before)
    (list_any (is_mark_of p r) (split.0 ∷ after)) parts) [
      | inl early ↦ absurd (both_ways (list_any (is_mark_of p r) before) unmarked_before early)
      | inr late ↦ elim (or_cases (is_mark_of p r split.0) (list_any (is_mark_of p r) after) late) [
        | inl here ↦ absurd (both_ways (is_mark_of p r split.0) (ap (is_mark_of p r) check.1) here)
        | inr later ↦ later
      ]
    ]

module _ (history : List Process) (last : ℕ) (idle : IsIdle history last) where
  -- another process received the marker of a check
  mark_received : (p q r : ℕ) → p < length history → q < length history → (p ≡ q → ⊥) → has_check_of
      r (tape_at history p) ≡ true → list_any (is_mark_of p r) (tape_at history q) ≡ true
  mark_received p q r p_within q_within apart has =
      let got : List Item = received_from history q p in
      let held : List Item = link history p q in
      let parts : (list_any (is_marker r) got || list_any (is_marker r) held) ≡ true =
      sym (list_any-append (is_marker r) got held) ∙ ap (list_any (is_marker r))
      (idle.fit.order p q) ∙ sent_has r p q 0 (tape_at history p) has in
      elim (list_any (is_mark_of p r) (tape_at history q)) as
      (λ b. list_any (is_mark_of p r) (tape_at history q) ≡ b → b ≡ true) [
        | true ↦ λ t. refl
        | false ↦ λ t. absurd
            (elim (or_cases (list_any (is_marker r) got) (list_any (is_marker r) held) parts) [
              | inl early ↦ both_ways (list_any (is_marker r) got)
                  (received_lacks r p (tape_at history q) t) early
              | inr late ↦ both_ways (list_any (is_marker r) held)
                  (no_marker r held (idle.received p q p_within q_within apart)) late
            ])
      ] refl

  -- so it has its check of the round
  check_received : (p q r : ℕ) → p < length history → q < length history
      → has_check_of r (tape_at history p) ≡ true → has_check_of r (tape_at history q) ≡ true
  check_received p q r p_within q_within has = elim (cases_eq p q) [
    | inl same ↦ subst (λ (v : ℕ). has_check_of r (tape_at history v) ≡ true) same has
    | inr apart ↦
        let tape : List Event = tape_at history q in
        let at = marker_at r p tape (mark_received p q r p_within q_within apart has) in
        any_take (is_check_of r) tape at.0
        (check_in r (take at.0 tape) (idle.fit.marks q at.0 p r at.2))
  ]

  -- each round on a tape is completed
  pub idle_completed : (p r : ℕ) → has_check_of r (tape_at history p) ≡ true
      → is_completed_fifo history r ≡ true
  idle_completed p r has = elim (cases_lt p (length history)) [
    | inl within ↦ completed_from history r
        (λ q q_within. closed_from history r q (check_received p q r within q_within has)
        (λ v v_within apart. mark_after (tape_at history q) r v (idle.fit.marks q)
        (check_received p q r within q_within has)
        (mark_received v q r v_within q_within apart (check_received p v r within v_within has))))
    | inr past ↦ absurd (both_ways (has_check_of r (tape_at history p))
        (ap (has_check_of r) (tape_past history p (omega (arith, past)))) has)
  ]

-- the rounds of the markers among some items
abbrev item_round : Item → Option ℕ
item_round (Message m) = None
item_round (Marker r) = Some r

rounds_sent : (p q k : ℕ) (es : List Event)
    → filter_map item_round (items_sent p q k es) ≡ rounds_checked es
rounds_sent p q k [] = refl
rounds_sent p q k (Send to inc body ∷ es) =
    let ih = rounds_sent p q (suc k) es in
    elim (to == q) as (λ b. filter_map item_round (cond b (Message (name_of p inc k) ∷ items_sent p
    q (suc k) es) (items_sent p q (suc k) es)) ≡ rounds_checked es) [ true ↦ ih | false ↦ ih ]
rounds_sent p q k (Recv m ∷ es) = rounds_sent p q k es
rounds_sent p q k (Check state None ∷ es) = rounds_sent p q k es
rounds_sent p q k (Check state (Some s) ∷ es) = ap (λ (rs : List ℕ). s ∷ rs) (rounds_sent p q k es)
rounds_sent p q k (Mark from s ∷ es) = rounds_sent p q k es

round_among : (r : ℕ) (xs : List Item) → list_any (is_marker r) xs ≡ true
    → Contains (filter_map item_round xs) r
round_among r [] t = absurd (cc)
round_among r (Message m ∷ xs) t = round_among r xs t
round_among r (Marker s ∷ xs) t = elim (or_cases (s == r) (list_any (is_marker r) xs) t) [
  | inl here ↦ (0, omega arith, eqb-true s r here)
  | inr later ↦ Contains-append_right (s ∷ []) (filter_map item_round xs) r (round_among r xs later)
]

-- a marker that a tape has was received
received_has : (r p : ℕ) (es : List Event) → list_any (is_mark_of p r) es ≡ true
    → list_any (is_marker r) (filter_map (item_received p) es) ≡ true
received_has r p [] t = absurd (cc)
received_has r p (Send to inc body ∷ es) t = received_has r p es t
received_has r p (Recv m ∷ es) t =
    let ih = received_has r p es t in
    elim (m.from == p) as (λ b. list_any (is_marker r) (cons_option (cond b (Some (Message m)) None)
    (filter_map (item_received p) es)) ≡ true) [ true ↦ ih | false ↦ ih ]
received_has r p (Check state s ∷ es) t = received_has r p es t
received_has r p (Mark from s ∷ es) t =
    elim (from == p) as
    (λ b. ((b && (s == r)) || list_any (is_mark_of p r) es) ≡ true → list_any (is_marker r)
    (cons_option (cond b (Some (Marker s)) None) (filter_map (item_received p) es)) ≡ true) [
      | true ↦ λ y. elim (or_cases (s == r) (list_any (is_mark_of p r) es) y) [
        | inl here ↦ or_left (s == r)
            (list_any (is_marker r) (filter_map (item_received p) es)) here
        | inr later ↦ or_right (s == r) (list_any (is_marker r) (filter_map (item_received p) es))
            (received_has r p es later)
      ]
      | false ↦ λ y. received_has r p es y
    ] t

any_after : (f : Event → Bool) (r : ℕ) (tape : List Event) → has_check_of r tape ≡ true
    → list_any f (after_check r tape) ≡ true → list_any f tape ≡ true
any_after f r tape has t =
    let before : List Event = before_first (is_check_of r) tape in
    let after : List Event = after_first (is_check_of r) tape in
    let split = split_first (is_check_of r) tape has in
    ap (list_any f) split.2 ∙ list_any-append f before (split.0 ∷ after) ∙ or_right (list_any f
    before) (list_any f (split.0 ∷ after)) (or_right (f split.0) (list_any f after) t)

-- where each round on a tape is completed, the history is idle
pub completed_idle_history : (history : List Process) (last : ℕ) → IsFitFifo history
    → ((p r : ℕ) → has_check_of r (tape_at history p) ≡ true → r ≤ last)
    → ((p r : ℕ) → has_check_of r (tape_at history p) ≡ true → is_completed_fifo history r ≡ true)
    → IsIdle history last
completed_idle_history history last fit numbers completed = record {
  fit = fit;
  numbers = numbers;
  received = λ p q p_within q_within apart. unmarked (link history p q) (λ r.
      let got : List Item = received_from history q p in
      let held : List Item = link history p q in
      let tape : List Event = tape_at history p in
      false_from_ne_true (list_any (is_marker r) held)
      (λ t. elim (has_check_of r tape) as (λ b. has_check_of r tape ≡ b → ⊥) [
        | true ↦ λ has.
            let done = completed p r has in
            let other : has_check_of r (tape_at history q)
            ≡ true = closed_has_check history r q done q_within in
            let marked : list_any (is_mark_of p r) (tape_at history q)
            ≡ true = any_after (is_mark_of p r) r (tape_at history q) other
            (closed_has_mark history r p q done p_within q_within apart) in
            let rounds : rounds_checked tape
            ≡ filter_map item_round got ++ filter_map item_round held =
            sym (rounds_sent p q 0 tape) ∙ ap (filter_map item_round)
            (sym (fit.order p q)) ∙ filter_map-append item_round got held in
            apart_parts (filter_map item_round got) (filter_map item_round held) r
            (subst (λ (rs : List ℕ). AreDistinct rs) rounds (fit.rounds p))
            (round_among r got (received_has r p (tape_at history q) marked)) (round_among r held t)
        | false ↦ λ none. both_ways (list_any (is_marker r) held)
            (link_lacks history p q r fit none) t
      ] refl));
}
