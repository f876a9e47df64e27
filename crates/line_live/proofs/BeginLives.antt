-- When a machine may let go what stands before a floor: no round is open, and the floor survives.
use Rattle.std.proofs.Common.{◌≡◌, ◌≢◌, ℕ, zero, suc, ◌+◌, ◌<◌, ◌≤◌, Bool, true, false, not, ◌&&◌}
use Rattle.std.proofs.Common.{cond, List, [], ◌∷◌, ◌++◌, length, take, drop, Some, None, refl, sym}
use Rattle.std.proofs.Common.{ap, ◌∙◌, subst, arith, inl, inr}
use Rattle.std.specs.Prelude.{◌==◌}
use Rattle.std.specs.List.{Contains, cons_option, filter_map, list_any, position_or_len}
use Rattle.std.specs.List.{range_with_len, slice_get}
use Rattle.std.proofs.lemmas.Bool.{and_parts, cases_eq, cases_lt, eqb-true, le-leb, not-false}
use Rattle.std.proofs.lemmas.Bool.{or_cases, or_left, or_right, false≢true}
use Rattle.std.proofs.lemmas.List.{append-nil, length-append, get_or_append_left, get_or-append-add}
use Rattle.std.proofs.lemmas.List.{take-append-drop}
use Rattle.std.proofs.lemmas.List.Elements.{All-weaker, All-contains_itself, Contains-append_left}
use Rattle.std.proofs.lemmas.List.Elements.{filter_map-append}
use Rattle.line_names.specs.declared.messages.MsgName.{MsgName}
use Rattle.line_names.specs.Lines.{choice_at}
use Rattle.line_tape.specs.declared.events.Event.{Event}
use Rattle.line_tape.specs.declared.events.Event.TheVariants.{Send, Recv, Check, Mark}
use Rattle.line_tape.specs.declared.items.Item.{Item}
use Rattle.line_tape.specs.declared.items.Item.TheVariants.{Message, Marker}
use Rattle.line_tape.specs.Event.{incarnations_sent}
use Rattle.line_tape.specs.Fit.{items_sent, item_received, link, received_from, sent_between}
use Rattle.line_tape.specs.Fit.{AreDistinct, IsFitFifo, IsSentTo}
use Rattle.line_tape.specs.Front.{place}
use Rattle.line_tape.specs.History.{Process, tape_at}
use Rattle.line_tape.specs.Rounds.{rounds_checked, is_check_of, has_check_of, is_mark_of}
use Rattle.line_tape.specs.Rounds.{has_mark_of, is_completed_fifo}
use Rattle.line_tape.specs.Transit.{addressees}
use Rattle.line_tape.proofs.LineLemmas.{tape_at-past}
use Rattle.line_laws.proofs.CompletionLemmas.{closed_parts, completed_closed, marker_checked}
use Rattle.line_laws.proofs.LinkLemmas.{not_in_both, In-append_right}
use Rattle.line_laws.proofs.NextLemmas.{check_in}
use Rattle.line_laws.proofs.OrderLemmas.{receipt_in, sent_is}
use Rattle.line_laws.proofs.RoundLemmas.{any_take, is_marker}
use Rattle.line_laws.proofs.SentLemmas.{messages, item_message, In, Ascends, in_received}
use Rattle.line_laws.proofs.SentLemmas.{sent_ascends, sent_from}
use Rattle.line_tape.specs.declared.modes.Mode.{Mode}
use Rattle.line_tape.specs.declared.modes.Mode.TheVariants.{Fifo}
use Rattle.line_moves.specs.Listed.{is_begun, is_completed}
use Rattle.line_moves.specs.Modes.{IsFitIn}
use Rattle.line_world.specs.Machine.{Machine, is_open}
use Rattle.line_cuts.specs.Cuts.{Floor, IsFloor, FloorSurvives, lost_sends, floor_line, is_left}
use Rattle.line_live.specs.CutMachines.{IsBeside, IsItemLeft, MayForget}

-- the rounds of the markers among items
abbrev rounds_of : List Item → List ℕ
rounds_of [] = []
rounds_of (Message m ∷ items) = rounds_of items
rounds_of (Marker r ∷ items) = r ∷ rounds_of items

rounds_append : (xs ys : List Item) → rounds_of (xs ++ ys) ≡ rounds_of xs ++ rounds_of ys
rounds_append [] ys = refl
rounds_append (Message m ∷ xs) ys = rounds_append xs ys
rounds_append (Marker r ∷ xs) ys = ap (λ (v : List ℕ). r ∷ v) (rounds_append xs ys)

rounds_sent : (p q k : ℕ) (es : List Event) → rounds_of (items_sent p q k es) ≡ rounds_checked es
rounds_sent p q k [] = refl
rounds_sent p q k (Send to inc body ∷ es) =
    elim (to == q) as (λ b. rounds_of (cond b (Message (record { from = p; inc = inc; number = k })
    ∷ items_sent p q (suc k) es) (items_sent p q (suc k) es)) ≡ rounds_checked es) [
      | true ↦ rounds_sent p q (suc k) es
      | false ↦ rounds_sent p q (suc k) es
    ]
rounds_sent p q k (Recv m ∷ es) = rounds_sent p q k es
rounds_sent p q k (Check state None ∷ es) = rounds_sent p q k es
rounds_sent p q k (Check state (Some r) ∷ es) = ap (λ (v : List ℕ). r ∷ v) (rounds_sent p q k es)
rounds_sent p q k (Mark from r ∷ es) = rounds_sent p q k es

-- a marker among them is of one of these rounds
round_any : (r : ℕ) (items : List Item) → list_any (is_marker r) items ≡ true
    → Contains (rounds_of items) r
round_any r [] t = absurd (cc)
round_any r (Message m ∷ items) t = round_any r items t
round_any r (Marker s ∷ items) t = elim (or_cases (s == r) (list_any (is_marker r) items) t) [
  | inl here ↦ (0, omega arith, eqb-true s r here)
  | inr rest ↦ let c = round_any r items rest in (suc c.0, omega (arith, c.1), c.2)
]

round_in : (r : ℕ) (items : List Item) → Contains items (Marker r) → Contains (rounds_of items) r
round_in r [] (k, l, e) = absurd (omega arith)
round_in r (Message m ∷ items) (zero, l, e) = absurd (cc)
round_in r (Message m ∷ items) (suc k, l, e) = round_in r items (k, omega arith, e)
round_in r (Marker s ∷ items) (zero, l, e) = let same : s ≡ r = cc e in (0, omega arith, same)
round_in r (Marker s ∷ items) (suc k, l, e) =
    let c = round_in r items (k, omega arith, e) in (suc c.0, omega (arith, c.1), c.2)

message_in : (m : MsgName) (items : List Item) → Contains items (Message m) → In m (messages items)
message_in m [] (k, l, e) = absurd (omega arith)
message_in m (Message w ∷ items) (zero, l, e) = let same : w ≡ m = cc e in inl same
message_in m (Message w ∷ items) (suc k, l, e) = inr (message_in m items (k, omega arith, e))
message_in m (Marker s ∷ items) (zero, l, e) = absurd (cc)
message_in m (Marker s ∷ items) (suc k, l, e) = message_in m items (k, omega arith, e)

-- of distinct numbers none is on both sides
both_in : (xs ys : List ℕ) (r : ℕ) → AreDistinct (xs ++ ys) → Contains xs r → Contains ys r → ⊥
both_in xs ys r distinct (i, l, e) (j, m, f) =
    distinct i (length xs + j) r (omega (arith, l)) (omega (arith, m, length-append xs ys))
    (get_or_append_left xs ys r i l ∙ e ∙ sym (get_or-append-add xs ys j r ∙ f))

any_drop : (f : Event → Bool) (k : ℕ) (xs : List Event) → list_any f (drop k xs) ≡ true
    → list_any f xs ≡ true
any_drop f zero xs t = t
any_drop f (suc k) [] t = t
any_drop f (suc k) (x ∷ xs) t = or_right (f x) (list_any f xs) (any_drop f k xs t)

-- a mark is the receipt of a marker
received_has : (r p : ℕ) (es : List Event) → list_any (is_mark_of p r) es ≡ true
    → list_any (is_marker r) (filter_map (item_received p) es) ≡ true
received_has r p [] t = t
received_has r p (Send to inc body ∷ es) t = received_has r p es t
received_has r p (Recv m ∷ es) t =
    elim (m.from == p) as (λ b. list_any (is_marker r)
    (cons_option (cond b (Some (Message m)) None) (filter_map (item_received p) es)) ≡ true) [
      | true ↦ received_has r p es t
      | false ↦ received_has r p es t
    ]
received_has r p (Check state s ∷ es) t = received_has r p es t
received_has r p (Mark from s ∷ es) t =
    elim (or_cases ((from == p) && (s == r)) (list_any (is_mark_of p r) es) t) [
      | inl here ↦
          let parts = and_parts (from == p) (s == r) here in
          ap (λ b. list_any (is_marker r)
          (cons_option (cond b (Some (Marker s)) None) (filter_map (item_received p) es))) parts.0 ∙
          or_left (s == r) (list_any (is_marker r) (filter_map (item_received p) es)) parts.1
      | inr rest ↦ elim (from == p) as (λ b. list_any (is_marker r)
          (cons_option (cond b (Some (Marker s)) None) (filter_map (item_received p) es)) ≡ true) [
            | true ↦ or_right (s == r) (list_any (is_marker r) (filter_map (item_received p) es))
                (received_has r p es rest)
            | false ↦ received_has r p es rest
          ]
    ]

-- a marker that was received is on its link no more
no_marker : (history : List Process) → IsFitFifo history → (p q r : ℕ)
    → has_mark_of p r (tape_at history q) ≡ true → Contains (link history p q) (Marker r) → ⊥
no_marker history fit p q r marked on =
    let tape : List Event = tape_at history q in
    let got : List Item = received_from history q p in
    let parts : rounds_checked (tape_at history p) ≡ rounds_of got ++ rounds_of (link history p q) =
    sym (rounds_sent p q 0 (tape_at history p)) ∙ ap rounds_of
    (sym (fit.order p q)) ∙ rounds_append got (link history p q) in
    both_in (rounds_of got) (rounds_of (link history p q)) r
    (subst (λ (xs : List ℕ). AreDistinct xs) parts (fit.rounds p))
    (round_any r got (received_has r p tape
    (any_drop (is_mark_of p r) (position_or_len (is_check_of r) tape + 1) tape marked)))
    (round_in r (link history p q) on)

-- a test that passes somewhere in a range
any_range : (f : ℕ → Bool) (a n v : ℕ) → a ≤ v → v < a + n → f v ≡ true
    → list_any f (range_with_len a n) ≡ true
any_range f a zero v l h t = absurd (omega arith)
any_range f a (suc n) v l h t = elim (cases_eq v a) [
  | inl same ↦ or_left (f a) (list_any f (range_with_len (a + 1) n)) (ap f (sym same) ∙ t)
  | inr other ↦ or_right (f a) (list_any f (range_with_len (a + 1) n))
      (any_range f (a + 1) n v (omega (arith, other)) (omega arith) t)
]

any_out : (f : ℕ → Bool) (a n : ℕ) → list_any f (range_with_len a n) ≡ true → (v : ℕ) × (f v ≡ true)
any_out f a zero t = absurd (false≢true t)
any_out f a (suc n) t = elim (or_cases (f a) (list_any f (range_with_len (a + 1) n)) t) [
  | inl here ↦ (a, here)
  | inr rest ↦ any_out f (a + 1) n rest
]

-- a round that is on a tape is begun
pub begun_has : (history : List Process) (p r : ℕ) → has_check_of r (tape_at history p) ≡ true
    → is_begun history r ≡ true
begun_has history p r has = elim (cases_lt p (length history)) [
  | inl within ↦ any_range (λ q. has_check_of r (tape_at history q)) 0 (length history) p
      (omega arith) (omega (arith, within)) has
  | inr past ↦ absurd (false≢true (sym (ap (has_check_of r) (tape_at-past history p past)) ∙ has))
]

-- what is known of the machine
record IsKnown (floor : Floor) (machine : Machine) : Type 0 where
  mode : machine.mode ≡ Fifo
  fit : IsFitFifo machine.history
  marked : length machine.marks.damaged ≡ length machine.history
  greatest : (p r : ℕ) → has_check_of r (tape_at machine.history p) ≡ true → r ≤ machine.last_round
  others : (p r : ℕ) → has_check_of r (tape_at machine.history p) ≡ true → r ≢ machine.last_round
      → is_completed_fifo machine.history r ≡ true
  idle : is_open machine ≡ false
  last : floor.round ≡ machine.last_round
  is : IsFloor machine.history floor
  stays : FloorSurvives machine.history machine.marks floor

module _ (floor : Floor) (machine : Machine) (may : IsKnown floor machine) where
  abbrev history : List Process
  history = machine.history

  fit : IsFitFifo history
  fit = may.fit

  completed_is : (r : ℕ) → is_completed machine.mode history r ≡ is_completed_fifo history r
  completed_is r = ap (λ (m : Mode). is_completed m history r) may.mode

  -- a round that is on a tape is completed
  completed_all : (p r : ℕ) → has_check_of r (tape_at history p) ≡ true
      → is_completed_fifo history r ≡ true
  completed_all p r has = elim (cases_eq r machine.last_round) [
    | inl same ↦
        let begun : is_begun history machine.last_round
        ≡ true = ap (is_begun history) (sym same) ∙ begun_has history p r has in
        let done : is_completed machine.mode history machine.last_round
        ≡ true = not-false (is_completed machine.mode history machine.last_round) (sym (ap (λ b.
        b && not (is_completed machine.mode history machine.last_round)) begun) ∙ may.idle) in
        ap (is_completed_fifo history) same ∙ sym (completed_is machine.last_round) ∙ done
    | inr other ↦ may.others p r has other
  ]

  -- so no link holds a marker, nor a message that is let go
  module _ (p q : ℕ) where
    abbrev got : List Item
    got = received_from history q p

    all_sent : messages (sent_between history p q) ≡ messages got ++ messages (link history p q)
    all_sent =
        ap messages (sym (fit.order p q)) ∙ filter_map-append item_message got (link history p q)

    message_left : (m : MsgName) → Contains (link history p q) (Message m) → is_left floor m ≡ true
    message_left m on = elim (cases_lt m.number (lost_sends floor m.from)) [
      | inl below ↦
          let tape : List Event = tape_at history p in
          let other : List Event = tape_at history q in
          let n : ℕ = place other (choice_at (floor_line floor) q) in
          let in_link : In m (messages (link history p q)) = message_in m (link history p q) on in
          let in_sent : In m (messages (sent_between history p q)) = subst (In m) (sym all_sent)
          (In-append_right m (messages got) (messages (link history p q)) in_link) in
          let from_is : m.from ≡ p = sent_from p q 0 tape m in_sent in
          let both = sent_is p q 0 tape (incarnations_sent tape) (addressees tape) [] [] m (sym
          (append-nil (incarnations_sent tape))) (sym (append-nil (addressees tape))) in_sent in
          let sent : IsSentTo history q m = record {
            held = ap (λ v. slice_get (incarnations_sent (tape_at history v)) m.number) from_is ∙
                both.0;
            to_is = ap (λ v. slice_get (addressees (tape_at history v)) m.number) from_is ∙ both.1;
          } in
          let received : Contains other (Recv m) = subst (λ (es : List Event). Contains es (Recv m))
          (take-append-drop n other) (Contains-append_left (take n other) (drop n other)
          (Recv m) (may.is.received q m sent below)) in
          let in_got : In m (messages got) = in_received p other m
          (receipt_in other m received) from_is in
          absurd (not_in_both 0 (messages got) (messages (link history p q)) m
          (subst (Ascends 0) all_sent (sent_ascends p q 0 tape)) in_got in_link)
      | inr left ↦ le-leb (lost_sends floor m.from) m.number left
    ]

    item_left : q < length history → p < length history → p ≢ q → (item : Item)
        → Contains (link history p q) item → IsItemLeft floor item
    item_left lq lp other (Message m) on = message_left m on
    item_left lq lp other (Marker r) on =
        let done : is_completed_fifo history r
        ≡ true = completed_all p r (marker_checked history p q r on) in
        absurd (no_marker history fit p q r
        ((closed_parts history r q (completed_closed history r q done lq)).1 p lp other) on)

  known_beside : IsBeside floor machine
  known_beside = record {
    mode = may.mode;
    fit = fit;
    marked = may.marked;
    is = may.is;
    stays = may.stays;
    old = λ p.
        let tape : List Event = tape_at history p in
        let n : ℕ = place tape (choice_at (floor_line floor) p) in
        let rounds : List ℕ = rounds_checked (take n tape) in
        All-weaker (Contains rounds) (λ r. r ≤ floor.round)
        (λ r c. omega (
          arith,
          may.last,
          may.greatest p r (any_take (is_check_of r) tape n
              (check_in r (take n tape) c)),
        )) rounds (All-contains_itself rounds);
    round = omega (arith, may.last);
    greatest = may.greatest;
    links = λ p q lp lq other. All-weaker (Contains (link history p q)) (IsItemLeft floor)
        (item_left p q lq lp other) (link history p q) (All-contains_itself (link history p q));
    others = λ r other begun.
        let some = any_out (λ p. has_check_of r (tape_at history p)) 0 (length history) begun in
        may.others some.0 r some.1 other;
    closed = λ r low begun.
        let some = any_out (λ p. has_check_of r (tape_at history p)) 0 (length history) begun in
        completed_all some.0 r some.1;
  }

-- a machine whose rounds are as every run leaves them
pub begins_beside : (floor : Floor) (machine : Machine) → MayForget floor machine
    → IsBeside floor machine
begins_beside floor machine may = known_beside floor machine (record {
  mode = may.mode;
  fit = subst (λ (m : Mode). IsFitIn m machine.history) may.mode may.sound.fit;
  marked = may.marked;
  greatest = may.sound.greatest;
  others = λ p r has other. ap (λ (m : Mode). is_completed m machine.history r)
      (sym may.mode) ∙ may.sound.others p r has other;
  idle = may.idle;
  last = may.last;
  is = may.is;
  stays = may.stays;
})

-- one that has let go before
pub goes_on_beside : (floor further : Floor) (machine : Machine) → IsBeside floor machine
    → is_open machine ≡ false → further.round ≡ machine.last_round
    → IsFloor machine.history further → FloorSurvives machine.history machine.marks further
    → IsBeside further machine
goes_on_beside floor further machine beside idle last is stays =
    known_beside further machine (record {
      mode = beside.mode;
      fit = beside.fit;
      marked = beside.marked;
      greatest = beside.greatest;
      others = λ p r has other. beside.others r other (begun_has machine.history p r has);
      idle = idle;
      last = last;
      is = is;
      stays = stays;
    })
