-- Messages that a restart puts on queues: how many go to each, and the room there.
use Rattle.std.proofs.Common.{◌≡◌, ◌≢◌, ℕ, ◌+◌, ◌<◌, ◌≤◌, Bool, true, false, cond, List, [], ◌++◌}
use Rattle.std.proofs.Common.{length, take, drop, get_or, set, map, filter, Option, Some, None}
use Rattle.std.proofs.Common.{refl, sym, ap, ◌∙◌, subst, arith, inl, inr}
use Rattle.std.specs.Prelude.{◌==◌, ◌&&◌, ◌⊎◌, not}
use Rattle.std.specs.List.{All}
use Rattle.std.specs.Option.{option_eq}
use Rattle.std.proofs.lemmas.Bool.{cases_eq, cases_lt, eq-eqb, eqb-true, false_from_ne_true}
use Rattle.std.proofs.lemmas.List.{get_or_default, get_or_past, length-map, length-set}
use Rattle.std.proofs.lemmas.List.{get_or-set_same, get_or-set_other, take-append-drop, take_all}
use Rattle.std.proofs.lemmas.List.{length-append, length-take}
use Rattle.std.proofs.Math.ListN.{get_or-map}
use Rattle.std.proofs.lemmas.List.Elements.{filter-append, All-nil}
use Rattle.std.proofs.lemmas.List.Filters.{length-filter_both, length-filter_more}
use Rattle.line_names.specs.declared.messages.MsgName.{MsgName}
use Rattle.line_tape.specs.declared.items.Item.{Item}
use Rattle.line_tape.specs.History.{Process}
use Rattle.line_tape.specs.Transit.{addressee, goes_between}
use Rattle.line_rounds.specs.Tables.{between}
use Rattle.line_moves.specs.Worlds.{AreQueues, IsItemOf}
use Rattle.line_moves.specs.Rooms.{count_between, items_held, no_queue, queue_at, queue_to}
use Rattle.line_moves.specs.Rooms.{AreCountedOnQueues, AreEmpty, AreUncounted, HaveRoom, IsCounted}
use Rattle.line_moves.specs.Rooms.{QueueView}

-- two places, or one
pub pair_cases : (p q a b : ℕ) → ((p ≡ a) × (q ≡ b)) ⊎ ((p ≡ a) × (q ≡ b) → ⊥)
pair_cases p q a b = elim (cases_eq p a) [
  | inl p_same ↦ elim (cases_eq q b) [
    | inl q_same ↦ inl (p_same, q_same)
    | inr q_other ↦ inr (λ e. q_other e.1)
  ]
  | inr p_other ↦ inr (λ e. p_other e.0)
]

-- one queue of a row is written
module _ (row old : List QueueView) (k to : ℕ) (seen : row ≡ old) (at : k ≡ to) where
  pub queue-read : (queue : QueueView) → k < length row → queue ≡ get_or row k queue
      → queue ≡ queue_to old to
  queue-read queue within is = is ∙ get_or_default row k queue no_queue within ∙ ap
      (λ (i : ℕ). queue_to row i) at ∙ ap (λ (xs : List QueueView). queue_to xs to) seen

  pub queue-written : (new : QueueView) → k < length row → queue_to (set row k new) to ≡ new
  queue-written new within = ap (λ (i : ℕ). queue_to (set row k new) i)
      (sym at) ∙ get_or-set_same row k new no_queue within

  pub queue-other : (new : QueueView) (q : ℕ) → q ≢ to → queue_to (set row k new) q ≡ queue_to old q
  queue-other new q apart = get_or-set_other row k q new no_queue (λ e. apart (e ∙ at)) ∙ ap
      (λ (xs : List QueueView). queue_to xs q) seen

-- one row is written
module _ (rows : List (List QueueView)) (p : ℕ) (old row : List QueueView)
    (within : p < length rows) (at : old ≡ get_or rows p old) where
  pub row-read : (q : ℕ) → queue_to old q ≡ queue_at rows p q
  row-read q =
      ap (λ (xs : List QueueView). queue_to xs q) (at ∙ get_or_default rows p old [] within)

  pub row-written : (q : ℕ) → queue_at (set rows p row) p q ≡ queue_to row q
  row-written q = ap (λ (xs : List QueueView). queue_to xs q) (get_or-set_same rows p row [] within)

  pub row-others : (to : ℕ) → ((q : ℕ) → q ≢ to → queue_to row q ≡ queue_to old q) → (a b : ℕ)
      → ((a ≡ p) × (b ≡ to) → ⊥) → queue_at (set rows p row) a b ≡ queue_at rows a b
  row-others to others a b apart = elim (cases_eq a p) [
    | inl same ↦ subst (λ (v : ℕ). queue_at (set rows p row) v b ≡ queue_at rows v b) (sym same)
        (row-written b ∙ others b (λ e. apart (same, e)) ∙ row-read b)
    | inr other ↦ ap (λ (xs : List QueueView). queue_to xs b)
        (get_or-set_other rows p a row [] other)
  ]

-- what the queues of a row hold
items-to : (row : List QueueView) (q : ℕ) → get_or (items_held row) q [] ≡ (queue_to row q).held
items-to row q = get_or-map (λ (queue : QueueView). queue.held) row q no_queue

column-length : (rows : List (List QueueView)) (p : ℕ)
    → length (get_or (map items_held rows) p []) ≡ length (get_or rows p [])
column-length rows p = ap (λ (xs : List (List Item)). length xs) (get_or-map items_held rows p []) ∙
    length-map (get_or rows p []) (λ (queue : QueueView). queue.held)

-- a row of queues has one to each process
pub row-length : (history : List Process) (rows : List (List QueueView))
    → AreQueues history (map items_held rows) → (p : ℕ) → p < length history
    → (row : List QueueView) → row ≡ get_or rows p row → length row ≡ length history
row-length history rows are p within row at =
    ap (λ (xs : List QueueView). length xs) (at ∙ get_or_default rows p row []
    (omega (arith, within, are.shape.rows, length-map rows items_held)))
    ∙ sym (column-length rows p)
    ∙ are.shape.columns p within

-- where a message goes
eq_some : (o : Option ℕ) (q : ℕ) → option_eq ◌==◌ o (Some q) ≡ true → o ≡ Some q
eq_some None q e = absurd (cc)
eq_some (Some x) q e = ap (λ (v : ℕ). Some v) (eqb-true x q e)

both_parts : (a b : Bool) → (a && b) ≡ true → (a ≡ true) × (b ≡ true)
both_parts true b e = (refl, e)
both_parts false b e = absurd (cc)

module _ (history : List Process) (message : MsgName) where
  goes_nowhere : addressee history message ≡ None → (p q : ℕ)
      → goes_between history p q message ≡ true → ⊥
  goes_nowhere none p q goes =
      let to = eq_some (addressee history message) q (both_parts (message.from == p)
      (option_eq ◌==◌ (addressee history message) (Some q)) goes).1 in
      absurd (cc)

  module _ (to : ℕ) (named : addressee history message ≡ Some to) where
    goes_there : goes_between history message.from to message ≡ true
    goes_there =
        ap (λ (o : Option ℕ). (message.from == message.from) && option_eq ◌==◌ o (Some to)) named
        ∙ ap (λ b. b && (to == to)) (eq-eqb message.from message.from refl)
        ∙ eq-eqb to to refl

    only_there : (p q : ℕ) → goes_between history p q message ≡ true → (p ≡ message.from) × (q ≡ to)
    only_there p q goes =
        let parts = both_parts (message.from == p)
        (option_eq ◌==◌ (addressee history message) (Some q)) goes in
        let from : message.from ≡ p = eqb-true message.from p parts.0 in
        let there : addressee history message
        ≡ Some q = eq_some (addressee history message) q parts.1 in
        (sym from, cc)

module _ (history : List Process) (messages : List MsgName) where
  -- of all messages that go there
  pub count-most : (i p q : ℕ)
      → count_between history messages i p q ≤ length (filter (goes_between history p q) messages)
  count-most i p q =
      let test : MsgName → Bool = goes_between history p q in
      let all : length (filter test messages)
      ≡ length (filter test (take i messages) ++ filter test (drop i messages)) =
      ap (λ (ms : List MsgName). length (filter test ms)) (sym (take-append-drop i messages)) ∙ ap
      (λ (ms : List MsgName). length ms)
      (filter-append test (take i messages) (drop i messages)) in
      omega (
        arith,
        all,
        length-append (filter test (take i messages))
            (filter test (drop i messages)),
      )

  -- of the first i messages at most i go there
  pub count-first : (i p q : ℕ) → count_between history messages i p q ≤ i
  count-first i p q = omega (
    arith,
    length-filter_both (goes_between history p q)
        (λ m. not (goes_between history p q m)) (λ m. refl) (take i messages),
    length-take i messages,
  )

  -- there is room for what was counted
  pub HaveRoom-start : (rows new : List (List QueueView))
      → AreCountedOnQueues history messages (length messages) rows → ((p q : ℕ)
      → (queue_at rows p q).room ≤ (queue_at new p q).room) → HaveRoom history messages 0 new
  HaveRoom-start rows new are more p q =
      let all : count_between history messages (length messages) p q
      ≡ length (filter (goes_between history p q) messages) =
      ap (λ (ms : List MsgName). length (filter (goes_between history p q) ms))
      (take_all (length messages) messages (omega arith)) in
      omega (arith, all, are.room p q, more p q)

  pub AreUncounted-start : (rows : List (List QueueView)) → AreUncounted history messages 0 rows
  AreUncounted-start rows p q j m below is goes = absurd (omega (arith, below))

  pub AreCounted-start : (rows : List (List QueueView)) → AreUncounted history messages
      (length messages) rows → AreCountedOnQueues history messages 0 rows
  AreCounted-start rows none = record {
    counted = λ p q j m within is goes. none p q j m within is goes;
    room = λ p q. omega arith;
  }

  -- one message after another
  module _ (i : ℕ) (message : MsgName) (within : i < length messages)
      (is : message ≡ get_or messages i message) where
    same_message : (j : ℕ) (m : MsgName) → j ≡ i → m ≡ get_or messages j m → m ≡ message
    same_message j m same at = at ∙ ap
        (λ (k : ℕ). get_or messages k m) same ∙ get_or_default messages i m message within ∙ sym is

    count_next : (p q : ℕ) (b : Bool) → goes_between history p q message ≡ b → count_between history
        messages (i + 1) p q ≡ count_between history messages i p q + cond b 1 0
    count_next p q b goes =
        let test : MsgName → Bool = goes_between history p q in
        length-filter_more test messages i message within
        ∙ ap (λ (m : MsgName). count_between history messages i p q + cond (test m) 1 0) (sym is)
        ∙ ap (λ t. count_between history messages i p q + cond t 1 0) goes

    not_there : (p q : ℕ) → (goes_between history p q message ≡ true → ⊥)
        → count_between history messages (i + 1) p q ≡ count_between history messages i p q
    not_there p q away = let less = count_next p q false
        (false_from_ne_true (goes_between history p q message) away) in omega (arith, less)

    -- it goes nowhere
    module _ (none : addressee history message ≡ None) (rows : List (List QueueView)) where
      pub AreUncounted-none : AreUncounted history messages i rows
          → AreUncounted history messages (i + 1) rows
      AreUncounted-none before p q j m below at goes = elim (cases_eq j i) [
        | inl same ↦ absurd (goes_nowhere history message none p q (subst
            (λ (v : MsgName). goes_between history p q v ≡ true) (same_message j m same at) goes))
        | inr other ↦ before p q j m (omega (arith, below, other)) at goes
      ]

      pub AreCounted-none : AreCountedOnQueues history messages i rows
          → AreCountedOnQueues history messages (i + 1) rows
      AreCounted-none before = record {
        counted = λ p q j m below at goes. before.counted p q j m below at goes ∙ sym
            (not_there p q (goes_nowhere history message none p q));
        room = λ p q. omega
            (arith, before.room p q, not_there p q (goes_nowhere history message none p q));
      }

      pub HaveRoom-none : HaveRoom history messages i rows → HaveRoom history messages (i + 1) rows
      HaveRoom-none before p q =
          omega (arith, before p q, not_there p q (goes_nowhere history message none p q))

    -- it goes to a process, and the row of its sender is written
    module _ (to : ℕ) (named : addressee history message ≡ Some to) (rows : List (List QueueView))
        (old row : List QueueView) (row_within : message.from < length rows)
        (at_row : old ≡ get_or rows message.from old) where
      abbrev pub new : List (List QueueView)
      new = set rows message.from row

      here : (p q : ℕ) → (p ≡ message.from) × (q ≡ to) → queue_at new p q ≡ queue_to row to
      here p q e = ap (λ (v : ℕ). queue_at new v q) e.0 ∙ ap (λ (v : ℕ). queue_at new message.from
          v) e.1 ∙ row-written rows message.from old row row_within at_row to

      here-before : (p q : ℕ) → (p ≡ message.from) × (q ≡ to) → queue_at rows p q ≡ queue_to old to
      here-before p q e = ap (λ (v : ℕ). queue_at rows v q) e.0 ∙ ap (λ (v : ℕ). queue_at rows
          message.from v) e.1 ∙ sym (row-read rows message.from old row row_within at_row to)

      goes_here : (p q : ℕ) → (p ≡ message.from) × (q ≡ to)
          → goes_between history p q message ≡ true
      goes_here p q e =
          ap (λ (v : ℕ). goes_between history v q message) e.0 ∙ ap (λ (v : ℕ). goes_between history
          message.from v message) e.1 ∙ goes_there history message to named

      away : (p q : ℕ) → ((p ≡ message.from) × (q ≡ to) → ⊥)
          → goes_between history p q message ≡ true → ⊥
      away p q apart goes = apart (only_there history message to named p q goes)

      -- none is counted there
      pub AreUncounted-more : ((q : ℕ) → q ≢ to → queue_to row q ≡ queue_to old q)
          → (queue_to row to).counted ≡ 0 → AreUncounted history messages i rows
          → AreUncounted history messages (i + 1) new
      AreUncounted-more others zero before p q j m below at goes =
          elim (pair_cases p q message.from to) [
            | inl e ↦ ap (λ (v : QueueView). v.counted) (here p q e) ∙ zero
            | inr apart ↦ elim (cases_eq j i) [
              | inl same ↦ absurd (away p q apart (subst
                  (λ (v : MsgName). goes_between history p q v ≡ true)
                  (same_message j m same at) goes))
              | inr other ↦ ap (λ (v : QueueView). v.counted)
                  (row-others rows message.from old row row_within at_row to others p q apart) ∙
                  before
                  p q j m (omega (arith, below, other)) at goes
            ]
          ]

      -- what was counted on its queue before
      pub counted-before : AreCountedOnQueues history messages i rows
          → (queue_to old to).counted ≡ count_between history messages i message.from to
      counted-before before = ap (λ (v : QueueView). v.counted)
          (row-read rows message.from old row row_within at_row to) ∙ before.counted message.from to
          i message within is (goes_there history message to named)

      -- it is counted there
      pub AreCounted-more : IsCounted to old row → AreCountedOnQueues history messages i rows
          → AreCountedOnQueues history messages (i + 1) new
      AreCounted-more one before = record {
        counted = λ p q j m below at goes. elim (pair_cases p q message.from to) [
          | inl e ↦
              let now = ap (λ (v : QueueView). v.counted) (here p q e) in
              let then = ap (λ (v : QueueView). v.counted) (here-before p q e) in
              omega (
                arith,
                now,
                then,
                one.more,
                before.counted p q j m below at goes,
                count_next p
                    q true (goes_here p q e),
              )
          | inr apart ↦ ap (λ (v : QueueView). v.counted)
              (row-others rows message.from old row row_within at_row to one.others p q apart)
              ∙ before.counted p q j m below at goes ∙ sym (not_there p q (away p q apart))
        ];
        room = λ p q. elim (pair_cases p q message.from to) [
          | inl e ↦
              let now = ap (λ (v : QueueView). v.room) (here p q e) in
              let then = ap (λ (v : QueueView). v.counted) (here-before p q e) in
              let known = before.counted p q i message within is (goes_here p q e) in
              omega (arith, now, then, known, one.room, count_next p q true (goes_here p q e))
          | inr apart ↦
              let same = ap (λ (v : QueueView). v.room) (row-others rows message.from old row
              row_within at_row to one.others p q apart) in
              omega (arith, same, before.room p q, not_there p q (away p q apart))
        ];
      }

      -- there is room for it
      pub room-there : HaveRoom history messages i rows → 0 < (queue_to old to).room
      room-there before =
          let same = ap (λ (v : QueueView). v.room)
          (row-read rows message.from old row row_within at_row to) in
          let one = count_next message.from to true (goes_there history message to named) in
          let most = count-most (i + 1) message.from to in
          omega (arith, before message.from to, same, one, most)

      -- it is put there
      pub HaveRoom-more : ((q : ℕ) → q ≢ to → queue_to row q ≡ queue_to old q)
          → (queue_to row to).room + 1 ≡ (queue_to old to).room → HaveRoom history messages i rows
          → HaveRoom history messages (i + 1) new
      HaveRoom-more others less before p q = elim (pair_cases p q message.from to) [
        | inl e ↦
            let now = ap (λ (v : QueueView). v.room) (here p q e) in
            let then = ap (λ (v : QueueView). v.room) (here-before p q e) in
            omega (arith, now, then, less, before p q, count_next p q true (goes_here p q e))
        | inr apart ↦
            let same = ap (λ (v : QueueView). v.room)
            (row-others rows message.from old row row_within at_row to others p q apart) in
            omega (arith, same, before p q, not_there p q (away p q apart))
      ]

-- the first q queues are empty, and none has less room than before
pub record AreCleared (q : ℕ) (old row : List QueueView) : Type 0 where
  pub count : length row ≡ length old
  pub empty : (k : ℕ) → k < q → (queue_to row k).held ≡ []
  pub room : (k : ℕ) → (queue_to old k).room ≤ (queue_to row k).room

pub AreCleared-more : (q : ℕ) (old row : List QueueView) → AreCleared q old row → q < length row
    → (before new : QueueView) → before ≡ get_or row q before → new.held ≡ []
    → before.room ≤ new.room → AreCleared (q + 1) old (set row q new)
AreCleared-more q old row is within before new at none more = record {
  count = length-set row q new ∙ is.count;
  empty = λ k below. elim (cases_eq k q) [
    | inl same ↦ ap (λ (v : QueueView). v.held) (ap (λ (j : ℕ). queue_to (set row q new) j) same ∙
        get_or-set_same row q new no_queue within) ∙ none
    | inr other ↦ ap (λ (v : QueueView). v.held)
        (get_or-set_other row q k new no_queue other) ∙ is.empty k (omega (arith, below, other))
  ];
  room = λ k. elim (cases_eq k q) [
    | inl same ↦
        let written = ap (λ (v : QueueView). v.room) (ap (λ (j : ℕ). queue_to (set row q new) j)
        same ∙ get_or-set_same row q new no_queue within) in
        let read = ap (λ (v : QueueView). v.room) (at ∙ get_or_default row q before no_queue within
        ∙ ap (λ (j : ℕ). queue_to row j) (sym same)) in
        omega (arith, written, read, more, is.room k)
    | inr other ↦
        let kept = ap (λ (v : QueueView). v.room) (get_or-set_other row q k new no_queue other) in
        omega (arith, kept, is.room k)
  ];
}

-- past the last of them
pub AreCleared-end : (q : ℕ) (old row : List QueueView) → AreCleared q old row → length row ≤ q
    → AreEmpty row
AreCleared-end q old row is past k = items-to row k ∙ elim (cases_lt k (length row)) [
  | inl within ↦ is.empty k (omega (arith, within, past))
  | inr out ↦ ap (λ (v : QueueView). v.held) (get_or_past row k no_queue out)
]

-- the queues of the first p rows are empty, and none has less room than before
pub record AreRowsCleared (p : ℕ) (old rows : List (List QueueView)) : Type 0 where
  pub count : length rows ≡ length old
  pub columns : (a : ℕ) → length (get_or rows a []) ≡ length (get_or old a [])
  pub empty : (a : ℕ) → a < p → AreEmpty (get_or rows a [])
  pub room : (a q : ℕ) → (queue_at old a q).room ≤ (queue_at rows a q).room

pub AreRowsCleared-start : (rows : List (List QueueView)) → AreRowsCleared 0 rows rows
AreRowsCleared-start rows = record {
  count = refl;
  columns = λ a. refl;
  empty = λ a below. absurd
      (omega (arith, below));
  room = λ a q. omega arith;
}

pub AreRowsCleared-more : (p : ℕ) (old rows : List (List QueueView)) → AreRowsCleared p old rows
    → p < length rows → (before new : List QueueView) → before ≡ get_or rows p before → AreEmpty new
    → length new ≡ length before
    → ((q : ℕ) → (queue_to before q).room ≤ (queue_to new q).room)
    → AreRowsCleared (p + 1) old (set rows p new)
AreRowsCleared-more p old rows is within before new at none count more =
    let read : before ≡ get_or rows p [] = at ∙ get_or_default rows p before [] within in
    let there : get_or (set rows p new) p [] ≡ new = get_or-set_same rows p new [] within in
    record {
      count = length-set rows p new ∙ is.count;
      columns = λ a. elim (cases_eq a p) [
        | inl same ↦ subst
            (λ (v : ℕ). length (get_or (set rows p new) v []) ≡ length (get_or old v [])) (sym same)
            (ap (λ (xs : List QueueView). length xs) there ∙ count ∙ ap
            (λ (xs : List QueueView). length xs) read ∙ is.columns p)
        | inr other ↦ ap (λ (xs : List QueueView). length xs)
            (get_or-set_other rows p a new [] other) ∙ is.columns a
      ];
      empty = λ a below. elim (cases_eq a p) [
        | inl same ↦ subst (λ (v : ℕ). AreEmpty (get_or (set rows p new) v [])) (sym same)
            (subst AreEmpty (sym there) none)
        | inr other ↦ subst AreEmpty (sym (get_or-set_other rows p a new [] other))
            (is.empty a (omega (arith, below, other)))
      ];
      room = λ a q. elim (cases_eq a p) [
        | inl same ↦ subst
            (λ (v : ℕ). (queue_at old v q).room ≤ (queue_at (set rows p new) v q).room) (sym same)
            (omega (
              arith,
              is.room p q,
              more q,
              ap (λ (xs : List QueueView). (queue_to xs q).room)
                  read,
              ap (λ (xs : List QueueView). (queue_to xs q).room) there,
            ))
        | inr other ↦ omega (
          arith,
          is.room a q,
          ap (λ (xs : List QueueView). (queue_to xs q).room)
              (get_or-set_other rows p a new [] other),
        )
      ];
    }

-- past the last of them
module _ (p : ℕ) (old rows : List (List QueueView)) (is : AreRowsCleared p old rows)
    (past : length rows ≤ p) where
  pub none-between : (a q : ℕ) → between (map items_held rows) a q ≡ []
  none-between a q = ap (λ (row : List (List Item)). get_or row q [])
      (get_or-map items_held rows a []) ∙ elim (cases_lt a (length rows)) [
        | inl within ↦ is.empty a (omega (arith, within, past)) q
        | inr out ↦ ap (λ (row : List QueueView). get_or (items_held row) q [])
            (get_or_past rows a [] out)
      ]

  pub AreQueues-cleared : (history : List Process) → AreQueues history (map items_held old)
      → AreQueues history (map items_held rows)
  AreQueues-cleared history are = record {
    shape = record {
      rows =
          length-map rows items_held ∙ is.count ∙ sym (length-map old items_held) ∙ are.shape.rows;
      columns = λ a within. column-length rows a ∙ is.columns a ∙ sym
          (column-length old a) ∙ are.shape.columns a within;
    };
    messages = λ a q. subst (λ (xs : List Item). All (IsItemOf a) xs) (sym (none-between a q))
        (All-nil (IsItemOf a));
  }
