-- How many messages are in transit, from whom to whom; and one sender after another.
use Rattle.std.proofs.Common.{cond, zero, suc, true, false, Bool, ◌≡◌, ◌∙◌, ◌+◌, ◌<◌, ◌≤◌, ◌++◌}
use Rattle.std.proofs.Common.{◌∷◌, [], ℕ, List, Option, Some, length, get_or, set, replicate, refl}
use Rattle.std.proofs.Common.{sym, ap, subst, inl, inr, arith}
use Rattle.std.specs.Prelude.{slice_get, All, ◌==◌, ◌&&◌}
use Rattle.std.specs.List.{filter}
use Rattle.std.specs.Option.{option_eq}
use Rattle.std.proofs.lemmas.Bool.{cases_eq, cases_lt, eq-eqb, ne_eqb}
use Rattle.std.proofs.lemmas.List.{length-append, length-replicate, length-set, get_or-replicate}
use Rattle.std.proofs.lemmas.List.{get_or-set_same, get_or-set_other, get_or_past}
use Rattle.std.proofs.lemmas.List.Elements.{filter-append, All-head, All-tail}
use Rattle.std.proofs.lemmas.Option.{same_Some}
use Rattle.line_names.specs.declared.messages.MsgName.{MsgName}
use Rattle.line_tape.specs.declared.events.Event.{Event}
use Rattle.line_tape.specs.declared.events.Event.TheVariants.{Send, Recv, Check, Mark}
use Rattle.line_tape.specs.Event.{NamesBelow}
use Rattle.line_tape.specs.History.{Process, fresh, tape_at, IsHistory}
use Rattle.line_tape.specs.Transit.{addressee, addressees, goes_between}
use Rattle.line_tape.proofs.LineLemmas.{tape_at-past}
use Rattle.line_posts.specs.Ends.{row_at}
use Rattle.line_posts.specs.declared.parcels.Packet.{Packet}
use Rattle.line_posts.specs.Openings.{parcels_left}
use Rattle.line_posts.specs.Parcels.{parcels_of}
use Rattle.line_posts.specs.Replays.{cell_at, total, with_cell, AreAllReplays, AreCounted}
use Rattle.line_posts.specs.Replays.{AreOfSender, AreSquare}
use Rattle.line_posts.proofs.ReplayLemmas.{replays_all}
use Rattle.line_posts.proofs.SortLemmas.{cell_same, cell_apart, cell_beside, square_cell}
use Rattle.line_posts.proofs.SortLemmas.{total_least, total_more, total_none}

-- who a message goes to is one of the processes, and so is its sender
addressed : (n k q : ℕ) (tape : List Event) → All (NamesBelow n) tape
    → slice_get (addressees tape) k ≡ Some q → q < n
addressed n k q [] all e = cc e
addressed n zero q (Send to inc body ∷ es) all e =
    subst (λ v. v < n) (same_Some to q e) (All-head (NamesBelow n) (Send to inc body) es all)
addressed n (suc k) q (Send to inc body ∷ es) all e =
    addressed n k q es (All-tail (NamesBelow n) (Send to inc body) es all) e
addressed n k q (Recv message ∷ es) all e =
    addressed n k q es (All-tail (NamesBelow n) (Recv message) es all) e
addressed n k q (Check state round ∷ es) all e =
    addressed n k q es (All-tail (NamesBelow n) (Check state round) es all) e
addressed n k q (Mark from round ∷ es) all e =
    addressed n k q es (All-tail (NamesBelow n) (Mark from round) es all) e

pub goes_within : (history : List Process) (message : MsgName) (q : ℕ) → IsHistory history
    → addressee history message ≡ Some q → (message.from < length history) × (q < length history)
goes_within history message q is e = elim (cases_lt message.from (length history)) [
  | inl lt ↦ (
    lt,
    addressed (length history) message.number q (tape_at history message.from)
        (is.processes message.from fresh lt).named e,
  )
  | inr past ↦ (let none = ap (λ (t : List Event). slice_get (addressees t) message.number)
      (tape_at-past history message.from past) in cc (none, e))
]

-- no message
pub counted_none : (history : List Process) (n : ℕ) (counts : List (List ℕ)) (sums : List ℕ)
    → n ≡ length history → counts ≡ replicate n (replicate n 0) → sums ≡ replicate n 0
    → AreCounted history [] counts sums
counted_none history n counts sums en ec es = rw (ec, es) (record {
  square = record {
    count = length-replicate n (replicate n 0) ∙ en;
    each = λ q lt. ap length (get_or-replicate n q (replicate n 0) [] (omega (arith, lt, en))) ∙
        (length-replicate {A = ℕ} n 0 ∙ en);
  };
  each = λ p q lp lq. ap (λ r. get_or r q 0) (get_or-replicate n p (replicate n 0) []
      (omega (arith, lp, en))) ∙ get_or-replicate {A = ℕ} n q 0 0 (omega (arith, lq, en));
  sum_count = length-replicate {A = ℕ} n 0 ∙ en;
  sum = λ p lt. get_or-replicate {A = ℕ} n p 0 0 (omega (arith, lt, en)) ∙ sym
      (ap total (get_or-replicate n p (replicate n 0) [] (omega (arith, lt, en))) ∙ total_none n);
  few = λ p. elim (cases_lt p n) [
    | inl lt ↦ (let z = get_or-replicate {A = ℕ} n p 0 0 lt in omega (arith, z))
    | inr past ↦ (let l = length-replicate {A = ℕ} n 0 in let z = get_or_past {X = ℕ}
        (replicate n 0) p 0 (omega (arith, past, l)) in omega (arith, z))
  ];
})

-- one message more
module _ (history : List Process) (messages : List MsgName) (message : MsgName) where
  grown : (p q : ℕ) (b : Bool) → goes_between history p q message ≡ b
      → length (filter (goes_between history p q) (messages ++ message ∷ []))
      ≡ length (filter (goes_between history p q) messages) + cond b 1 0
  grown p q b e =
      ap length (filter-append (goes_between history p q) messages (message ∷ []))
      ∙ (length-append (filter (goes_between history p q) messages)
      (filter (goes_between history p q) (message ∷ []))
      ∙ ap (λ n. length (filter (goes_between history p q) messages) + n)
      (ap (λ t. length (cond t (message ∷ []) [])) e ∙ elim b as
      (λ t. length (cond t (message ∷ []) []) ≡ cond t 1 0) [ true ↦ refl | false ↦ refl ]))

  longer : length (messages ++ message ∷ []) ≡ length messages + 1
  longer = length-append messages (message ∷ [])

  pub counted_more : (q : ℕ) (counts counts' : List (List ℕ)) (sums sums' : List ℕ)
      → addressee history message ≡ Some q → message.from < length history → q < length history
      → counts' ≡ with_cell counts message.from q (cell_at 0 counts message.from q + 1)
      → sums' ≡ set sums message.from (get_or sums message.from 0 + 1)
      → AreCounted history messages counts sums
      → AreCounted history (messages ++ message ∷ []) counts' sums'
  counted_more q counts counts' sums sums' named from to ec es h =
      let p = message.from in
      let c = h.square.count in
      let r = h.square.each p from in
      let s = h.sum_count in
      let more = cell_at 0 counts p q + 1 in
      let goes : (a b : ℕ) → goes_between history a b message ≡ ((p == a) && (q == b)) = λ a b. ap
      (λ (o : Option ℕ). (p == a) && option_eq ◌==◌ o (Some b)) named in
      rw (ec, es) (record {
        square = square_cell (length history) counts p q more from h.square;
        each = λ a b la lb. elim (cases_eq a p) [
          | inl same ↦ elim (cases_eq b q) [
            | inl here ↦ (
                let yes : goes_between history a b message ≡ true = goes a b ∙
                (ap (λ t. t && (q == b)) (eq-eqb p a (sym same)) ∙ eq-eqb q b (sym here)) in
                let g = grown a b true yes in
                let e = h.each a b la lb in
                let x : cell_at 0 (with_cell counts p q more) a b
                ≡ more = ap (λ v. cell_at 0 (with_cell counts p q more) v b) same ∙
                (ap (λ v. cell_at 0 (with_cell counts p q more) p v) here ∙ cell_same 0 counts p
                q more (omega (arith, c, from)) (omega (arith, r, to))) in
                let y : cell_at 0 counts a b ≡ cell_at 0 counts p q = ap
                (λ v. cell_at 0 counts v b) same ∙ ap (λ v. cell_at 0 counts p v) here in
                omega (arith, g, e, x, y))
            | inr other ↦ (
                let no : goes_between history a b message ≡ false = goes a b ∙ (ap (λ t. t
                && (q == b)) (eq-eqb p a (sym same)) ∙ ne_eqb q b (λ v. other (sym v))) in
                let g = grown a b false no in
                let e = h.each a b la lb in
                let x = cell_beside 0 counts p q a b more (omega (arith, c, from)) other in
                omega (arith, g, e, x))
          ]
          | inr apart ↦ (
              let no : goes_between history a b message
              ≡ false = goes a b ∙ ap (λ t. t && (q == b)) (ne_eqb p a (λ v. apart (sym v))) in
              let g = grown a b false no in
              let e = h.each a b la lb in
              let x = cell_apart 0 counts p q a b more apart in
              omega (arith, g, e, x))
        ];
        sum_count = length-set sums p (get_or sums p 0 + 1) ∙ h.sum_count;
        sum = λ a la. elim (cases_eq a p) [
          | inl same ↦ (
              let x = get_or-set_same sums p (get_or sums p 0 + 1) 0 (omega (arith, s, from)) in
              let row = get_or-set_same counts p (set (row_at counts p) q more) []
              (omega (arith, c, from)) in
              let y = total_more (row_at counts p) q (omega (arith, r, to)) in
              let e = h.sum p from in
              let z : total (row_at (with_cell counts p q more) p)
              ≡ total (row_at counts p) + 1 = ap total row ∙ y in
              subst (λ v. get_or (set sums p (get_or sums p 0 + 1)) v 0 ≡ total
              (row_at (with_cell counts p q more) v)) (sym same) (omega (arith, x, e, z)))
          | inr apart ↦ get_or-set_other sums p a (get_or sums p 0 + 1) 0 apart ∙ (h.sum a la ∙ sym
              (ap total (get_or-set_other counts p a (set (row_at counts p) q more) [] apart)))
        ];
        few = λ a. elim (cases_eq a p) [
          | inl same ↦ (
              let x : get_or (set sums p (get_or sums p 0 + 1)) a 0
              ≡ get_or sums p 0 + 1 = ap (λ v. get_or (set sums p (get_or sums p 0 + 1)) v 0)
              same ∙ get_or-set_same sums p (get_or sums p 0 + 1) 0 (omega (arith, s, from)) in
              let f = h.few p in
              omega (arith, x, f, longer))
          | inr apart ↦ (let x = get_or-set_other sums p a
              (get_or sums p 0 + 1) 0 apart in let f = h.few a in omega (arith, x, f, longer))
        ];
      })

  -- there are few enough
  pub few_between : (p q : ℕ) (counts : List (List ℕ)) (sums : List ℕ) → p < length history
      → AreCounted history messages counts sums → cell_at 0 counts p q ≤ length messages
  few_between p q counts sums lt h = (let a = total_least
      (row_at counts p) q in let b = h.sum p lt in let f = h.few p in omega (arith, a, b, f))

-- the senders up to p are done, and nothing is of those after them
pub record AreLeft (gathered history : List Process) (messages : List MsgName) (n p : ℕ)
    (counts : List (List ℕ)) (sums : List ℕ) (packets : List (List (List Packet))) : Type 0 where
  pub count : length counts ≡ n
  pub rows : (k : ℕ) → p ≤ k → k < n → length (row_at counts k) ≡ n
  pub each : (k q : ℕ) → p ≤ k → k < n → q < n
      → cell_at 0 counts k q ≡ length (filter (goes_between gathered k q) messages)
  pub sum_count : length sums ≡ n
  pub sum : (k : ℕ) → p ≤ k → k < n → get_or sums k 0 ≡ total (row_at counts k)
  pub square : AreSquare n packets
  pub none : (q k : ℕ) → p ≤ k → k < n → q < n → cell_at [] packets q k ≡ []
  pub done : (q k : ℕ) → k < p → q < n
      → parcels_of (cell_at [] packets q k) ≡ parcels_left history k q

pub left_step : (gathered history : List Process) (messages : List MsgName) (n p : ℕ)
    (counts counts' : List (List ℕ)) (row : List ℕ) (sums : List ℕ)
    (packets packets' : List (List (List Packet))) → p < n
    → AreLeft gathered history messages n p counts sums packets → counts' ≡ set counts p row
    → AreOfSender n p packets packets'
    → ((q : ℕ) → q < n → parcels_of (cell_at [] packets' q p) ≡ parcels_left history p q)
    → AreLeft gathered history messages n (p + 1) counts' sums packets'
left_step gathered history messages n p counts counts' row sums packets packets' within h ec o new =
    let later : (k : ℕ) → p + 1 ≤ k → row_at (set counts p row) k ≡ row_at counts k = λ k le.
    get_or-set_other counts p k row [] (λ e. omega (arith, e, le)) in
    rw ec (record {
      count = length-set counts p row ∙ h.count;
      rows = λ k le lt. ap length (later k le) ∙ h.rows k (omega (arith, le)) lt;
      each = λ k q le lt lq. ap (λ r. get_or r q 0) (later k le) ∙ h.each k q
          (omega (arith, le)) lt lq;
      sum_count = h.sum_count;
      sum = λ k le lt. h.sum k (omega (arith, le)) lt ∙ sym (ap total (later k le));
      square = o.square;
      none = λ q k le lt lq. o.same q k (λ e. omega (arith, e, le)) ∙ h.none q k
          (omega (arith, le)) lt lq;
      done = λ q k lt lq. elim (cases_eq k p) [
        | inl same ↦ subst (λ v. parcels_of (cell_at [] packets' q v) ≡ parcels_left history v q)
            (sym same) (new q lq)
        | inr apart ↦ ap parcels_of (o.same q k apart) ∙ h.done q k (omega (arith, lt, apart)) lq
      ];
    })

pub left_all : (gathered history : List Process) (messages : List MsgName) (n p : ℕ) (counts : List
    (List ℕ)) (sums : List ℕ) (packets : List (List (List Packet))) → n ≡ length history → n ≤ p
    → AreLeft gathered history messages n p counts sums packets → AreAllReplays history packets
left_all gathered history messages n p counts sums packets en le h = record {
  count = h.square.count ∙ en;
  each = λ q lt.
      (let below : q < n = omega (arith, lt, en) in replays_all history q n (row_at packets q) en
      (record {
        count = h.square.each q below;
        each = λ k from. h.done q k
            (omega (arith, from, le)) below;
      }));
}
