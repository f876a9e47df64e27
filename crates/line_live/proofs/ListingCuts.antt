-- What is listed of a round that is begun after the floor, in what is left.
use Rattle.std.proofs.Common.{◌≡◌, ℕ, zero, suc, ◌+◌, ◌-◌, ◌<◌, ◌≤◌, Bool, true, false, not, ◌&&◌}
use Rattle.std.proofs.Common.{◌||◌, cond, List, [], ◌∷◌, length, take, map, Option, Some, None}
use Rattle.std.proofs.Common.{refl, sym, ap, ◌∙◌, subst, arith, inl, inr}
use Rattle.std.specs.Prelude.{nat_le, nat_lt, ◌==◌}
use Rattle.std.specs.List.{Contains, filter, list_any, range_with_len, before_first, prefix_len}
use Rattle.std.proofs.lemmas.Bool.{ltb-true, ltb-false, le-leb, ne_eqb, and_right, cases_lt}
use Rattle.std.proofs.lemmas.Bool.{false_from_ne_true, both_ways}
use Rattle.std.proofs.lemmas.Simd.{map-map}
use Rattle.std.proofs.lemmas.List.{length-map}
use Rattle.std.proofs.lemmas.List.FromFn.{length-map-range_with_len, get_or-map-range_with_len}
use Rattle.std.proofs.lemmas.List.Elements.{All-head, All-tail, Contains-append_left}
use Rattle.std.proofs.lemmas.List.Elements.{Contains-append_right, Contains-push}
use Rattle.line_names.specs.declared.choices.Choice.{Choice}
use Rattle.line_names.specs.declared.choices.Choice.TheVariants.{Check as AtCheck}
use Rattle.line_names.specs.declared.messages.MsgName.{MsgName}
use Rattle.line_tape.specs.declared.events.Event.{Event}
use Rattle.line_tape.specs.declared.events.Event.TheVariants.{Send, Recv, Check, Mark}
use Rattle.line_tape.specs.Event.{checks}
use Rattle.line_tape.specs.Fit.{AreDistinct, IsFitUnordered}
use Rattle.line_tape.specs.Front.{front}
use Rattle.line_tape.specs.History.{Process, tape_at}
use Rattle.line_tape.specs.Rounds.{rounds_checked, is_check_of, has_check_of, is_mark_of}
use Rattle.line_tape.specs.Rounds.{after_check, check_index, checks_of, channel_on, channel_fifo}
use Rattle.line_tape.specs.Rounds.{names_from, is_completed_fifo}
use Rattle.line_tape.specs.Transit.{names_received}
use Rattle.line_tape.proofs.CutLemmas.{cons_cases, contains_nothing}
use Rattle.line_laws.proofs.CompletionLemmas.{all_range, closed_parts, completed_closed}
use Rattle.line_laws.proofs.OrderLemmas.{receipt_in}
use Rattle.line_laws.proofs.SentLemmas.{In}
use Rattle.line_tape.specs.declared.modes.Mode.TheVariants.{Fifo}
use Rattle.line_moves.specs.Listed.{ListedRound, channel, channel_table, check_in, listed_round}
use Rattle.line_moves.specs.Listed.{newly_listed}
use Rattle.line_cuts.specs.Cuts.{Floor, IsFloor, HasOldRounds, lost_sends, lost_checks, floor_check}
use Rattle.line_cuts.specs.Cuts.{is_left, cut_name, cut_round, cut_events, cut_tape, cut_history}
use Rattle.line_cuts.proofs.ConsistentCuts.{tape_cut, floor_at}
use Rattle.line_cuts.proofs.LatestCuts.{length_history}
use Rattle.line_cuts.proofs.LinkCuts.{AreOld, old_none, old_send, old_recv, old_mark}
use Rattle.line_cuts.proofs.RoundCuts.{after, after_same, after_left, old_check, check_same, early}
use Rattle.line_cuts.proofs.RoundCuts.{completed_cut}
use Rattle.line_live.specs.CutMachines.{cut_listed, is_listed_on}
use Rattle.line_live.proofs.ListLemmas.{map_same}

-- what stands before the first event that passes, event by event
abbrev before : (Event → Bool) → List Event → List Event
before f [] = []
before f (x ∷ xs) = cond (f x) [] (x ∷ before f xs)

before_step : (f : Event → Bool) (x : Event) (xs : List Event)
    → before_first f (x ∷ xs) ≡ cond (f x) [] (x ∷ before_first f xs)
before_step f x xs = elim (f x) as (λ b. take (cond (not b) (1 + prefix_len (λ y. not (f y)) xs) 0)
    (x ∷ xs) ≡ cond b [] (x ∷ take (prefix_len (λ y. not (f y)) xs) xs)) [
      | true ↦ refl
      | false ↦
          let number : 1 + prefix_len (λ y. not (f y)) xs
          ≡ suc (prefix_len (λ y. not (f y)) xs) = omega arith in
          ap (λ n. take n (x ∷ xs)) number
    ]

before_same : (f : Event → Bool) (es : List Event) → before_first f es ≡ before f es
before_same f [] = refl
before_same f (x ∷ xs) =
    before_step f x xs ∙ ap (λ (v : List Event). cond (f x) [] (x ∷ v)) (before_same f xs)

head_in : (x : Event) (xs : List Event) → Contains (x ∷ xs) x
head_in x xs = Contains-append_left (x ∷ []) xs x (Contains-push [] x)

tail_in : (x : Event) (xs : List Event) (y : Event) → Contains xs y → Contains (x ∷ xs) y
tail_in x xs y c = Contains-append_right (x ∷ []) xs y c

drop_other : (x : Event) (es : List Event) (m : MsgName) → (x ≡ Recv m → ⊥)
    → Contains (x ∷ es) (Recv m) → Contains es (Recv m)
drop_other x es m other c =
    elim (cons_cases x es (Recv m) c) [ inl e ↦ absurd (other e) | inr d ↦ d ]

after_in : (r : ℕ) (es : List Event) (e : Event) → Contains (after r es) e → Contains es e
after_in r [] e c = c
after_in r (x ∷ es) e c =
    elim (is_check_of r x) as (λ b. Contains (cond b es (after r es)) e → Contains (x ∷ es) e) [
      | true ↦ λ d. tail_in x es e d
      | false ↦ λ d. tail_in x es e (after_in r es e d)
    ] c

-- of distinct names the first is not among the others
place_of : (x : MsgName) (xs : List MsgName) → In x xs → Contains xs x
place_of x [] i = absurd i
place_of x (y ∷ ys) (inl e) = (0, omega arith, e)
place_of x (y ∷ ys) (inr i) = let c = place_of x ys i in (suc c.0, omega (arith, c.1), c.2)

head_apart : (x : MsgName) (xs : List MsgName) → AreDistinct (x ∷ xs) → In x xs → ⊥
head_apart x xs once i =
    let c = place_of x xs i in once 0 (suc c.0) x (omega arith) (omega (arith, c.1)) (sym c.2)

tail_apart : (x : MsgName) (xs : List MsgName) → AreDistinct (x ∷ xs) → AreDistinct xs
tail_apart x xs once i j d l within = once (suc i) (suc j) d (omega arith) (omega arith)

module _ (floor : Floor) (p r : ℕ) (new : floor.round < r) where
  step_at : (b : Bool) (state : List ℕ) (round other : Option ℕ) (xs ys : List Event)
      → (b ≡ false → checks xs ≡ checks ys)
      → checks (cond b [] (Check state other ∷ xs)) ≡ checks (cond b [] (Check state round ∷ ys))
  step_at true state round other xs ys rest = refl
  step_at false state round other xs ys rest = ap suc (rest refl)

  here : (state : List ℕ) (round : Option ℕ) (xs es : List Event) → (list_any (is_check_of r) es
      ≡ true → checks (before (is_check_of r) xs) ≡ checks (before (is_check_of r) es))
      → list_any (is_check_of r) (Check state round ∷ es) ≡ true
      → checks (before (is_check_of r) (Check state (cut_round floor.round round) ∷ xs))
      ≡ checks (before (is_check_of r) (Check state round ∷ es))
  here state round xs es rest has =
      ap (λ b. checks (cond b [] (Check state (cut_round floor.round round)
      ∷ before (is_check_of r) xs))) (check_same floor p r new state round)
      ∙ step_at (is_check_of r (Check state round)) state round (cut_round floor.round round)
      (before (is_check_of r) xs) (before (is_check_of r) es)
      (λ none. rest (ap (λ b. b || list_any (is_check_of r) es) (sym none) ∙ has))

  -- the checks before that of the round
  pub index_left : (k skip : ℕ) (es : List Event) → AreOld floor p skip es
      → list_any (is_check_of r) es ≡ true
      → checks (before (is_check_of r) (cut_events floor p k skip es)) + (skip - 1)
      ≡ checks (before (is_check_of r) es)
  index_left k skip [] old has = absurd (cc)
  index_left k skip (Send to inc body ∷ es) old has =
      elim (nat_le (lost_sends floor p) k) as
      (λ b. checks
      (before (is_check_of r)
      (cond b (Send to inc body ∷ cut_events floor p (suc k) skip es) (cut_events floor p
      (suc k) skip es))) + (skip - 1) ≡ checks (before (is_check_of r) es)) [
        | true ↦ index_left (suc k) skip es (old_send floor p to inc body es skip old) has
        | false ↦ index_left (suc k) skip es (old_send floor p to inc body es skip old) has
      ]
  index_left k skip (Recv m ∷ es) old has =
      elim (is_left floor m) as
      (λ b. checks
      (before (is_check_of r) (cond b (Recv (cut_name floor m) ∷ cut_events floor p k skip es)
      (cut_events floor p k skip es))) + (skip - 1) ≡ checks (before (is_check_of r) es)) [
        | true ↦ index_left k skip es (old_recv floor p m es skip old) has
        | false ↦ index_left k skip es (old_recv floor p m es skip old) has
      ]
  index_left k zero (Check state round ∷ es) old has =
      let same = here state round (cut_events floor p k zero es) es
      (λ h. omega (arith, index_left k zero es (old_none floor p es) h)) has in
      omega (arith, same)
  index_left k (suc zero) (Check state round ∷ es) old has =
      let same = here state round (cut_events floor p k zero es) es
      (λ h. omega (arith, index_left k zero es (old_none floor p es) h)) has in
      omega (arith, same)
  index_left k (suc (suc skip)) (Check state None ∷ es) old has =
      omega (arith, index_left k (suc skip) es old has)
  index_left k (suc (suc skip)) (Check state (Some round) ∷ es) old has =
      let older = λ (v : ℕ). v ≤ floor.round in
      let rounds : List ℕ = rounds_checked (front es (AtCheck (suc skip))) in
      let other : is_check_of r (Check state (Some round))
      ≡ false = old_check floor p r new state round (All-head older round rounds old) in
      let there : list_any (is_check_of r) es
      ≡ true = ap (λ b. b || list_any (is_check_of r) es) (sym other) ∙ has in
      let count : checks (before (is_check_of r) (Check state (Some round) ∷ es))
      ≡ suc (checks (before (is_check_of r) es)) = ap
      (λ b. checks (cond b [] (Check state (Some round) ∷ before (is_check_of r) es))) other in
      omega (arith, count, index_left k (suc skip) es (All-tail older round rounds old) there)
  index_left k skip (Mark from round ∷ es) old has =
      elim (nat_lt floor.round round) as
      (λ b. checks (before (is_check_of r) (cond b (Mark from round ∷ cut_events floor p k skip
      es) (cut_events floor p k skip es))) + (skip - 1) ≡ checks (before (is_check_of r) es)) [
        | true ↦ index_left k skip es (old_mark floor p from round es skip old) has
        | false ↦ index_left k skip es (old_mark floor p from round es skip old) has
      ]

  -- what is received after that check is not received before the floor
  pub received_twice : (skip : ℕ) (es : List Event) → AreOld floor p skip es
      → AreDistinct (names_received es) → (m : MsgName) → Contains (after r es) (Recv m)
      → Contains (front es (AtCheck skip)) (Recv m) → ⊥
  received_twice zero es old once m late soon = contains_nothing (Recv m) soon
  received_twice (suc s) [] old once m late soon = contains_nothing (Recv m) late
  received_twice (suc s) (Send to inc body ∷ es) old once m late soon = received_twice (suc s) es
      old once m late (drop_other (Send to inc body) (front es (AtCheck (suc s))) m (λ e. cc) soon)
  received_twice (suc s) (Recv w ∷ es) old once m late soon =
      elim (cons_cases (Recv w) (front es (AtCheck (suc s))) (Recv m) soon) [
        | inl same ↦
            let name : w ≡ m = cc same in
            head_apart w (names_received es) once (subst (λ (v : MsgName). In v (names_received es))
            (sym name) (receipt_in es m (after_in r es (Recv m) late)))
        | inr rest ↦ received_twice (suc s) es old
            (tail_apart w (names_received es) once) m late rest
      ]
  received_twice (suc zero) (Check state round ∷ es) old once m late soon =
      contains_nothing (Recv m) (drop_other (Check state round) [] m (λ e. cc) soon)
  received_twice (suc (suc s)) (Check state None ∷ es) old once m late soon = received_twice
      (suc s) es old once m late
      (drop_other (Check state None) (front es (AtCheck (suc s))) m (λ e. cc) soon)
  received_twice (suc (suc s)) (Check state (Some round) ∷ es) old once m late soon =
      let older = λ (v : ℕ). v ≤ floor.round in
      let rounds : List ℕ = rounds_checked (front es (AtCheck (suc s))) in
      let other : is_check_of r (Check state (Some round))
      ≡ false = old_check floor p r new state round (All-head older round rounds old) in
      let there : Contains (after r es) (Recv m) = subst
      (λ b. Contains (cond b es (after r es)) (Recv m)) other late in
      received_twice (suc s) es (All-tail older round rounds old) once m there
      (drop_other (Check state (Some round)) (front es (AtCheck (suc s))) m (λ e. cc) soon)
  received_twice (suc s) (Mark from round ∷ es) old once m late soon = received_twice (suc s) es old
      once m late (drop_other (Mark from round) (front es (AtCheck (suc s))) m (λ e. cc) soon)

  -- the messages of these events are left
  abbrev AreLeft : List Event → Type 0
  AreLeft es = (m : MsgName) → Contains es (Recv m) → is_left floor m ≡ true

  rest_left : (x : Event) (es : List Event) → AreLeft (x ∷ es) → AreLeft es
  rest_left x es all m c = all m (tail_in x es (Recv m) c)

  -- what such events receive from process q before its marker
  pub channel_left : (q k : ℕ) (es : List Event) → AreLeft es
      → names_from q (names_received (before (is_mark_of q r) (cut_events floor p k zero es)))
      ≡ map (cut_name floor) (names_from q (names_received (before (is_mark_of q r) es)))
  channel_left q k [] all = refl
  channel_left q k (Send to inc body ∷ es) all =
      let rest = channel_left q (suc k) es (rest_left (Send to inc body) es all) in
      elim (nat_le (lost_sends floor p) k) as
      (λ b. names_from q
      (names_received
      (before (is_mark_of q r)
      (cond b (Send to inc body ∷ cut_events floor p (suc k) zero es)
      (cut_events floor p (suc k) zero es))))
      ≡ map (cut_name floor) (names_from q (names_received (before (is_mark_of q r) es)))) [
        | true ↦ rest
        | false ↦ rest
      ]
  channel_left q k (Recv m ∷ es) all =
      let rest = channel_left q k es (rest_left (Recv m) es all) in
      let kept : List MsgName = names_from q
      (names_received (before (is_mark_of q r) (cut_events floor p k zero es))) in
      let whole : List MsgName = names_from q (names_received (before (is_mark_of q r) es)) in
      ap (λ b. names_from q
      (names_received (before (is_mark_of q r) (cond b (Recv (cut_name floor m) ∷ cut_events
      floor p k zero es) (cut_events floor p k zero es))))) (all m (head_in (Recv m) es))
      ∙ elim (m.from == q) as (λ b. cond b (cut_name floor m ∷ kept) kept
      ≡ map (cut_name floor) (cond b (m ∷ whole) whole)) [
        | true ↦ ap (λ (v : List MsgName). cut_name floor m ∷ v) rest
        | false ↦ rest
      ]
  channel_left q k (Check state round ∷ es) all =
      channel_left q k es (rest_left (Check state round) es all)
  channel_left q k (Mark from round ∷ es) all =
      let rest = channel_left q k es (rest_left (Mark from round) es all) in
      let kept : List Event = cut_events floor p k zero es in
      elim (nat_lt floor.round round) as (λ b. b ≡ nat_lt floor.round round
      → names_from q
      (names_received (before (is_mark_of q r) (cond b (Mark from round ∷ kept) kept)))
      ≡ map (cut_name floor) (names_from q (names_received (cond ((from == q) && (round == r)) []
      (Mark from round ∷ before (is_mark_of q r) es))))) [
        | true ↦ λ e. elim ((from == q) && (round == r)) as
            (λ t. names_from q
            (names_received (cond t [] (Mark from round ∷ before (is_mark_of q r) kept)))
            ≡ map (cut_name floor) (names_from q
            (names_received (cond t [] (Mark from round ∷ before (is_mark_of q r) es))))) [
              | true ↦ refl
              | false ↦ rest
            ]
        | false ↦ λ e.
            let low : round ≤ floor.round = ltb-false floor.round round (sym e) in
            let other : (round == r) ≡ false = ne_eqb round r (λ x. omega arith) in
            let none : ((from == q) && (round == r))
            ≡ false = and_right (from == q) (round == r) other in
            rest ∙ sym (ap (λ t. map (cut_name floor) (names_from q
            (names_received (cond t [] (Mark from round ∷ before (is_mark_of q r) es))))) none)
      ] refl

-- no check of a round up to the floor's is left
module _ (floor : Floor) (p r : ℕ) (low : r ≤ floor.round) where
  gone_round : (state : List ℕ) (round : Option ℕ)
      → is_check_of r (Check state (cut_round floor.round round)) ≡ false
  gone_round state None = refl
  gone_round state (Some round) = elim (nat_lt floor.round round) as (λ b. b
      ≡ nat_lt floor.round round → is_check_of r (Check state (cond b (Some round) None)) ≡ false) [
        | true ↦ λ e. let late : floor.round < round =
            ltb-true floor.round round (sym e) in ne_eqb round r (λ x. omega arith)
        | false ↦ λ e. refl
      ] refl

  pub check_gone : (k skip : ℕ) (es : List Event)
      → list_any (is_check_of r) (cut_events floor p k skip es) ≡ false
  check_gone k skip [] = refl
  check_gone k skip (Send to inc body ∷ es) =
      elim (nat_le (lost_sends floor p) k) as
      (λ b. list_any (is_check_of r)
      (cond b (Send to inc body ∷ cut_events floor p (suc k) skip es)
      (cut_events floor p (suc k) skip es)) ≡ false)
      [ true ↦ check_gone (suc k) skip es | false ↦ check_gone (suc k) skip es ]
  check_gone k skip (Recv m ∷ es) =
      elim (is_left floor m) as
      (λ b. list_any (is_check_of r)
      (cond b (Recv (cut_name floor m) ∷ cut_events floor p k skip es) (cut_events floor p k
      skip es)) ≡ false) [ true ↦ check_gone k skip es | false ↦ check_gone k skip es ]
  check_gone k zero (Check state round ∷ es) = ap (λ b. b || list_any (is_check_of r)
      (cut_events floor p k zero es)) (gone_round state round) ∙ check_gone k zero es
  check_gone k (suc zero) (Check state round ∷ es) = ap (λ b. b || list_any (is_check_of r)
      (cut_events floor p k zero es)) (gone_round state round) ∙ check_gone k zero es
  check_gone k (suc (suc skip)) (Check state round ∷ es) = check_gone k (suc skip) es
  check_gone k skip (Mark from round ∷ es) =
      elim (nat_lt floor.round round) as
      (λ b. list_any (is_check_of r)
      (cond b (Mark from round ∷ cut_events floor p k skip es) (cut_events floor p k skip es))
      ≡ false) [ true ↦ check_gone k skip es | false ↦ check_gone k skip es ]

pub unchecked_cut : (floor : Floor) (history : List Process) (r p : ℕ) → r ≤ floor.round
    → has_check_of r (tape_at (cut_history floor history) p) ≡ false
unchecked_cut floor history r p low = ap (has_check_of r) (tape_cut floor history p) ∙ check_gone
    floor p r low 0 (floor_check floor p) (tape_at history p)

-- so it is not completed there
pub uncompleted_cut : (floor : Floor) (history : List Process) (r : ℕ) → r ≤ floor.round
    → 0 < length history → is_completed_fifo (cut_history floor history) r ≡ false
uncompleted_cut floor history r low some =
    false_from_ne_true (is_completed_fifo (cut_history floor history) r) (λ t.
    both_ways (has_check_of r (tape_at (cut_history floor history) 0))
    (unchecked_cut floor history r 0 low)
    (closed_parts (cut_history floor history) r 0 (completed_closed
    (cut_history floor history) r 0 t (omega (arith, length_history floor history)))).0)

module _ (floor : Floor) (history : List Process) (fit : IsFitUnordered history) (is : IsFloor
    history floor) (old : HasOldRounds history floor) (r : ℕ) (new : floor.round < r) where
  module _ (q : ℕ) (has : has_check_of r (tape_at history q) ≡ true) where
    abbrev tape : List Event
    tape = tape_at history q

    -- the index of the round's check
    pub index_cut : check_index r (tape_at (cut_history floor history) q) + lost_checks floor q
        ≡ check_index r tape
    index_cut =
        let kept : check_index r (tape_at (cut_history floor history) q)
        ≡ suc (checks (before (is_check_of r) (cut_tape floor q tape))) =
        ap (check_index r) (tape_cut floor history q) ∙ ap (λ (es : List Event). suc (checks es))
        (before_same (is_check_of r) (cut_tape floor q tape)) in
        let whole : check_index r tape ≡ suc (checks (before (is_check_of r) tape)) = ap
        (λ (es : List Event). suc (checks es)) (before_same (is_check_of r) tape) in
        omega (
          arith,
          kept,
          whole,
          index_left floor q r new 0 (floor_check floor q) tape
              (early floor history old r new q) has,
        )

    -- what is received after it is left
    left_after : (m : MsgName) → Contains (after r tape) (Recv m) → is_left floor m ≡ true
    left_after m c = elim (cases_lt m.number (lost_sends floor m.from)) [
      | inl below ↦ absurd (received_twice floor q r new (floor_check floor q) tape
          (early floor history old r new q) (fit.once q) m c
          (subst (λ (ch : Choice). Contains (front tape ch) (Recv m)) (floor_at floor q)
          (is.received q m (fit.held q m (after_in r tape (Recv m) c)) below)))
      | inr left ↦ le-leb (lost_sends floor m.from) m.number left
    ]

    -- and its channels
    pub channel_cut : (p : ℕ) → channel_fifo (cut_history floor history) r p q
        ≡ map (cut_name floor) (channel_fifo history r p q)
    channel_cut p =
        let from = after_left floor q r new 0 (floor_check floor q) tape
        (early floor history old r new q) in
        ap (channel_on p r) (tape_cut floor history q)
        ∙ ap (λ (es : List Event). names_from p (names_received es))
        (before_same (is_mark_of p r) (after_check r (cut_tape floor q tape)))
        ∙ ap (λ (es : List Event). names_from p (names_received (before (is_mark_of p r) es)))
        (after_same r (cut_tape floor q tape) ∙ from.is)
        ∙ channel_left floor q r new p from.number (after r tape) left_after
        ∙ sym (ap (λ (es : List Event). map (cut_name floor) (names_from p (names_received es)))
        (before_same (is_mark_of p r) (after_check r tape) ∙ ap (before (is_mark_of p r))
        (after_same r tape)))

  module _ (completed : is_completed_fifo history r ≡ true) where
    has_at : (q : ℕ) → q < length history → has_check_of r (tape_at history q) ≡ true
    has_at q h = (closed_parts history r q (completed_closed history r q completed h)).0

    abbrev listed : ListedRound
    listed = listed_round Fifo history r

    index_at : (q : ℕ) → q < length history → check_in listed q ≡ check_index r (tape_at history q)
    index_at q h = get_or-map-range_with_len (λ p. check_index r (tape_at history p)) 0
        (length history) q q 0 h (omega arith)

    checks_cut : checks_of (cut_history floor history) r ≡ map (λ p. check_in listed p - lost_checks
        floor p) (range_with_len 0 (length (checks_of history r)))
    checks_cut =
        ap (λ n. map (λ p. check_index r (tape_at (cut_history floor history) p))
        (range_with_len 0 n)) (length_history floor history)
        ∙ map_same (λ p. check_index r (tape_at (cut_history floor history) p))
        (λ p. check_in listed p - lost_checks floor p) 0 (length history) (λ q l h.
        let within : q < length history = omega arith in omega
        (arith, index_cut q (has_at q within), index_at q within))
        ∙ ap (λ n. map (λ p. check_in listed p - lost_checks floor p) (range_with_len 0 n)) (sym
        (length-map-range_with_len (λ p. check_index r (tape_at history p)) 0 (length history)))

    abbrev cell : List Process → ℕ → ℕ → List MsgName
    cell h p q = cond (p == q) [] (channel_fifo h r p q)

    cell_cut : (p q : ℕ) → q < length history
        → cell (cut_history floor history) p q ≡ map (cut_name floor) (cell history p q)
    cell_cut p q h = elim (p == q) as (λ b. cond b [] (channel_fifo (cut_history floor history) r p
        q) ≡ map (cut_name floor) (cond b [] (channel_fifo history r p q))) [
          | true ↦ refl
          | false ↦ channel_cut q (has_at q h) p
        ]

    abbrev cut_row : List (List MsgName) → List (List MsgName)
    cut_row row = map (λ messages. map (cut_name floor) messages) row

    row_cut : (p n : ℕ) → n ≡ length history → map (λ q. cell (cut_history floor history) p q)
        (range_with_len 0 n) ≡ cut_row (map (λ q. cell history p q) (range_with_len 0 n))
    row_cut p n e =
        map_same (λ q. cell (cut_history floor history) p q) (λ q. map (cut_name floor)
        (cell history p q)) 0 n (λ q l h. cell_cut p q (omega (arith, e)))
        ∙ sym (map-map (λ messages. map (cut_name floor) messages) (λ q. cell history p q)
        (range_with_len 0 n))

    channels_cut : channel_table (length (cut_history floor history)) (channel Fifo (cut_history
        floor history) r) ≡ map cut_row (channel_table (length history) (channel Fifo history r))
    channels_cut =
        ap (λ n. map (λ p. map (λ q. cell (cut_history floor history) p q) (range_with_len 0 n))
        (range_with_len 0 n)) (length_history floor history)
        ∙ map_same (λ p. map (λ q. cell (cut_history floor history) p q)
        (range_with_len 0 (length history)))
        (λ p. cut_row (map (λ q. cell history p q) (range_with_len 0 (length history)))) 0
        (length history) (λ p l h. row_cut p (length history) refl)
        ∙ sym (map-map cut_row (λ p. map (λ q. cell history p q)
        (range_with_len 0 (length history))) (range_with_len 0 (length history)))

    -- what is listed there is what is left of what is listed
    pub listed_cut : listed_round Fifo (cut_history floor history) r ≡ cut_listed floor listed
    listed_cut =
        let make : List ℕ → List (List (List MsgName)) → ListedRound = λ indices channels. record
        { number = r; checks = indices; channels = channels } in
        ap (λ (v : List ℕ). make v (channel_table (length (cut_history floor history))
        (channel Fifo (cut_history floor history) r))) checks_cut
        ∙ ap (make (map (λ p. check_in listed p - lost_checks floor p)
        (range_with_len 0 (length (checks_of history r))))) channels_cut

    -- and it stays listed
    pub listed_on : is_listed_on floor listed ≡ true
    listed_on = all_range (λ p. nat_le (floor_check floor p) (check_in listed p)) 0
        (length floor.checks) (λ q l h.
        let count : length floor.checks
        ≡ length history = sym (length-map floor.checks (λ c. AtCheck c)) ∙ is.line.length_is in
        let within : q < length history = omega (arith, count) in
        let some : 1 ≤ check_index r (tape_at (cut_history floor history) q) = omega arith in
        le-leb (floor_check floor q) (check_in listed q)
        (omega (arith, some, index_cut q (has_at q within), index_at q within)))

never : (b : Bool) (xs : List ListedRound) → cond (b && not b) xs [] ≡ []
never true xs = refl
never false xs = refl

-- what a change of the history lists, in what is left
module _ (floor : Floor) (past now : List Process) (last : ℕ) where
  abbrev kept : ListedRound
  kept = listed_round Fifo (cut_history floor now) last

  abbrev whole : ListedRound
  whole = listed_round Fifo now last

  late_cut : IsFitUnordered now → IsFloor now floor → HasOldRounds now floor → floor.round < last
      → (b : Bool) → is_completed_fifo now last ≡ b
      → cond (b && not (is_completed_fifo past last)) (kept ∷ []) []
      ≡ map (cut_listed floor) (filter (is_listed_on floor)
      (cond (b && not (is_completed_fifo past last)) (whole ∷ []) []))
  late_cut fit is old late false e = refl
  late_cut fit is old late true e = elim (not (is_completed_fifo past last)) as (λ d. cond d (kept
      ∷ []) [] ≡ map (cut_listed floor) (filter (is_listed_on floor) (cond d (whole ∷ []) []))) [
        | true ↦
            ap (λ (v : ListedRound). v ∷ []) (listed_cut floor now fit is old last late e)
            ∙ sym (ap (λ b. map (cut_listed floor) (cond b (whole ∷ []) []))
            (listed_on floor now fit is old last late e))
        | false ↦ refl
      ]

  pub newly_cut : IsFitUnordered now → IsFloor now floor → HasOldRounds past floor
      → HasOldRounds now floor → 0 < length now
      → (last ≤ floor.round → is_completed_fifo now last ≡ is_completed_fifo past last)
      → newly_listed Fifo (cut_history floor past) (cut_history floor now) last
      ≡ map (cut_listed floor) (filter (is_listed_on floor) (newly_listed Fifo past now last))
  newly_cut fit is old older some idle = elim (cases_lt floor.round last) [
    | inl late ↦
        ap (λ b. cond (b && not (is_completed_fifo (cut_history floor past) last)) (kept ∷ []) [])
        (completed_cut floor now older last late)
        ∙ ap (λ b. cond (is_completed_fifo now last && not b) (kept ∷ []) [])
        (completed_cut floor past old last late)
        ∙ late_cut fit is older late (is_completed_fifo now last) refl
    | inr low ↦
        ap (λ b. cond (b && not (is_completed_fifo (cut_history floor past) last)) (kept ∷ []) [])
        (uncompleted_cut floor now last low some)
        ∙ sym (ap (λ (v : List ListedRound). map (cut_listed floor) (filter (is_listed_on floor) v))
        (ap (λ b. cond (b && not (is_completed_fifo past last)) (whole ∷ []) []) (idle low) ∙ never
        (is_completed_fifo past last) (whole ∷ [])))
  ]
