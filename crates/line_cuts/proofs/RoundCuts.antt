-- Rounds of markers that are begun after the floor, in what is left.
use Rattle.std.proofs.Common.{◌≡◌, ℕ, zero, suc, ◌+◌, ◌<◌, ◌≤◌, Bool, true, false, not, ◌&&◌, ◌||◌}
use Rattle.std.proofs.Common.{cond, List, [], ◌∷◌, length, drop, Option, Some, None, refl, sym, ap}
use Rattle.std.proofs.Common.{◌∙◌, subst, arith}
use Rattle.std.specs.Prelude.{nat_le, nat_lt, ◌==◌}
use Rattle.std.specs.List.{All, list_any, list_all, range_with_len, after_first, prefix_len}
use Rattle.std.proofs.lemmas.Bool.{ltb-false, ne_eqb}
use Rattle.std.proofs.lemmas.List.Elements.{All-head, All-tail}
use Rattle.line_names.specs.declared.choices.Choice.TheVariants.{Check as AtCheck}
use Rattle.line_tape.specs.declared.events.Event.{Event}
use Rattle.line_tape.specs.declared.events.Event.TheVariants.{Send, Recv, Check, Mark}
use Rattle.line_tape.specs.Front.{front}
use Rattle.line_tape.specs.History.{Process, tape_at}
use Rattle.line_tape.specs.Rounds.{rounds_checked, is_check_of, has_check_of, is_mark_of}
use Rattle.line_tape.specs.Rounds.{has_mark_of, is_closed_at, is_completed_fifo}
use Rattle.line_laws.proofs.CompletionLemmas.{all_same}
use Rattle.line_cuts.specs.Cuts.{Floor, HasOldRounds, lost_sends, floor_check, is_left, cut_name}
use Rattle.line_cuts.specs.Cuts.{cut_round, cut_events, cut_history}
use Rattle.line_cuts.proofs.ConsistentCuts.{tape_cut, floor_at}
use Rattle.line_cuts.proofs.LatestCuts.{length_history}
use Rattle.line_cuts.proofs.LinkCuts.{AreOld, old_none, old_send, old_recv, old_mark}

-- what stands after a check of the round, event by event
abbrev pub after : ℕ → List Event → List Event
after r [] = []
after r (x ∷ xs) = cond (is_check_of r x) xs (after r xs)

after_step : (f : Event → Bool) (x : Event) (xs : List Event)
    → after_first f (x ∷ xs) ≡ cond (f x) xs (after_first f xs)
after_step f x xs = elim (f x) as (λ b. drop (cond (not b) (1 + prefix_len (λ y. not (f y)) xs) 0 +
    1) (x ∷ xs) ≡ cond b xs (drop (prefix_len (λ y. not (f y)) xs + 1) xs)) [
      | true ↦ refl
      | false ↦
          let number : (1 + prefix_len (λ y. not (f y)) xs) + 1
          ≡ suc (prefix_len (λ y. not (f y)) xs + 1) = omega arith in
          ap (λ n. drop n (x ∷ xs)) number
    ]

pub after_same : (r : ℕ) (es : List Event) → after_first (is_check_of r) es ≡ after r es
after_same r [] = refl
after_same r (x ∷ xs) = after_step (is_check_of r) x xs ∙ ap
    (λ (v : List Event). cond (is_check_of r x) xs v) (after_same r xs)

module _ (floor : Floor) (p r : ℕ) (new : floor.round < r) where
  pub old_check : (state : List ℕ) (round : ℕ) → round ≤ floor.round
      → is_check_of r (Check state (Some round)) ≡ false
  old_check state round h = ne_eqb round r (λ e. omega arith)

  pub check_same : (state : List ℕ) (round : Option ℕ) → is_check_of r
      (Check state (cut_round floor.round round)) ≡ is_check_of r (Check state round)
  check_same state None = refl
  check_same state (Some round) = elim (nat_lt floor.round round) as (λ b. b ≡ nat_lt floor.round
      round → is_check_of r (Check state (cond b (Some round) None)) ≡ (round == r)) [
        | true ↦ λ e. refl
        | false ↦ λ e. sym (old_check state round (ltb-false floor.round round (sym e)))
      ] refl

  -- the tape that is left has a check of the round where the tape has
  pub has_check_left : (k skip : ℕ) (es : List Event) → AreOld floor p skip es
      → list_any (is_check_of r) (cut_events floor p k skip es) ≡ list_any (is_check_of r) es
  has_check_left k skip [] old = refl
  has_check_left k skip (Send to inc body ∷ es) old =
      elim (nat_le (lost_sends floor p) k) as
      (λ b. list_any (is_check_of r) (cond b (Send to inc body ∷ cut_events floor p
      (suc k) skip es) (cut_events floor p (suc k) skip es)) ≡ list_any (is_check_of r) es) [
        | true ↦ has_check_left (suc k) skip es (old_send floor p to inc body es skip old)
        | false ↦ has_check_left (suc k) skip es (old_send floor p to inc body es skip old)
      ]
  has_check_left k skip (Recv m ∷ es) old =
      elim (is_left floor m) as
      (λ b. list_any (is_check_of r) (cond b (Recv (cut_name floor m) ∷ cut_events floor p k
      skip es) (cut_events floor p k skip es)) ≡ list_any (is_check_of r) es) [
        | true ↦ has_check_left k skip es (old_recv floor p m es skip old)
        | false ↦ has_check_left k skip es (old_recv floor p m es skip old)
      ]
  has_check_left k zero (Check state round ∷ es) old =
      ap (λ b. b || list_any (is_check_of r) (cut_events floor p k zero es))
      (check_same state round) ∙ ap (λ b. is_check_of r (Check state round) || b)
      (has_check_left k zero es (old_none floor p es))
  has_check_left k (suc zero) (Check state round ∷ es) old =
      ap (λ b. b || list_any (is_check_of r) (cut_events floor p k zero es))
      (check_same state round) ∙ ap (λ b. is_check_of r (Check state round) || b)
      (has_check_left k zero es (old_none floor p es))
  has_check_left k (suc (suc skip)) (Check state None ∷ es) old = has_check_left k (suc skip) es old
  has_check_left k (suc (suc skip)) (Check state (Some round) ∷ es) old =
      let older = λ (v : ℕ). v ≤ floor.round in
      let rounds : List ℕ = rounds_checked (front es (AtCheck (suc skip))) in
      has_check_left k (suc skip) es (All-tail older round rounds old) ∙ sym (ap (λ b. b || list_any
      (is_check_of r) es) (old_check state round (All-head older round rounds old)))
  has_check_left k skip (Mark from round ∷ es) old =
      elim (nat_lt floor.round round) as
      (λ b. list_any (is_check_of r) (cond b (Mark from round ∷ cut_events floor p k skip es)
      (cut_events floor p k skip es)) ≡ list_any (is_check_of r) es) [
        | true ↦ has_check_left k skip es (old_mark floor p from round es skip old)
        | false ↦ has_check_left k skip es (old_mark floor p from round es skip old)
      ]

  -- what is left of the events after that check
  pub record IsCutFrom (xs es : List Event) : Type 0 where
    pub number : ℕ
    pub is : xs ≡ cut_events floor p number zero es

  nothing_left : IsCutFrom [] []
  nothing_left = record { number = 0; is = refl }

  after_at : (k : ℕ) (es xs ys : List Event) (b : Bool) → xs ≡ cut_events floor p k zero es
      → IsCutFrom (after r xs) (after r es)
      → IsCutFrom (cond b xs (after r xs)) (cond b es (after r es))
  after_at k es xs ys true is rest = record { number = k; is = is }
  after_at k es xs ys false is rest = rest

  pub after_left : (k skip : ℕ) (es : List Event) → AreOld floor p skip es
      → IsCutFrom (after r (cut_events floor p k skip es)) (after r es)
  after_left k skip [] old = nothing_left
  after_left k skip (Send to inc body ∷ es) old =
      elim (nat_le (lost_sends floor p) k) as (λ b. IsCutFrom (after r (cond b (Send to inc body ∷
      cut_events floor p (suc k) skip es) (cut_events floor p (suc k) skip es))) (after r es)) [
        | true ↦ after_left (suc k) skip es (old_send floor p to inc body es skip old)
        | false ↦ after_left (suc k) skip es (old_send floor p to inc body es skip old)
      ]
  after_left k skip (Recv m ∷ es) old =
      elim (is_left floor m) as (λ b. IsCutFrom (after r (cond b (Recv (cut_name floor m)
      ∷ cut_events floor p k skip es) (cut_events floor p k skip es))) (after r es)) [
        | true ↦ after_left k skip es (old_recv floor p m es skip old)
        | false ↦ after_left k skip es (old_recv floor p m es skip old)
      ]
  after_left k zero (Check state round ∷ es) old =
      subst (λ b. IsCutFrom
      (cond b (cut_events floor p k zero es) (after r (cut_events floor p k zero es)))
      (cond (is_check_of r (Check state round)) es (after r es))) (sym (check_same state round))
      (after_at k es (cut_events floor p k zero es) [] (is_check_of r (Check state round)) refl
      (after_left k zero es (old_none floor p es)))
  after_left k (suc zero) (Check state round ∷ es) old =
      subst (λ b. IsCutFrom
      (cond b (cut_events floor p k zero es) (after r (cut_events floor p k zero es)))
      (cond (is_check_of r (Check state round)) es (after r es))) (sym (check_same state round))
      (after_at k es (cut_events floor p k zero es) [] (is_check_of r (Check state round)) refl
      (after_left k zero es (old_none floor p es)))
  after_left k (suc (suc skip)) (Check state None ∷ es) old = after_left k (suc skip) es old
  after_left k (suc (suc skip)) (Check state (Some round) ∷ es) old =
      let older = λ (v : ℕ). v ≤ floor.round in
      let rounds : List ℕ = rounds_checked (front es (AtCheck (suc skip))) in
      subst (λ b. IsCutFrom (after r (cut_events floor p k (suc skip) es)) (cond b es (after r es)))
      (sym (old_check state round (All-head older round rounds old)))
      (after_left k (suc skip) es (All-tail older round rounds old))
  after_left k skip (Mark from round ∷ es) old =
      elim (nat_lt floor.round round) as (λ b. IsCutFrom (after r (cond b (Mark from round
      ∷ cut_events floor p k skip es) (cut_events floor p k skip es))) (after r es)) [
        | true ↦ after_left k skip es (old_mark floor p from round es skip old)
        | false ↦ after_left k skip es (old_mark floor p from round es skip old)
      ]

  -- the markers of the round are left
  pub marks_left : (q k : ℕ) (es : List Event)
      → list_any (is_mark_of q r) (cut_events floor p k zero es) ≡ list_any (is_mark_of q r) es
  marks_left q k [] = refl
  marks_left q k (Send to inc body ∷ es) =
      elim (nat_le (lost_sends floor p) k) as
      (λ b. list_any (is_mark_of q r)
      (cond b (Send to inc body ∷ cut_events floor p (suc k) zero es)
      (cut_events floor p (suc k) zero es)) ≡ list_any (is_mark_of q r) es)
      [ true ↦ marks_left q (suc k) es | false ↦ marks_left q (suc k) es ]
  marks_left q k (Recv m ∷ es) =
      elim (is_left floor m) as
      (λ b. list_any (is_mark_of q r)
      (cond b (Recv (cut_name floor m) ∷ cut_events floor p k zero es)
      (cut_events floor p k zero es)) ≡ list_any (is_mark_of q r) es)
      [ true ↦ marks_left q k es | false ↦ marks_left q k es ]
  marks_left q k (Check state round ∷ es) = marks_left q k es
  marks_left q k (Mark from round ∷ es) =
      elim (nat_lt floor.round round) as
      (λ b. b ≡ nat_lt floor.round round
      → list_any (is_mark_of q r)
      (cond b (Mark from round ∷ cut_events floor p k zero es) (cut_events floor p k zero es))
      ≡ (((from == q) && (round == r)) || list_any (is_mark_of q r) es)) [
        | true ↦ λ e. ap (λ b. ((from == q) && (round == r)) || b) (marks_left q k es)
        | false ↦ λ e.
            let low : round ≤ floor.round = ltb-false floor.round round (sym e) in
            let other : (round == r) ≡ false = ne_eqb round r (λ q. omega arith) in
            marks_left q k es ∙ sym (ap (λ b. ((from == q) && b) || list_any (is_mark_of q r) es)
            other ∙ ap (λ b. b || list_any (is_mark_of q r) es) (never (from == q)))
      ] refl
    where
      never : (b : Bool) → (b && false) ≡ false
      never true = refl
      never false = refl

module _ (floor : Floor) (history : List Process) (old : HasOldRounds history floor) (r : ℕ)
    (new : floor.round < r) where
  pub early : (q : ℕ) → AreOld floor q (floor_check floor q) (tape_at history q)
  early q = subst (λ c. All (λ round. round ≤ floor.round)
      (rounds_checked (front (tape_at history q) c))) (floor_at floor q) (old q)

  pub checked_cut : (q : ℕ)
      → has_check_of r (tape_at (cut_history floor history) q) ≡ has_check_of r (tape_at history q)
  checked_cut q = ap (has_check_of r) (tape_cut floor history q) ∙ has_check_left floor q r new 0
      (floor_check floor q) (tape_at history q) (early q)

  pub marked_cut : (p q : ℕ) → has_mark_of p r (tape_at (cut_history floor history) q)
      ≡ has_mark_of p r (tape_at history q)
  marked_cut p q =
      let from = after_left floor q r new 0 (floor_check floor q) (tape_at history q) (early q) in
      ap (has_mark_of p r) (tape_cut floor history q)
      ∙ ap (list_any (is_mark_of p r))
      (after_same r (cut_events floor q 0 (floor_check floor q) (tape_at history q)) ∙ from.is)
      ∙ marks_left floor q r new p from.number (after r (tape_at history q))
      ∙ ap (list_any (is_mark_of p r)) (sym (after_same r (tape_at history q)))

  -- a round that is begun after the floor is completed there where it is in the whole
  pub completed_cut : is_completed_fifo (cut_history floor history) r ≡ is_completed_fifo history r
  completed_cut =
      ap (λ n. list_all (is_closed_at (cut_history floor history) r) (range_with_len 0 n))
      (length_history floor history)
      ∙ all_same (is_closed_at (cut_history floor history) r) (is_closed_at history r) 0
      (length history) (λ q.
      ap (λ b. b && list_all (λ p. (p == q) || has_mark_of p r (tape_at (cut_history floor history)
      q)) (range_with_len 0 (length (cut_history floor history)))) (checked_cut q)
      ∙ ap (λ b. has_check_of r (tape_at history q) && b)
      (ap (λ n. list_all (λ p. (p == q) || has_mark_of p r (tape_at (cut_history floor history) q))
      (range_with_len 0 n)) (length_history floor history)
      ∙ all_same (λ p. (p == q) || has_mark_of p r (tape_at (cut_history floor history) q))
      (λ p. (p == q) || has_mark_of p r (tape_at history q)) 0 (length history)
      (λ p. ap (λ b. (p == q) || b) (marked_cut p q))))
