-- How many sends of a tape are left and to whom, and what holds of each event that is left.
use Rattle.std.proofs.Common.{◌≡◌, ℕ, zero, suc, ◌+◌, ◌-◌, ◌<◌, ◌≤◌, true, false, cond, List, []}
use Rattle.std.proofs.Common.{◌∷◌, length, Option, Some, None, refl, sym, ap, ◌∙◌, arith, inl, inr}
use Rattle.std.specs.Prelude.{nat_le, nat_lt}
use Rattle.std.specs.List.{All, slice_get}
use Rattle.std.proofs.lemmas.Bool.{leb-true, leb-false}
use Rattle.std.proofs.lemmas.List.Elements.{All-nil, All-cons, All-head, All-tail}
use Rattle.std.proofs.lemmas.Option.{slice_get_cases}
use Rattle.line_names.specs.declared.messages.MsgName.{MsgName}
use Rattle.line_tape.specs.declared.events.Event.{Event}
use Rattle.line_tape.specs.declared.events.Event.TheVariants.{Send, Recv, Check, Mark}
use Rattle.line_tape.specs.Event.{incarnations_sent, sends}
use Rattle.line_tape.specs.Transit.{addressees}
use Rattle.line_cuts.specs.Cuts.{Floor, lost_sends, is_left, cut_name, whole_name, cut_round}
use Rattle.line_cuts.specs.Cuts.{cut_events}
use Rattle.line_cuts.proofs.EventCuts.{get_after, sent_kept, sent_left_at}

-- a list that has what another one has some places on is shorter by these
shorter_by : (xs ys : List ℕ) (d : ℕ) → ((n : ℕ) → slice_get xs n ≡ slice_get ys (n + d))
    → length xs ≡ length ys - d
shorter_by [] ys d same = elim (slice_get_cases ys (0 + d)).1 [
  | inl within ↦ let none : None ≡ Some within.0 = same 0 ∙ within.2 in absurd (cc none)
  | inr past ↦ omega (arith, past.0)
]
shorter_by (x ∷ xs) ys d same = elim (slice_get_cases ys (0 + d)).1 [
  | inl within ↦
      let rest : length xs ≡ length ys - suc d = shorter_by xs ys (suc d) (λ n. let place : suc n +
      d ≡ n + suc d = omega arith in same (suc n) ∙ ap (slice_get ys) place) in
      omega (arith, rest, within.1)
  | inr past ↦ let none : Some x ≡ None = same 0 ∙ past.1 in absurd (cc none)
]

-- the name of a message that is left is brought back
pub name_back : (floor : Floor) (m : MsgName) → is_left floor m ≡ true
    → whole_name floor (cut_name floor m) ≡ m
name_back floor m left =
    let le : lost_sends floor m.from ≤ m.number = leb-true
    (lost_sends floor m.from) m.number left in
    let number : (m.number - lost_sends floor m.from) + lost_sends floor m.from
    ≡ m.number = omega arith in
    ap (λ (n : ℕ). record { from = m.from; inc = m.inc; number = n }) number

module _ (floor : Floor) (p : ℕ) where
  -- the sends that are left
  pub sends_left : (k skip : ℕ) (es : List Event)
      → sends (cut_events floor p k skip es) ≡ sends es - (lost_sends floor p - k)
  sends_left k skip es = shorter_by (incarnations_sent (cut_events floor p k skip es))
      (incarnations_sent es) (lost_sends floor p - k) (λ n. sent_left_at floor p k skip n es)

  -- and the processes that they name
  pub addressed_left_at : (k skip n : ℕ) (es : List Event) → slice_get (addressees
      (cut_events floor p k skip es)) n ≡ slice_get (addressees es) (n + (lost_sends floor p - k))
  addressed_left_at k skip n [] = refl
  addressed_left_at k skip n (Send to inc body ∷ es) =
      elim (nat_le (lost_sends floor p) k) as
      (λ b. b ≡ nat_le (lost_sends floor p) k
      → slice_get (addressees
      (cond b (Send to inc body ∷ cut_events floor p (suc k) skip es) (cut_events floor p
      (suc k) skip es))) n ≡ slice_get (to ∷ addressees es) (n + (lost_sends floor p - k))) [
        | true ↦ λ e. sent_kept floor p k skip n to
            (addressees (cut_events floor p (suc k) skip es)) (addressees es)
            (leb-true (lost_sends floor p) k (sym e)) (λ i. addressed_left_at (suc k) skip i es)
        | false ↦ λ e.
            let past : k < lost_sends floor p = leb-false (lost_sends floor p) k (sym e) in
            addressed_left_at (suc k) skip n es ∙ sym (get_after floor p to (addressees es)
            (n + (lost_sends floor p - k)) (n + (lost_sends floor p - suc k)) (omega arith))
      ] refl
  addressed_left_at k skip n (Recv m ∷ es) =
      elim (is_left floor m) as
      (λ b. slice_get
      (addressees (cond b (Recv (cut_name floor m) ∷ cut_events floor p k skip es) (cut_events
      floor p k skip es))) n ≡ slice_get (addressees es) (n + (lost_sends floor p - k))) [
        | true ↦ addressed_left_at k skip n es
        | false ↦ addressed_left_at k skip n es
      ]
  addressed_left_at k zero n (Check state round ∷ es) = addressed_left_at k zero n es
  addressed_left_at k (suc zero) n (Check state round ∷ es) = addressed_left_at k zero n es
  addressed_left_at k (suc (suc skip)) n (Check state round ∷ es) =
      addressed_left_at k (suc skip) n es
  addressed_left_at k skip n (Mark from round ∷ es) =
      elim (nat_lt floor.round round) as
      (λ b. slice_get
      (addressees (cond b (Mark from round ∷ cut_events floor p k skip es) (cut_events floor p k
      skip es))) n ≡ slice_get (addressees es) (n + (lost_sends floor p - k))) [
        | true ↦ addressed_left_at k skip n es
        | false ↦ addressed_left_at k skip n es
      ]

  -- no more events are left than there are
  pub length_left : (k skip : ℕ) (es : List Event)
      → length (cut_events floor p k skip es) ≤ length es
  length_left k skip [] = omega arith
  length_left k skip (Send to inc body ∷ es) =
      elim (nat_le (lost_sends floor p) k) as (λ b. length (cond b (Send to inc body ∷ cut_events
      floor p (suc k) skip es) (cut_events floor p (suc k) skip es)) ≤ suc (length es)) [
        | true ↦ omega (arith, length_left (suc k) skip es)
        | false ↦ omega (arith, length_left (suc k) skip es)
      ]
  length_left k skip (Recv m ∷ es) =
      elim (is_left floor m) as (λ b. length (cond b (Recv (cut_name floor m)
      ∷ cut_events floor p k skip es) (cut_events floor p k skip es)) ≤ suc (length es)) [
        | true ↦ omega (arith, length_left k skip es)
        | false ↦ omega (arith, length_left k skip es)
      ]
  length_left k zero (Check state round ∷ es) = omega (arith, length_left k zero es)
  length_left k (suc zero) (Check state round ∷ es) = omega (arith, length_left k zero es)
  length_left k (suc (suc skip)) (Check state round ∷ es) =
      omega (arith, length_left k (suc skip) es)
  length_left k skip (Mark from round ∷ es) =
      elim (nat_lt floor.round round) as (λ b. length (cond b (Mark from round
      ∷ cut_events floor p k skip es) (cut_events floor p k skip es)) ≤ suc (length es)) [
        | true ↦ omega (arith, length_left k skip es)
        | false ↦ omega (arith, length_left k skip es)
      ]

-- what holds of an event, and of what is left of it
pub record IsCarried (floor : Floor) (P Q : Event → Type 0) : Type 0 where
  pub sends : (to inc : ℕ) (body : List ℕ) → P (Send to inc body) → Q (Send to inc body)
  pub receipts : (m : MsgName) → is_left floor m ≡ true → P (Recv m) → Q (Recv (cut_name floor m))
  pub checks : (state : List ℕ) (round : Option ℕ) → P (Check state round)
      → Q (Check state (cut_round floor.round round))
  pub marks : (from round : ℕ) → P (Mark from round) → Q (Mark from round)

module _ (floor : Floor) (p : ℕ) (P Q : Event → Type 0) (is : IsCarried floor P Q) where
  -- of each event, so of each that is left
  pub all_left : (k skip : ℕ) (es : List Event) → All P es → All Q (cut_events floor p k skip es)
  all_left k skip [] all = All-nil Q
  all_left k skip (Send to inc body ∷ es) all =
      let rest = all_left (suc k) skip es (All-tail P (Send to inc body) es all) in
      elim (nat_le (lost_sends floor p) k) as (λ b. All Q (cond b (Send to inc body
      ∷ cut_events floor p (suc k) skip es) (cut_events floor p (suc k) skip es))) [
        | true ↦ All-cons Q (Send to inc body) (cut_events floor p (suc k) skip es)
            (is.sends to inc body (All-head P (Send to inc body) es all)) rest
        | false ↦ rest
      ]
  all_left k skip (Recv m ∷ es) all =
      let rest = all_left k skip es (All-tail P (Recv m) es all) in
      elim (is_left floor m) as (λ b. b ≡ is_left floor m → All Q (cond b (Recv (cut_name floor m)
      ∷ cut_events floor p k skip es) (cut_events floor p k skip es))) [
        | true ↦ λ e. All-cons Q (Recv (cut_name floor m)) (cut_events floor p k skip es)
            (is.receipts m (sym e) (All-head P (Recv m) es all)) rest
        | false ↦ λ e. rest
      ] refl
  all_left k zero (Check state round ∷ es) all =
      All-cons Q (Check state (cut_round floor.round round)) (cut_events floor p k zero es)
      (is.checks state round (All-head P (Check state round) es all))
      (all_left k zero es (All-tail P (Check state round) es all))
  all_left k (suc zero) (Check state round ∷ es) all =
      All-cons Q (Check state (cut_round floor.round round)) (cut_events floor p k zero es)
      (is.checks state round (All-head P (Check state round) es all))
      (all_left k zero es (All-tail P (Check state round) es all))
  all_left k (suc (suc skip)) (Check state round ∷ es) all =
      all_left k (suc skip) es (All-tail P (Check state round) es all)
  all_left k skip (Mark from round ∷ es) all =
      let rest = all_left k skip es (All-tail P (Mark from round) es all) in
      elim (nat_lt floor.round round) as (λ b. All Q (cond b
      (Mark from round ∷ cut_events floor p k skip es) (cut_events floor p k skip es))) [
        | true ↦ All-cons Q (Mark from round) (cut_events floor p k skip es)
            (is.marks from round (All-head P (Mark from round) es all)) rest
        | false ↦ rest
      ]
