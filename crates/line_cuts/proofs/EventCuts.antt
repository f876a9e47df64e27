-- What is left of the events of one tape.
use Rattle.std.proofs.Common.{◌≡◌, ℕ, zero, suc, ◌+◌, ◌-◌, ◌<◌, ◌≤◌, Bool, true, false, cond, List}
use Rattle.std.proofs.Common.{[], ◌∷◌, length, refl, sym, ap, ◌∙◌, subst, arith, inl, inr}
use Rattle.std.specs.Prelude.{nat_le, nat_lt}
use Rattle.std.specs.List.{Contains, slice_get}
use Rattle.std.proofs.lemmas.Bool.{leb-true, leb-false}
use Rattle.std.proofs.lemmas.List.{take_all}
use Rattle.std.proofs.lemmas.List.Elements.{Contains-append_left, Contains-append_right}
use Rattle.std.proofs.lemmas.List.Elements.{Contains-push}
use Rattle.line_names.specs.declared.choices.Choice.{Choice}
use Rattle.line_names.specs.declared.choices.Choice.TheVariants.{Check as AtCheck, Now}
use Rattle.line_names.specs.declared.messages.MsgName.{MsgName}
use Rattle.line_names.specs.Order.{IsNoLater}
use Rattle.line_tape.specs.declared.events.Event.{Event}
use Rattle.line_tape.specs.declared.events.Event.TheVariants.{Send, Recv, Check, Mark}
use Rattle.line_tape.specs.Event.{incarnations_sent}
use Rattle.line_tape.specs.Front.{front}
use Rattle.line_tape.proofs.CutLemmas.{cons_cases, contains_nothing}
use Rattle.line_cuts.specs.Cuts.{Floor, lost_sends, floor_check, is_left, cut_name, cut_round}
use Rattle.line_cuts.specs.Cuts.{cut_events, cut_choice}

module _ (floor : Floor) (p : ℕ) where
  -- past the floor a front of what is left is what is left of the front
  front_after : (k c : ℕ) (es : List Event) → front (cut_events floor p k zero es) (AtCheck c)
      ≡ cut_events floor p k zero (front es (AtCheck c))
  front_after k zero es = refl
  front_after k (suc c) [] = refl
  front_after k (suc c) (Send to inc body ∷ es) =
      elim (nat_le (lost_sends floor p) k) as
      (λ b. front (cond b (Send to inc body ∷ cut_events floor p (suc k) zero es)
      (cut_events floor p (suc k) zero es)) (AtCheck (suc c))
      ≡ cond b (Send to inc body ∷ cut_events floor p (suc k) zero (front es (AtCheck (suc c))))
      (cut_events floor p (suc k) zero (front es (AtCheck (suc c))))) [
        | true ↦ ap (λ (v : List Event). Send to inc body ∷ v) (front_after (suc k) (suc c) es)
        | false ↦ front_after (suc k) (suc c) es
      ]
  front_after k (suc c) (Recv m ∷ es) =
      elim (is_left floor m) as
      (λ b. front (cond b (Recv (cut_name floor m) ∷ cut_events floor p k zero es)
      (cut_events floor p k zero es)) (AtCheck (suc c))
      ≡ cond b (Recv (cut_name floor m) ∷ cut_events floor p k zero
      (front es (AtCheck (suc c)))) (cut_events floor p k zero (front es (AtCheck (suc c))))) [
        | true ↦ ap (λ (v : List Event). Recv (cut_name floor m) ∷ v) (front_after k (suc c) es)
        | false ↦ front_after k (suc c) es
      ]
  front_after k (suc c) (Check state round ∷ es) =
      ap (λ (v : List Event). Check state (cut_round floor.round round) ∷ v) (front_after k c es)
  front_after k (suc c) (Mark from round ∷ es) =
      elim (nat_lt floor.round round) as
      (λ b. front (cond b (Mark from round ∷ cut_events floor p k zero es)
      (cut_events floor p k zero es)) (AtCheck (suc c))
      ≡ cond b (Mark from round ∷ cut_events floor p k zero (front es (AtCheck (suc c))))
      (cut_events floor p k zero (front es (AtCheck (suc c))))) [
        | true ↦ ap (λ (v : List Event). Mark from round ∷ v) (front_after k (suc c) es)
        | false ↦ front_after k (suc c) es
      ]

  -- and before it, with the floor at check s + 1 of the events
  front_before : (k s d c : ℕ) (es : List Event) → c ≡ d + s → front (cut_events floor p k
      (suc s) es) (AtCheck (suc d)) ≡ cut_events floor p k (suc s) (front es (AtCheck (suc c)))
  front_before k s d c [] e = refl
  front_before k s d c (Send to inc body ∷ es) e =
      elim (nat_le (lost_sends floor p) k) as
      (λ b. front (cond b (Send to inc body ∷ cut_events floor p (suc k) (suc s) es)
      (cut_events floor p (suc k) (suc s) es)) (AtCheck (suc d))
      ≡ cond b (Send to inc body ∷ cut_events floor p (suc k) (suc s) (front es
      (AtCheck (suc c)))) (cut_events floor p (suc k) (suc s) (front es (AtCheck (suc c))))) [
        | true ↦ ap (λ (v : List Event). Send to inc body ∷ v) (front_before (suc k) s d c es e)
        | false ↦ front_before (suc k) s d c es e
      ]
  front_before k s d c (Recv m ∷ es) e =
      elim (is_left floor m) as
      (λ b. front (cond b (Recv (cut_name floor m) ∷ cut_events floor p k (suc s) es)
      (cut_events floor p k (suc s) es)) (AtCheck (suc d))
      ≡ cond b (Recv (cut_name floor m) ∷ cut_events floor p k (suc s) (front es
      (AtCheck (suc c)))) (cut_events floor p k (suc s) (front es (AtCheck (suc c))))) [
        | true ↦ ap (λ (v : List Event). Recv (cut_name floor m) ∷ v) (front_before k s d c es e)
        | false ↦ front_before k s d c es e
      ]
  front_before k zero d c (Check state round ∷ es) e =
      let same : c ≡ d = omega arith in
      ap (λ (v : List Event). Check state (cut_round floor.round round) ∷ v) (front_after k d es ∙
      ap (λ (x : ℕ). cut_events floor p k zero (front es (AtCheck x))) (sym same))
  front_before k (suc s) d zero (Check state round ∷ es) e = absurd (omega arith)
  front_before k (suc s) d (suc c) (Check state round ∷ es) e =
      front_before k s d c es (omega arith)
  front_before k s d c (Mark from round ∷ es) e =
      elim (nat_lt floor.round round) as
      (λ b. front (cond b (Mark from round ∷ cut_events floor p k (suc s) es)
      (cut_events floor p k (suc s) es)) (AtCheck (suc d))
      ≡ cond b (Mark from round ∷ cut_events floor p k (suc s) (front es (AtCheck (suc c))))
      (cut_events floor p k (suc s) (front es (AtCheck (suc c))))) [
        | true ↦ ap (λ (v : List Event). Mark from round ∷ v) (front_before k s d c es e)
        | false ↦ front_before k s d c es e
      ]

  front_check : (k skip c : ℕ) (es : List Event) → skip ≤ c → front (cut_events floor p k skip es)
      (AtCheck (c - (skip - 1))) ≡ cut_events floor p k skip (front es (AtCheck c))
  front_check k zero c es h =
      let same : c - (zero - 1) ≡ c = omega arith in
      ap (λ (x : ℕ). front (cut_events floor p k zero es) (AtCheck x)) same ∙ front_after k c es
  front_check k (suc s) zero es h = absurd (omega arith)
  front_check k (suc s) (suc c) es h =
      let same : suc c - (suc s - 1) ≡ suc (c - s) = omega arith in
      ap (λ (x : ℕ). front (cut_events floor p k (suc s) es) (AtCheck x)) same ∙ front_before k s
      (c - s) c es (omega arith)

  -- at every choice from the floor on
  pub front_left : (es : List Event) (choice : Choice)
      → IsNoLater (AtCheck (floor_check floor p)) choice
      → front (cut_events floor p 0 (floor_check floor p) es) (cut_choice floor p choice)
      ≡ cut_events floor p 0 (floor_check floor p) (front es choice)
  front_left es (AtCheck c) h = front_check 0 (floor_check floor p) c es h
  front_left es Now h =
      take_all (length (cut_events floor p 0 (floor_check floor p) es))
      (cut_events floor p 0 (floor_check floor p) es) (omega arith)
      ∙ ap (cut_events floor p 0 (floor_check floor p))
      (sym (take_all (length es) es (omega arith)))

  -- a read after the first element
  pub get_after : (x : ℕ) (xs : List ℕ) (i j : ℕ) → i ≡ suc j
      → slice_get (x ∷ xs) i ≡ slice_get xs j
  get_after x xs i j e = ap (slice_get (x ∷ xs)) e

  pub sent_kept : (k skip n inc : ℕ) (more es : List ℕ) → lost_sends floor p ≤ k
      → ((i : ℕ) → slice_get more i ≡ slice_get es (i + (lost_sends floor p - suc k)))
      → slice_get (inc ∷ more) n ≡ slice_get (inc ∷ es) (n + (lost_sends floor p - k))
  sent_kept k skip zero inc more es h ih =
      let first : zero + (lost_sends floor p - k) ≡ 0 = omega arith in
      sym (ap (slice_get (inc ∷ es)) first)
  sent_kept k skip (suc n) inc more es h ih =
      ih n ∙ sym (get_after inc es (suc n + (lost_sends floor p - k))
      (n + (lost_sends floor p - suc k)) (omega arith))

  -- the sends that are left are the later ones
  pub sent_left_at : (k skip n : ℕ) (es : List Event) → slice_get (incarnations_sent (cut_events
      floor p k skip es)) n ≡ slice_get (incarnations_sent es) (n + (lost_sends floor p - k))
  sent_left_at k skip n [] = refl
  sent_left_at k skip n (Send to inc body ∷ es) =
      elim (nat_le (lost_sends floor p) k) as
      (λ b. b ≡ nat_le (lost_sends floor p) k
      → slice_get (incarnations_sent
      (cond b (Send to inc body ∷ cut_events floor p (suc k) skip es) (cut_events floor p (suc
      k) skip es))) n ≡ slice_get (inc ∷ incarnations_sent es) (n + (lost_sends floor p - k))) [
        | true ↦ λ e. sent_kept k skip n inc
            (incarnations_sent (cut_events floor p (suc k) skip es)) (incarnations_sent es)
            (leb-true (lost_sends floor p) k (sym e)) (λ i. sent_left_at (suc k) skip i es)
        | false ↦ λ e.
            let past : k < lost_sends floor p = leb-false (lost_sends floor p) k (sym e) in
            sent_left_at (suc k) skip n es ∙ sym (get_after inc (incarnations_sent es)
            (n + (lost_sends floor p - k)) (n + (lost_sends floor p - suc k)) (omega arith))
      ] refl
  sent_left_at k skip n (Recv m ∷ es) =
      elim (is_left floor m) as
      (λ b. slice_get
      (incarnations_sent
      (cond b (Recv (cut_name floor m) ∷ cut_events floor p k skip es) (cut_events floor p k
      skip es))) n ≡ slice_get (incarnations_sent es) (n + (lost_sends floor p - k))) [
        | true ↦ sent_left_at k skip n es
        | false ↦ sent_left_at k skip n es
      ]
  sent_left_at k zero n (Check state round ∷ es) = sent_left_at k zero n es
  sent_left_at k (suc zero) n (Check state round ∷ es) = sent_left_at k zero n es
  sent_left_at k (suc (suc skip)) n (Check state round ∷ es) = sent_left_at k (suc skip) n es
  sent_left_at k skip n (Mark from round ∷ es) =
      elim (nat_lt floor.round round) as
      (λ b. slice_get
      (incarnations_sent
      (cond b (Mark from round ∷ cut_events floor p k skip es) (cut_events floor p k skip es)))
      n ≡ slice_get (incarnations_sent es) (n + (lost_sends floor p - k))) [
        | true ↦ sent_left_at k skip n es
        | false ↦ sent_left_at k skip n es
      ]

  head_in : (x : Event) (xs : List Event) → Contains (x ∷ xs) x
  head_in x xs = Contains-append_left (x ∷ []) xs x (Contains-push [] x)

  tail_in : (x : Event) (xs : List Event) (y : Event) → Contains xs y → Contains (x ∷ xs) y
  tail_in x xs y c = Contains-append_right (x ∷ []) xs y c

  -- a receipt that is left is that of a message that is left
  pub record IsLeftOf (es : List Event) (m : MsgName) : Type 0 where
    pub whole : MsgName
    pub among : Contains es (Recv whole)
    pub is : is_left floor whole ≡ true
    pub name : m ≡ cut_name floor whole

  later : (x : Event) (es : List Event) (m : MsgName) → IsLeftOf es m → IsLeftOf (x ∷ es) m
  later x es m l = record
      { whole = l.whole; among = tail_in x es (Recv l.whole) l.among; is = l.is; name = l.name }

  skip_other : (x : Event) (xs es : List Event) (m : MsgName) → (x ≡ Recv m → ⊥)
      → (Contains xs (Recv m) → IsLeftOf es m) → Contains (x ∷ xs) (Recv m) → IsLeftOf es m
  skip_other x xs es m other rest c =
      elim (cons_cases x xs (Recv m) c) [ inl e ↦ absurd (other e) | inr d ↦ rest d ]

  pub received_left : (k skip : ℕ) (es : List Event) (m : MsgName)
      → Contains (cut_events floor p k skip es) (Recv m) → IsLeftOf es m
  received_left k skip [] m c = absurd (contains_nothing (Recv m) c)
  received_left k skip (Send to inc body ∷ es) m c =
      elim (nat_le (lost_sends floor p) k) as
      (λ b. Contains (cond b (Send to inc body ∷ cut_events floor p (suc k) skip es)
      (cut_events floor p (suc k) skip es)) (Recv m) → IsLeftOf (Send to inc body ∷ es) m) [
        | true ↦ skip_other (Send to inc body) (cut_events floor p (suc k) skip es)
            (Send to inc body ∷ es) m (λ e. cc)
            (λ d. later (Send to inc body) es m (received_left (suc k) skip es m d))
        | false ↦ λ d. later (Send to inc body) es m (received_left (suc k) skip es m d)
      ] c
  received_left k skip (Recv w ∷ es) m c =
      elim (is_left floor w) as
      (λ b. b ≡ is_left floor w → Contains (cond b (Recv (cut_name floor w) ∷ cut_events floor p
      k skip es) (cut_events floor p k skip es)) (Recv m) → IsLeftOf (Recv w ∷ es) m) [
        | true ↦ λ e d. elim
            (cons_cases (Recv (cut_name floor w)) (cut_events floor p k skip es) (Recv m) d) [
              | inl same ↦ let name : cut_name floor w ≡ m = cc same in record
                  { whole = w; among = head_in (Recv w) es; is = sym e; name = sym name }
              | inr rest ↦ later (Recv w) es m (received_left k skip es m rest)
            ]
        | false ↦ λ e d. later (Recv w) es m (received_left k skip es m d)
      ] refl c
  received_left k zero (Check state round ∷ es) m c = skip_other
      (Check state (cut_round floor.round round)) (cut_events floor p k zero es) (Check state round
      ∷ es) m (λ e. cc) (λ d. later (Check state round) es m (received_left k zero es m d)) c
  received_left k (suc zero) (Check state round ∷ es) m c = skip_other
      (Check state (cut_round floor.round round)) (cut_events floor p k zero es) (Check state round
      ∷ es) m (λ e. cc) (λ d. later (Check state round) es m (received_left k zero es m d)) c
  received_left k (suc (suc skip)) (Check state round ∷ es) m c =
      later (Check state round) es m (received_left k (suc skip) es m c)
  received_left k skip (Mark from round ∷ es) m c =
      elim (nat_lt floor.round round) as
      (λ b. Contains (cond b (Mark from round ∷ cut_events floor p k skip es)
      (cut_events floor p k skip es)) (Recv m) → IsLeftOf (Mark from round ∷ es) m) [
        | true ↦ skip_other (Mark from round) (cut_events floor p k skip es) (Mark from round ∷ es)
            m (λ e. cc) (λ d. later (Mark from round) es m (received_left k skip es m d))
        | false ↦ λ d. later (Mark from round) es m (received_left k skip es m d)
      ] c

  drop_other : (x : Event) (es : List Event) (m : MsgName) → (x ≡ Recv m → ⊥)
      → Contains (x ∷ es) (Recv m) → Contains es (Recv m)
  drop_other x es m other c =
      elim (cons_cases x es (Recv m) c) [ inl e ↦ absurd (other e) | inr d ↦ d ]

  -- and each receipt of one is left
  pub received_stays : (k skip : ℕ) (es : List Event) (m : MsgName) → is_left floor m ≡ true
      → Contains es (Recv m) → Contains (cut_events floor p k skip es) (Recv (cut_name floor m))
  received_stays k skip [] m l c = absurd (contains_nothing (Recv m) c)
  received_stays k skip (Send to inc body ∷ es) m l c =
      let rest = received_stays (suc k) skip es m l
      (drop_other (Send to inc body) es m (λ e. cc) c) in
      elim (nat_le (lost_sends floor p) k) as
      (λ b. Contains (cond b (Send to inc body ∷ cut_events floor p (suc k) skip es)
      (cut_events floor p (suc k) skip es)) (Recv (cut_name floor m))) [
        | true ↦ tail_in (Send to inc body) (cut_events floor p (suc k) skip es)
            (Recv (cut_name floor m)) rest
        | false ↦ rest
      ]
  received_stays k skip (Recv w ∷ es) m l c = elim (cons_cases (Recv w) es (Recv m) c) [
    | inl same ↦
        let name : w ≡ m = cc same in
        subst (λ (b : Bool). Contains
        (cond b (Recv (cut_name floor w) ∷ cut_events floor p k skip es) (cut_events floor p k
        skip es)) (Recv (cut_name floor m))) (sym (ap (is_left floor) name ∙ l))
        (subst (λ (v : MsgName). Contains (Recv (cut_name floor w) ∷ cut_events floor p k skip es)
        (Recv (cut_name floor v))) name
        (head_in (Recv (cut_name floor w)) (cut_events floor p k skip es)))
    | inr d ↦
        let rest = received_stays k skip es m l d in
        elim (is_left floor w) as (λ b. Contains (cond b (Recv (cut_name floor w) ∷ cut_events floor
        p k skip es) (cut_events floor p k skip es)) (Recv (cut_name floor m))) [
          | true ↦ tail_in (Recv (cut_name floor w)) (cut_events floor p k skip es)
              (Recv (cut_name floor m)) rest
          | false ↦ rest
        ]
  ]
  received_stays k zero (Check state round ∷ es) m l c = tail_in
      (Check state (cut_round floor.round round)) (cut_events floor p k zero es) (Recv (cut_name
      floor m)) (received_stays k zero es m l (drop_other (Check state round) es m (λ e. cc) c))
  received_stays k (suc zero) (Check state round ∷ es) m l c = tail_in
      (Check state (cut_round floor.round round)) (cut_events floor p k zero es) (Recv (cut_name
      floor m)) (received_stays k zero es m l (drop_other (Check state round) es m (λ e. cc) c))
  received_stays k (suc (suc skip)) (Check state round ∷ es) m l c =
      received_stays k (suc skip) es m l (drop_other (Check state round) es m (λ e. cc) c)
  received_stays k skip (Mark from round ∷ es) m l c =
      let rest = received_stays k skip es m l (drop_other (Mark from round) es m (λ e. cc) c) in
      elim (nat_lt floor.round round) as (λ b. Contains (cond b (Mark from round ∷ cut_events floor
      p k skip es) (cut_events floor p k skip es)) (Recv (cut_name floor m))) [
        | true ↦ tail_in (Mark from round) (cut_events floor p k skip es)
            (Recv (cut_name floor m)) rest
        | false ↦ rest
      ]
