-- What a restart at a line from the floor on leaves, in what is left.
use Rattle.std.proofs.Common.{◌≡◌, ℕ, zero, suc, ◌+◌, ◌-◌, ◌<◌, ◌≤◌, max, Bool, true, false, ◌&&◌}
use Rattle.std.proofs.Common.{◌||◌, cond, List, [], ◌∷◌, map, get_or, replicate, Option, Some, None}
use Rattle.std.proofs.Common.{refl, sym, ap, ◌∙◌, arith, inl, inr}
use Rattle.std.specs.Prelude.{nat_le, nat_lt, ◌==◌}
use Rattle.std.specs.List.{filter, filter_map, list_all, list_any, range_with_len}
use Rattle.std.proofs.lemmas.Bool.{cases_lt, le-leb, lt-leb, ltb-true, or_parts}
use Rattle.line_names.specs.declared.choices.Choice.{Choice}
use Rattle.line_names.specs.declared.choices.Choice.TheVariants.{Check as AtCheck, Now}
use Rattle.line_names.specs.Order.{IsNoLater}
use Rattle.line_tape.specs.declared.events.Event.{Event}
use Rattle.line_tape.specs.declared.events.Event.TheVariants.{Send, Recv, Check, Mark}
use Rattle.line_tape.specs.Event.{state_of, stored_state}
use Rattle.line_tape.specs.History.{Process}
use Rattle.line_tape.specs.Restart.{is_kept, HasFurther}
use Rattle.line_moves.specs.Listed.{ListedRound}
use Rattle.line_moves.specs.Restarts.{restored_state}
use Rattle.line_cuts.specs.Cuts.{Floor, lost_sends, floor_check, lost_checks, is_left, cut_name}
use Rattle.line_cuts.specs.Cuts.{cut_events, cut_tape, cut_choice, whole_choice}
use Rattle.line_cuts.proofs.StepCuts.{cut_process}
use Rattle.line_live.specs.CutMachines.{cut_listed, is_listed_on}

-- the states stored with the checks that are left
states_after : (floor : Floor) (p k : ℕ) (es : List Event)
    → filter_map state_of (cut_events floor p k zero es) ≡ filter_map state_of es
states_after floor p k [] = refl
states_after floor p k (Send to inc body ∷ es) =
    elim (nat_le (lost_sends floor p) k) as
    (λ b. filter_map state_of
    (cond b (Send to inc body ∷ cut_events floor p (suc k) zero es)
    (cut_events floor p (suc k) zero es)) ≡ filter_map state_of es)
    [ true ↦ states_after floor p (suc k) es | false ↦ states_after floor p (suc k) es ]
states_after floor p k (Recv m ∷ es) =
    elim (is_left floor m) as
    (λ b. filter_map state_of
    (cond b (Recv (cut_name floor m) ∷ cut_events floor p k zero es)
    (cut_events floor p k zero es)) ≡ filter_map state_of es)
    [ true ↦ states_after floor p k es | false ↦ states_after floor p k es ]
states_after floor p k (Check state round ∷ es) =
    ap (λ (v : List (List ℕ)). state ∷ v) (states_after floor p k es)
states_after floor p k (Mark from round ∷ es) =
    elim (nat_lt floor.round round) as
    (λ b. filter_map state_of
    (cond b (Mark from round ∷ cut_events floor p k zero es) (cut_events floor p k zero es))
    ≡ filter_map state_of es)
    [ true ↦ states_after floor p k es | false ↦ states_after floor p k es ]

get_next : (x : List ℕ) (xs : List (List ℕ)) (i j : ℕ) → i ≡ suc j
    → get_or (x ∷ xs) i [] ≡ get_or xs j []
get_next x xs i j e = ap (λ v. get_or (x ∷ xs) v []) e

states_from : (floor : Floor) (p k s n : ℕ) (es : List Event) → get_or (filter_map state_of
    (cut_events floor p k (suc s) es)) n [] ≡ get_or (filter_map state_of es) (n + s) []
states_from floor p k s n [] = refl
states_from floor p k s n (Send to inc body ∷ es) =
    elim (nat_le (lost_sends floor p) k) as
    (λ b. get_or
    (filter_map state_of
    (cond b (Send to inc body ∷ cut_events floor p (suc k) (suc s) es)
    (cut_events floor p (suc k) (suc s) es))) n [] ≡ get_or (filter_map state_of es) (n + s) [])
    [ true ↦ states_from floor p (suc k) s n es | false ↦ states_from floor p (suc k) s n es ]
states_from floor p k s n (Recv m ∷ es) =
    elim (is_left floor m) as
    (λ b. get_or
    (filter_map state_of
    (cond b (Recv (cut_name floor m) ∷ cut_events floor p k (suc s) es)
    (cut_events floor p k (suc s) es))) n [] ≡ get_or (filter_map state_of es) (n + s) [])
    [ true ↦ states_from floor p k s n es | false ↦ states_from floor p k s n es ]
states_from floor p k zero n (Check state round ∷ es) =
    let same : n ≡ n + 0 = omega arith in
    ap (λ (v : List (List ℕ)). get_or (state ∷ v) n []) (states_after floor p k es) ∙ ap
    (λ v. get_or (state ∷ filter_map state_of es) v []) same
states_from floor p k (suc s) n (Check state round ∷ es) = states_from floor p k s n es ∙ sym
    (get_next state (filter_map state_of es) (n + suc s) (n + s) (omega arith))
states_from floor p k s n (Mark from round ∷ es) =
    elim (nat_lt floor.round round) as
    (λ b. get_or
    (filter_map state_of
    (cond b (Mark from round ∷ cut_events floor p k (suc s) es)
    (cut_events floor p k (suc s) es))) n [] ≡ get_or (filter_map state_of es) (n + s) [])
    [ true ↦ states_from floor p k s n es | false ↦ states_from floor p k s n es ]

-- the state stored with a check from the floor on
stored_left : (floor : Floor) (p skip d c : ℕ) (es : List Event) → skip - 1 < c → d + (skip - 1) ≡ c
    → stored_state (cut_events floor p 0 skip es) d ≡ stored_state es c
stored_left floor p skip zero c es h e = absurd (omega arith)
stored_left floor p skip (suc d) zero es h e = absurd (omega arith)
stored_left floor p zero (suc d) (suc c) es h e =
    let same : d ≡ c = omega arith in
    ap (λ (v : List (List ℕ)). get_or v d []) (states_after floor p 0 es) ∙ ap
    (λ v. get_or (filter_map state_of es) v []) same
stored_left floor p (suc s) (suc d) (suc c) es h e =
    let same : d + s ≡ c = omega arith in
    states_from floor p 0 s d es ∙ ap (λ v. get_or (filter_map state_of es) v []) same

pub state_same : (floor : Floor) (p : ℕ) (es : List Event) (choice : Choice)
    → IsNoLater (cut_choice floor p (AtCheck (floor_check floor p))) choice
    → restored_state (cut_tape floor p es) choice ≡ restored_state es (whole_choice floor p choice)
state_same floor p es Now h = refl
state_same floor p es (AtCheck c) h =
    ap Some (at c (max (c + lost_checks floor p) (floor_check floor p)) (omega arith) refl h)
  where
    at : (d c : ℕ) → floor_check floor p ≤ d + lost_checks floor p
        → c ≡ max (d + lost_checks floor p) (floor_check floor p) → floor_check floor p -
        lost_checks floor p ≤ d → stored_state (cut_tape floor p es) d ≡ stored_state es c
    at d zero some e h =
        let none : d ≡ 0 = omega arith in
        ap (stored_state (cut_tape floor p es)) none
    at d (suc c) some e h =
        stored_left floor p (floor_check floor p) d (suc c) es (omega arith) (omega arith)

-- a process has a further incarnation there where it has one in the whole
pub further_same : (floor : Floor) (p : ℕ) (process : Process) (choice : Choice) → HasFurther
    (cut_process floor p process) choice → HasFurther process (whole_choice floor p choice)
further_same floor p process (AtCheck c) h = h
further_same floor p process Now h = tt

pub further_cut : (floor : Floor) (p : ℕ) (process : Process) (choice : Choice) → HasFurther process
    (whole_choice floor p choice) → HasFurther (cut_process floor p process) choice
further_cut floor p process (AtCheck c) h = h
further_cut floor p process Now h = tt

-- a check from the floor on is kept there where it is in the whole
pub kept_same : (floor : Floor) (p c : ℕ) (choice : Choice)
    → IsNoLater (cut_choice floor p (AtCheck (floor_check floor p))) choice → floor_check floor p ≤
    c → is_kept choice (c - lost_checks floor p) ≡ is_kept (whole_choice floor p choice) c
kept_same floor p c Now low above = refl
kept_same floor p c (AtCheck k) low above =
    let lower : floor_check floor p - lost_checks floor p ≤ k = low in
    elim (cases_lt (max (k + lost_checks floor p) (floor_check floor p)) c) [
      | inl past ↦
          let later : k < c - lost_checks floor p = omega arith in
          lt-leb (c - lost_checks floor p) k later ∙ sym
          (lt-leb c (max (k + lost_checks floor p) (floor_check floor p)) past)
      | inr within ↦ le-leb (c - lost_checks floor p) k (omega arith) ∙ sym
          (le-leb c (max (k + lost_checks floor p) (floor_check floor p)) within)
    ]

-- of marks from the floor on the same are kept
pub damage_kept : (floor : Floor) (p : ℕ) (choice : Choice) (xs : List ℕ)
    → IsNoLater (cut_choice floor p (AtCheck (floor_check floor p))) choice
    → filter (is_kept choice)
    (map (λ d. d - lost_checks floor p) (filter (λ d. nat_lt (floor_check floor p) d) xs))
    ≡ map (λ d. d - lost_checks floor p) (filter (λ d. nat_lt (floor_check floor p) d)
    (filter (is_kept (whole_choice floor p choice)) xs))
damage_kept floor p choice [] low = refl
damage_kept floor p choice (x ∷ xs) low =
    let ih = damage_kept floor p choice xs low in
    let whole : List ℕ = filter (is_kept (whole_choice floor p choice)) xs in
    let kept : List ℕ = map (λ d. d - lost_checks floor p)
    (filter (λ d. nat_lt (floor_check floor p) d) xs) in
    elim (nat_lt (floor_check floor p) x) as (λ b. b ≡ nat_lt (floor_check floor p) x
    → filter (is_kept choice) (map (λ d. d - lost_checks floor p) (cond b (x ∷ filter (λ d. nat_lt
    (floor_check floor p) d) xs) (filter (λ d. nat_lt (floor_check floor p) d) xs)))
    ≡ map (λ d. d - lost_checks floor p) (filter (λ d. nat_lt (floor_check floor p) d)
    (cond (is_kept (whole_choice floor p choice) x) (x ∷ whole) whole))) [
      | true ↦ λ e.
          let above : floor_check floor p < x = ltb-true (floor_check floor p) x (sym e) in
          ap (λ b. cond b ((x - lost_checks floor p) ∷ filter (is_kept choice) kept)
          (filter (is_kept choice) kept)) (kept_same floor p x choice low (omega arith))
          ∙ elim (is_kept (whole_choice floor p choice) x) as (λ b. cond b ((x - lost_checks floor
          p) ∷ filter (is_kept choice) kept) (filter (is_kept choice) kept)
          ≡ map (λ d. d - lost_checks floor p)
          (filter (λ d. nat_lt (floor_check floor p) d) (cond b (x ∷ whole) whole))) [
            | true ↦ ap (λ (v : List ℕ). (x - lost_checks floor p) ∷ v) ih ∙ ap
                (λ b. map (λ d. d - lost_checks floor p)
                (cond b (x ∷ filter (λ d. nat_lt (floor_check floor p) d) whole)
                (filter (λ d. nat_lt (floor_check floor p) d) whole))) e
            | false ↦ ih
          ]
      | false ↦ λ e.
          ih ∙ elim (is_kept (whole_choice floor p choice) x) as
          (λ b. map (λ d. d - lost_checks floor p)
          (filter (λ d. nat_lt (floor_check floor p) d) whole) ≡ map (λ d. d - lost_checks floor
          p) (filter (λ d. nat_lt (floor_check floor p) d) (cond b (x ∷ whole) whole))) [
            | true ↦ ap (λ b. map (λ d. d - lost_checks floor p)
                (cond b (x ∷ filter (λ d. nat_lt (floor_check floor p) d) whole)
                (filter (λ d. nat_lt (floor_check floor p) d) whole))) e
            | false ↦ refl
          ]
    ] refl

-- no bar is left by a restart
abbrev no_bars : ℕ → List (Option ℕ)
no_bars n = replicate n None

pub none_at : (n p : ℕ) → get_or (no_bars n) p None ≡ None
none_at zero p = refl
none_at (suc n) zero = refl
none_at (suc n) (suc p) = none_at n p

-- a check that no mark is on has none among some
pub any_kept : (c : ℕ) (f : ℕ → Bool) (xs : List ℕ) → list_any (λ d. d == c) xs ≡ false
    → list_any (λ d. d == c) (filter f xs) ≡ false
any_kept c f [] none = refl
any_kept c f (x ∷ xs) none =
    let parts = or_parts (x == c) (list_any (λ d. d == c) xs) none in
    let ih = any_kept c f xs parts.1 in
    elim (f x) as (λ b. list_any (λ d. d == c) (cond b (x ∷ filter f xs) (filter f xs)) ≡ false) [
      | true ↦ ap (λ b. b || list_any (λ d. d == c) (filter f xs)) parts.0 ∙ ih
      | false ↦ ih
    ]

-- of rounds, those that are listed and stay, in either order
pub rounds_same : (floor : Floor) (kept whole : ListedRound → Bool) (rounds : List ListedRound)
    → ((round : ListedRound) → is_listed_on floor round ≡ true
    → kept (cut_listed floor round) ≡ whole round)
    → filter kept (map (cut_listed floor) (filter (is_listed_on floor) rounds))
    ≡ map (cut_listed floor) (filter (is_listed_on floor) (filter whole rounds))
rounds_same floor kept whole [] same = refl
rounds_same floor kept whole (round ∷ rounds) same =
    let ih = rounds_same floor kept whole rounds same in
    let rest : List ListedRound = filter whole rounds in
    let here : List ListedRound = filter kept
    (map (cut_listed floor) (filter (is_listed_on floor) rounds)) in
    elim (is_listed_on floor round) as (λ b. is_listed_on floor round ≡ b
    → filter kept (map (cut_listed floor)
    (cond b (round ∷ filter (is_listed_on floor) rounds) (filter (is_listed_on floor) rounds)))
    ≡ map (cut_listed floor)
    (filter (is_listed_on floor) (cond (whole round) (round ∷ rest) rest))) [
      | true ↦ λ e.
          ap (λ b. cond b (cut_listed floor round ∷ here) here) (same round e)
          ∙ elim (whole round) as (λ b. cond b (cut_listed floor round ∷ here) here
          ≡ map (cut_listed floor) (filter (is_listed_on floor) (cond b (round ∷ rest) rest))) [
            | true ↦ ap (λ (v : List ListedRound). cut_listed floor round ∷ v) ih ∙ sym
                (ap (λ b. map (cut_listed floor) (cond b (round ∷ filter (is_listed_on floor) rest)
                (filter (is_listed_on floor) rest))) e)
            | false ↦ ih
          ]
      | false ↦ λ e.
          ih ∙ elim (whole round) as (λ b. map (cut_listed floor) (filter (is_listed_on floor) rest)
          ≡ map (cut_listed floor) (filter (is_listed_on floor) (cond b (round ∷ rest) rest))) [
            | true ↦ sym (ap (λ b. map (cut_listed floor) (cond b
                (round ∷ filter (is_listed_on floor) rest) (filter (is_listed_on floor) rest))) e)
            | false ↦ refl
          ]
    ] refl

-- two tests that agree below a number
pub all_below : (f g : ℕ → Bool) (a n : ℕ) → ((v : ℕ) → a ≤ v → v < a + n → f v ≡ g v)
    → list_all f (range_with_len a n) ≡ list_all g (range_with_len a n)
all_below f g a zero same = refl
all_below f g a (suc n) same = ap (λ b. b && list_all f (range_with_len (a + 1) n))
    (same a (omega arith) (omega arith)) ∙ ap (λ b. g a && b)
    (all_below f g (a + 1) n (λ v l h. same v (omega arith) (omega arith)))
