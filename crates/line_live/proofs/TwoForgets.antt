-- To let go once more is to let go once, further on.
use Rattle.std.proofs.Common.{◌≡◌, ℕ, zero, suc, ◌+◌, ◌-◌, ◌<◌, ◌≤◌, Bool, true, false, ◌&&◌, cond}
use Rattle.std.proofs.Common.{List, [], ◌∷◌, length, map, Option, Some, None, refl, sym, ap, ◌∙◌}
use Rattle.std.proofs.Common.{arith, inl, inr}
use Rattle.std.specs.Prelude.{nat_le, nat_lt}
use Rattle.std.specs.List.{All, filter, list_all, range_with_len}
use Rattle.std.proofs.lemmas.List.Elements.{All-head, All-tail}
use Rattle.std.proofs.lemmas.Bool.{cases_lt, ltb-true, ltb-false, lt-ltb, le-ltb, le-leb, lt-leb}
use Rattle.std.proofs.lemmas.Simd.{map-map}
use Rattle.std.proofs.lemmas.List.{get_or_past}
use Rattle.std.proofs.lemmas.List.FromFn.{length-map-range_with_len, get_or-map-range_with_len}
use Rattle.line_names.specs.declared.messages.MsgName.{MsgName}
use Rattle.line_tape.specs.History.{Process}
use Rattle.line_tape.specs.Views.{MarksView, bar_at, damaged_at}
use Rattle.line_moves.specs.Listed.{ListedRound, check_in}
use Rattle.line_world.specs.Machine.{Machine}
use Rattle.line_cuts.specs.Cuts.{Floor, floor_check, lost_checks, cut_bar, cut_history, cut_marks}
use Rattle.line_cuts.specs.Cuts.{cut_name, whole_floor}
use Rattle.line_cuts.proofs.SurvivalCuts.{bar_cut, damaged_cut}
use Rattle.line_cuts.proofs.TwoCuts.{check_both, history_both, name_both, sends_both, AreBoth}
use Rattle.line_live.specs.CutMachines.{cut_listed, cut_machine, is_listed_on, IsFurther}
use Rattle.line_live.proofs.ListLemmas.{map_same}
use Rattle.line_cuts.proofs.SameLists.{same_list}

-- a floor's check, one of what it leaves, and the two as one
record AreChecks (first next both : ℕ) : Type 0 where
  sum : both ≡ next + (first - 1)
  some : 1 ≤ first → 1 ≤ next

-- a number lessened twice
less_twice : (first next both x : ℕ) → AreChecks first next both
    → (x - (first - 1)) - (next - 1) ≡ x - (both - 1)
less_twice zero next both x are = omega (arith, are.sum)
less_twice (suc f) next both x are = omega (arith, are.sum, are.some (omega arith))

-- marks after both
marks_twice : (first next both : ℕ) → AreChecks first next both → (xs : List ℕ)
    → map (λ d. d - (next - 1)) (filter (λ d. nat_lt next d) (map (λ d. d - (first - 1)) (filter
    (λ d. nat_lt first d) xs))) ≡ map (λ d. d - (both - 1)) (filter (λ d. nat_lt both d) xs)
marks_twice first next both are [] = refl
marks_twice first next both are (x ∷ xs) =
    let ih = marks_twice first next both are xs in
    let once : List ℕ = map (λ d. d - (first - 1)) (filter (λ d. nat_lt first d) xs) in
    let whole : List ℕ = filter (λ d. nat_lt both d) xs in
    elim (nat_lt first x) as (λ b. b ≡ nat_lt first x
    → map (λ d. d - (next - 1)) (filter (λ d. nat_lt next d) (map (λ d. d - (first - 1))
    (cond b (x ∷ filter (λ d. nat_lt first d) xs) (filter (λ d. nat_lt first d) xs))))
    ≡ map (λ d. d - (both - 1)) (cond (nat_lt both x) (x ∷ whole) whole)) [
      | true ↦ λ e.
          let later : first < x = ltb-true first x (sym e) in
          ap (λ b. map (λ d. d - (next - 1)) (cond b ((x - (first - 1)) ∷ filter (λ d. nat_lt next
          d) once) (filter (λ d. nat_lt next d) once))) (test_twice first next both x are later)
          ∙ elim (nat_lt both x) as
          (λ b. map (λ d. d - (next - 1))
          (cond b ((x - (first - 1)) ∷ filter (λ d. nat_lt next d) once) (filter
          (λ d. nat_lt next d) once)) ≡ map (λ d. d - (both - 1)) (cond b (x ∷ whole) whole)) [
            | true ↦ ap (λ n. n ∷ map (λ d. d - (next - 1)) (filter (λ d. nat_lt next d) once))
                (less_twice first next both x are) ∙ ap (λ (v : List ℕ). (x - (both - 1)) ∷ v) ih
            | false ↦ ih
          ]
      | false ↦ λ e.
          let early : x ≤ first = ltb-false first x (sym e) in
          ih ∙ sym (ap (λ b. map (λ d. d - (both - 1)) (cond b (x ∷ whole) whole))
          (test_none first next both x are early))
    ] refl
  where
    test_twice : (first next both x : ℕ) → AreChecks first next both → first < x
        → nat_lt next (x - (first - 1)) ≡ nat_lt both x
    test_twice first next both x are later = elim (cases_lt both x) [
      | inl below ↦ lt-ltb next (x - (first - 1)) (omega (arith, are.sum)) ∙ sym
          (lt-ltb both x below)
      | inr past ↦ le-ltb next (x - (first - 1)) (omega (arith, are.sum)) ∙ sym (le-ltb both x past)
    ]

    test_none : (first next both x : ℕ) → AreChecks first next both → x ≤ first
        → nat_lt both x ≡ false
    test_none zero next both x are early = le-ltb both x (omega arith)
    test_none (suc f) next both x are early =
        le-ltb both x (omega (arith, are.sum, are.some (omega arith)))

-- a bar after both
bar_twice : (first next both : ℕ) → AreChecks first next both → (bar : Option ℕ)
    → cut_bar (next - 1) (cut_bar (first - 1) bar) ≡ cut_bar (both - 1) bar
bar_twice first next both are None = refl
bar_twice first next both are (Some bar) = ap Some (less_twice first next both bar are)

-- whether a check is on both
on_twice : (first next both c : ℕ) → AreChecks first next both
    → nat_le both c ≡ (nat_le first c && nat_le next (c - (first - 1)))
on_twice first next both c are = elim (cases_lt c first) [
  | inl below ↦
      let some : 1 ≤ next = are.some (omega arith) in
      lt-leb both c (omega (arith, are.sum, some)) ∙ sym
      (ap (λ b. b && nat_le next (c - (first - 1))) (lt-leb first c below))
  | inr above ↦ elim (cases_lt c both) [
    | inl under ↦ lt-leb both c under ∙ sym (ap (λ b. b && nat_le next (c - (first - 1)))
        (le-leb first c above) ∙ lt-leb next (c - (first - 1)) (omega (arith, are.sum)))
    | inr over ↦ le-leb both c over ∙ sym (ap (λ b. b && nat_le next (c - (first - 1)))
        (le-leb first c above) ∙ le-leb next (c - (first - 1)) (omega (arith, are.sum)))
  ]
]

-- a test of both is one of each
all_both : (f g h : ℕ → Bool) (a n : ℕ) → ((v : ℕ) → a ≤ v → v < a + n → h v ≡ (f v && g v))
    → list_all h (range_with_len a n)
    ≡ (list_all f (range_with_len a n) && list_all g (range_with_len a n))
all_both f g h a zero same = refl
all_both f g h a (suc n) same =
    ap (λ b. b && list_all h (range_with_len (a + 1) n)) (same a (omega arith) (omega arith))
    ∙ ap (λ b. (f a && g a) && b)
    (all_both f g h (a + 1) n (λ v l k. same v (omega arith) (omega arith)))
    ∙ mixed (f a) (g a) (list_all f (range_with_len (a + 1) n))
    (list_all g (range_with_len (a + 1) n))
  where
    mixed : (x y z w : Bool) → ((x && y) && (z && w)) ≡ ((x && z) && (y && w))
    mixed true true z w = refl
    mixed true false true w = refl
    mixed true false false w = refl
    mixed false y z w = refl

map_all : {X Y : Type 0} (f g : X → Y) (xs : List X) → ((x : X) → f x ≡ g x) → map f xs ≡ map g xs
map_all f g [] same = refl
map_all {X} {Y} f g (x ∷ xs) same = ap (λ (v : Y). v ∷ map f xs) (same x) ∙ ap
    (λ (v : List Y). g x ∷ v) (map_all f g xs same)

module _ (floor later : Floor) (machine : Machine) (is : IsFurther floor later machine) where
  abbrev both : Floor
  both = whole_floor floor later

  are_both : AreBoth floor later both
  are_both = record { base = sends_both floor later is.sends; round = refl; rising = is.rising }

  checks_are : (p : ℕ) → p < length machine.history
      → AreChecks (floor_check floor p) (floor_check later p) (floor_check both p)
  checks_are p h =
      record { sum = check_both floor later p (omega (arith, is.checks)); some = is.some p h }

  damaged_twice : (cut_marks later (cut_marks floor machine.marks)).damaged
      ≡ (cut_marks both machine.marks).damaged
  damaged_twice =
      let cut_all : (f : Floor) (v : MarksView)
      → length (cut_marks f v).damaged
      ≡ length v.damaged = λ f v. length-map-range_with_len (λ p. map (λ c. c - lost_checks f p)
      (filter (λ c. nat_lt (floor_check f p) c) (damaged_at v p))) 0 (length v.damaged) in
      same_list [] (cut_marks later (cut_marks floor machine.marks)).damaged
      (cut_marks both machine.marks).damaged
      (cut_all later (cut_marks floor machine.marks) ∙ cut_all floor machine.marks ∙ sym
      (cut_all both machine.marks))
      (λ p h.
      let within : p < length machine.history = omega (
        arith,
        h,
        cut_all later
            (cut_marks floor machine.marks),
        cut_all floor machine.marks,
        is.marked,
      ) in
      damaged_cut later machine.history (cut_marks floor machine.marks) p
      ∙ ap (λ xs. map (λ d. d - lost_checks later p) (filter (λ d. nat_lt (floor_check later p) d)
      xs)) (damaged_cut floor machine.history machine.marks p)
      ∙ marks_twice (floor_check floor p) (floor_check later p) (floor_check both p)
      (checks_are p within) (damaged_at machine.marks p)
      ∙ sym (damaged_cut both machine.history machine.marks p))

  bars_twice : (cut_marks later (cut_marks floor machine.marks)).bars
      ≡ (cut_marks both machine.marks).bars
  bars_twice =
      let cut_all : (f : Floor) (v : MarksView)
      → length (cut_marks f v).bars ≡ length v.bars = λ f v. length-map-range_with_len
      (λ p. cut_bar (lost_checks f p) (bar_at v p)) 0 (length v.bars) in
      same_list None (cut_marks later (cut_marks floor machine.marks)).bars
      (cut_marks both machine.marks).bars
      (cut_all later (cut_marks floor machine.marks) ∙ cut_all floor machine.marks ∙ sym
      (cut_all both machine.marks))
      (λ p h.
      let within : p < length machine.history = omega (
        arith,
        h,
        cut_all later
            (cut_marks floor machine.marks),
        cut_all floor machine.marks,
        is.barred,
      ) in
      bar_cut later machine.history (cut_marks floor machine.marks) p
      ∙ ap (cut_bar (lost_checks later p)) (bar_cut floor machine.history machine.marks p)
      ∙ bar_twice (floor_check floor p) (floor_check later p) (floor_check both p)
      (checks_are p within) (bar_at machine.marks p)
      ∙ sym (bar_cut both machine.history machine.marks p))

  -- the index of a check there
  check_cut : (f : Floor) (round : ListedRound) (p : ℕ)
      → check_in (cut_listed f round) p ≡ check_in round p - lost_checks f p
  check_cut f round p = elim (cases_lt p (length round.checks)) [
    | inl within ↦ get_or-map-range_with_len (λ q. check_in round q - lost_checks f q) 0
        (length round.checks) p p 0 within (omega arith)
    | inr past ↦
        let none : 0 ≡ check_in round p - lost_checks f p = omega
        (arith, get_or_past round.checks p 0 past) in
        get_or_past (cut_listed f round).checks p 0 (omega (
          arith,
          past,
          length-map-range_with_len
              (λ q. check_in round q - lost_checks f q) 0 (length round.checks),
        )) ∙ none
  ]

  -- a listed round is on both where it is on each
  listed_twice : (round : ListedRound) → is_listed_on both round
      ≡ (is_listed_on floor round && is_listed_on later (cut_listed floor round))
  listed_twice round =
      let n : ℕ = length machine.history in
      let f : ℕ → Bool = λ p. nat_le (floor_check floor p) (check_in round p) in
      let g : ℕ → Bool = λ p. nat_le (floor_check later p) (check_in (cut_listed floor round) p) in
      let h : ℕ → Bool = λ p. nat_le (floor_check both p) (check_in round p) in
      ap (λ m. list_all h (range_with_len 0 m)) (length-map-range_with_len
      (λ p. floor_check later p + lost_checks floor p) 0 (length later.checks) ∙ is.checks)
      ∙ all_both f g h 0 n (λ p l k.
      let within : p < n = omega arith in
      on_twice (floor_check floor p) (floor_check later p) (floor_check both p) (check_in round p)
      (checks_are p within)
      ∙ sym (ap (λ c. nat_le (floor_check floor p) (check_in round p)
      && nat_le (floor_check later p) c) (check_cut floor round p)))
      ∙ ap (λ m. list_all f (range_with_len 0 m) && list_all g (range_with_len 0 n)) (sym is.first)
      ∙ ap (λ m. list_all f (range_with_len 0 (length floor.checks))
      && list_all g (range_with_len 0 m)) (sym is.checks)

  -- and is then the same
  round_twice : (round : ListedRound) → length round.checks ≡ length machine.history
      → cut_listed later (cut_listed floor round) ≡ cut_listed both round
  round_twice round count =
      let make : List ℕ → List (List (List MsgName)) → ListedRound = λ indices channels. record
      { number = round.number; checks = indices; channels = channels } in
      let few : length (cut_listed floor round).checks
      ≡ length round.checks = length-map-range_with_len
      (λ p. check_in round p - lost_checks floor p) 0 (length round.checks) in
      let indices : (cut_listed later (cut_listed floor round)).checks
      ≡ (cut_listed both round).checks =
      ap (λ n. map (λ p. check_in (cut_listed floor round) p - lost_checks later p)
      (range_with_len 0 n)) few
      ∙ map_same (λ p. check_in (cut_listed floor round) p - lost_checks later p)
      (λ p. check_in round p - lost_checks both p) 0 (length round.checks) (λ p l h.
      ap (λ c. c - lost_checks later p) (check_cut floor round p) ∙ less_twice (floor_check floor p)
      (floor_check later p) (floor_check both p) (check_in round p)
      (checks_are p (omega (arith, count)))) in
      let names : (messages : List MsgName)
      → map (cut_name later) (map (cut_name floor) messages) ≡ map (cut_name both) messages =
      λ messages. map-map (cut_name later) (cut_name floor) messages ∙ map_all (λ m. cut_name later
      (cut_name floor m)) (cut_name both) messages (name_both floor later both are_both 0) in
      let row : (row : List (List MsgName))
      → map (λ messages. map (cut_name later) messages) (map (λ messages. map
      (cut_name floor) messages) row) ≡ map (λ messages. map (cut_name both) messages) row =
      λ row. map-map (λ messages. map (cut_name later) messages)
      (λ messages. map (cut_name floor) messages) row ∙ map_all
      (λ messages. map (cut_name later) (map (cut_name floor) messages))
      (λ messages. map (cut_name both) messages) row names in
      let channels : (cut_listed later (cut_listed floor round)).channels
      ≡ (cut_listed both round).channels =
      map-map (λ r. map (λ messages. map (cut_name later) messages) r)
      (λ r. map (λ messages. map (cut_name floor) messages) r) round.channels
      ∙ map_all (λ r. map (λ messages. map (cut_name later) messages)
      (map (λ messages. map (cut_name floor) messages) r))
      (λ r. map (λ messages. map (cut_name both) messages) r) round.channels row in
      ap (λ (v : List ℕ). make v (cut_listed later (cut_listed floor round)).channels) indices ∙ ap
      (make (cut_listed both round).checks) channels

  rounds_twice : (rounds : List ListedRound)
      → All (λ (round : ListedRound). length round.checks ≡ length machine.history) rounds
      → map (cut_listed later) (filter (is_listed_on later) (map (cut_listed floor) (filter
      (is_listed_on floor) rounds))) ≡ map (cut_listed both) (filter (is_listed_on both) rounds)
  rounds_twice [] counts = refl
  rounds_twice (round ∷ rounds) counts =
      let shaped : ListedRound
      → Type 0 = λ (v : ListedRound). length v.checks ≡ length machine.history in
      let ih = rounds_twice rounds (All-tail shaped round rounds counts) in
      let once : List ListedRound = map (cut_listed floor) (filter (is_listed_on floor) rounds) in
      let whole : List ListedRound = filter (is_listed_on both) rounds in
      elim (is_listed_on floor round) as (λ b.
      map (cut_listed later) (filter (is_listed_on later) (map (cut_listed floor) (cond b
      (round ∷ filter (is_listed_on floor) rounds) (filter (is_listed_on floor) rounds))))
      ≡ map (cut_listed both)
      (cond (b && is_listed_on later (cut_listed floor round)) (round ∷ whole) whole)) [
        | true ↦ elim (is_listed_on later (cut_listed floor round)) as
            (λ b. map (cut_listed later)
            (cond b (cut_listed floor round ∷ filter (is_listed_on later) once) (filter
            (is_listed_on later) once)) ≡ map (cut_listed both) (cond b (round ∷ whole) whole)) [
              | true ↦ ap (λ (v : ListedRound). v
                  ∷ map (cut_listed later) (filter (is_listed_on later) once))
                  (round_twice round (All-head shaped round rounds counts)) ∙ ap
                  (λ (v : List ListedRound). cut_listed both round ∷ v) ih
              | false ↦ ih
            ]
        | false ↦ ih
      ]
      ∙ sym (ap (λ b. map (cut_listed both) (cond b (round ∷ whole) whole)) (listed_twice round))

  pub machine_both : cut_machine later (cut_machine floor machine) ≡ cut_machine both machine
  machine_both =
      let make : List Process → List (List ℕ) → List (Option ℕ) → List ListedRound
      → Machine = λ history damaged bars rounds. record machine {
        history = history;
        marks =
            record { damaged = damaged; bars = bars };
        rounds = rounds;
      } in
      let rounds : List ListedRound = map (cut_listed later) (filter (is_listed_on later)
      (map (cut_listed floor) (filter (is_listed_on floor) machine.rounds))) in
      ap (λ (v : List Process). make v (cut_marks later (cut_marks floor machine.marks)).damaged
      (cut_marks later (cut_marks floor machine.marks)).bars rounds)
      (history_both floor later machine.history is.checks is.sends is.some is.rising)
      ∙ ap (λ (v : List (List ℕ)). make (cut_history both machine.history) v
      (cut_marks later (cut_marks floor machine.marks)).bars rounds) damaged_twice
      ∙ ap (λ (v : List (Option ℕ)). make (cut_history both machine.history)
      (cut_marks both machine.marks).damaged v rounds) bars_twice
      ∙ ap (λ (v : List ListedRound). make (cut_history both machine.history)
      (cut_marks both machine.marks).damaged (cut_marks both machine.marks).bars v)
      (rounds_twice machine.rounds is.listed)
