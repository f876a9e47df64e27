-- Damage and bars from the floor on: what is left of the marks then, and that the floor survives.
use Rattle.std.proofs.Common.{◌≡◌, ℕ, zero, suc, ◌-◌, ◌<◌, ◌≤◌, Bool, true, false, not, ◌&&◌, ◌||◌}
use Rattle.std.proofs.Common.{cond, leb, ltb, eqb, List, [], ◌∷◌, ◌++◌, length, map, set, get_or}
use Rattle.std.proofs.Common.{Option, Some, None, refl, sym, ap, ◌∙◌, arith, inl, inr}
use Rattle.std.specs.Prelude.{nat_le, nat_lt, ◌==◌, IsTrue}
use Rattle.std.specs.List.{filter, list_any}
use Rattle.std.specs.Option.{option_map_or}
use Rattle.std.proofs.lemmas.Bool.{cases_eq, cases_lt, le-leb, lt-ltb, ne_eqb, le-ltb, lt-leb}
use Rattle.std.proofs.lemmas.Bool.{false≢true}
use Rattle.std.proofs.lemmas.List.{length-set, get_or-set_same, get_or-set_other, map-append}
use Rattle.std.proofs.lemmas.List.{set_past}
use Rattle.std.proofs.lemmas.List.Elements.{filter-append}
use Rattle.std.proofs.lemmas.List.FromFn.{length-map-range_with_len}
use Rattle.line_names.specs.declared.choices.Choice.TheVariants.{Check as AtCheck}
use Rattle.line_tape.specs.Event.{checks}
use Rattle.line_tape.specs.History.{Process, tape_at}
use Rattle.line_tape.specs.Survival.{survives, is_allowed, is_barred, is_damaged}
use Rattle.line_tape.specs.Views.{MarksView, bar_at, damaged_at, with_bar, with_mark}
use Rattle.line_cuts.specs.Cuts.{Floor, floor_check, lost_checks, cut_bar, cut_history, cut_marks}
use Rattle.line_cuts.proofs.ConsistentCuts.{tape_cut}
use Rattle.line_cuts.proofs.SurvivalCuts.{bar_cut, checks_left, damaged_cut, marked_left}
use Rattle.line_cuts.proofs.SameLists.{same_list}

-- orders of lessened numbers, where one of them is not less
lt_shift : (a b n : ℕ) → n ≤ a → ltb (a - n) (b - n) ≡ ltb a b
lt_shift a b n h = elim (cases_lt a b) [
  | inl below ↦ lt-ltb (a - n) (b - n) (omega arith) ∙ sym (lt-ltb a b below)
  | inr past ↦
      le-ltb (a - n) (b - n) (omega arith) ∙ sym (le-ltb a b past)
]

bar_shift : (a b n : ℕ) → n ≤ b → leb (a - n) (b - n) ≡ leb a b
bar_shift a b n h = elim (cases_lt b a) [
  | inl past ↦
      lt-leb (a - n) (b - n) (omega arith) ∙ sym (lt-leb a b past)
  | inr within ↦ le-leb (a - n) (b - n) (omega arith) ∙ sym (le-leb a b within)
]

-- one mark more
any_more : (c d : ℕ) (xs : List ℕ) → eqb d c ≡ false
    → list_any (λ x. x == c) (xs ++ d ∷ []) ≡ list_any (λ x. x == c) xs
any_more c d [] other = ap (λ b. b || false) other
any_more c d (x ∷ xs) other = ap (λ b. (x == c) || b) (any_more c d xs other)

-- an allowed choice for another
still : (a b y z : Bool) → (a && b && y) ≡ true → z ≡ true → (a && b && z) ≡ true
still true true y z s e = e
still true false y z s e = absurd (false≢true s)
still false b y z s e = absurd (false≢true s)

-- and that one was allowed
third : (a b y : Bool) → (a && b && y) ≡ true → y ≡ true
third true true y s = s
third true false y s = absurd (false≢true s)
third false b y s = absurd (false≢true s)

module _ (floor : Floor) (history : List Process) (marks : MarksView) (at check : ℕ) where
  abbrev index : ℕ
  index = check - lost_checks floor at

  -- there is such a check there where there is one in the whole
  pub count_same : floor_check floor at ≤ checks (tape_at history at) → nat_lt (checks
      (tape_at (cut_history floor history) at)) index ≡ nat_lt (checks (tape_at history at)) check
  count_same exists =
      let fewer : checks (tape_at (cut_history floor history) at)
      ≡ checks (tape_at history at) - lost_checks floor at = omega (
        arith,
        ap checks (tape_cut floor history at),
        checks_left floor at 0
            (floor_check floor at) (tape_at history at) exists,
      ) in
      ap (λ n. nat_lt n index) fewer ∙ lt_shift (checks (tape_at history at)) check
      (lost_checks floor at) (omega (arith, exists))

  module _ (above : floor_check floor at < check) where
    pub damaged_same_here : is_damaged (cut_marks floor marks) at index ≡ is_damaged marks at check
    damaged_same_here = ap (λ xs. list_any (λ d. d == index) xs) (damaged_cut floor history marks
        at) ∙ marked_left (floor_check floor at) check (damaged_at marks at) above

    module _ (within : at < length marks.damaged) where
      abbrev marked : MarksView
      marked = with_mark marks at check

      abbrev left : List ℕ → List ℕ
      left xs =
          map (λ d. d - lost_checks floor at) (filter (λ d. nat_lt (floor_check floor at) d) xs)

      left_more : left (damaged_at marks at ++ check ∷ [])
          ≡ left (damaged_at marks at) ++ index ∷ []
      left_more =
          ap (map (λ d. d - lost_checks floor at)) (filter-append
          (λ d. nat_lt (floor_check floor at) d) (damaged_at marks at) (check ∷ [])
          ∙ ap (λ b. filter (λ d. nat_lt (floor_check floor at) d) (damaged_at marks at)
          ++ cond b (check ∷ []) []) (lt-ltb (floor_check floor at) check above))
          ∙ map-append (λ d. d - lost_checks floor at)
          (filter (λ d. nat_lt (floor_check floor at) d) (damaged_at marks at)) (check ∷ [])

      damaged_same : set (cut_marks floor marks).damaged at
          (damaged_at (cut_marks floor marks) at ++ index ∷ []) ≡ (cut_marks floor marked).damaged
      damaged_same =
          let cut_all : (v : MarksView)
          → length (cut_marks floor v).damaged
          ≡ length v.damaged = λ v. length-map-range_with_len
          (λ p. map (λ c. c - lost_checks floor p) (filter (λ c. nat_lt (floor_check floor p) c)
          (damaged_at v p))) 0 (length v.damaged) in
          let there : at < length (cut_marks floor marks).damaged = omega
          (arith, within, cut_all marks) in
          same_list [] (set (cut_marks floor marks).damaged at (damaged_at
          (cut_marks floor marks) at ++ index ∷ [])) (cut_marks floor marked).damaged
          (length-set (cut_marks floor marks).damaged at
          (damaged_at (cut_marks floor marks) at ++ index ∷ []) ∙ cut_all marks ∙ sym
          (length-set marks.damaged at (damaged_at marks at ++ check ∷ [])) ∙ sym
          (cut_all marked))
          (λ p h. elim (cases_eq p at) [
            | inl same ↦
                ap (λ k. get_or (set (cut_marks floor marks).damaged at
                (damaged_at (cut_marks floor marks) at ++ index ∷ [])) k []) same
                ∙ get_or-set_same (cut_marks floor marks).damaged at
                (damaged_at (cut_marks floor marks) at ++ index ∷ []) [] there
                ∙ ap (λ xs. xs ++ index ∷ []) (damaged_cut floor history marks at)
                ∙ sym left_more
                ∙ sym (ap left (get_or-set_same marks.damaged at
                (damaged_at marks at ++ check ∷ []) [] within))
                ∙ sym (damaged_cut floor history marked at)
                ∙ sym (ap (λ k. get_or (cut_marks floor marked).damaged k []) same)
            | inr other ↦
                get_or-set_other (cut_marks floor marks).damaged at p
                (damaged_at (cut_marks floor marks) at ++ index ∷ []) [] other
                ∙ damaged_cut floor history marks p
                ∙ sym (ap (λ xs. map (λ d. d - lost_checks floor p)
                (filter (λ d. nat_lt (floor_check floor p) d) xs)) (get_or-set_other
                marks.damaged at p (damaged_at marks at ++ check ∷ []) [] other))
                ∙ sym (damaged_cut floor history marked p)
          ])

      pub marks_same : with_mark (cut_marks floor marks) at index ≡ cut_marks floor marked
      marks_same =
          let make : List (List ℕ) → MarksView = λ damaged. record
          { damaged = damaged; bars = (cut_marks floor marks).bars } in
          ap make damaged_same

      -- the floor survives
      pub spared : (p c : ℕ) → (p ≡ at → c < check) → IsTrue (survives history marks [] p
          (AtCheck c)) → IsTrue (survives history marked [] p (AtCheck c))
      spared p zero less s = refl
      spared p (suc c) less s =
          let same : is_damaged marked p (suc c)
          ≡ is_damaged marks p (suc c) = elim (cases_eq p at) [
            | inl here ↦
                let below : suc c < check = less here in
                ap (λ k. list_any (λ d. d == suc c)
                (get_or (set marks.damaged at (damaged_at marks at ++ check ∷ [])) k [])) here
                ∙ ap (λ xs. list_any (λ d. d == suc c) xs)
                (get_or-set_same marks.damaged at (damaged_at marks at ++ check ∷ []) [] within)
                ∙ any_more (suc c) check (damaged_at marks at)
                (ne_eqb check (suc c) (λ e. omega (arith, below)))
                ∙ sym (ap (λ k. list_any (λ d. d == suc c) (damaged_at marks k)) here)
            | inr other ↦ ap (λ xs. list_any (λ d. d == suc c) xs)
                (get_or-set_other marks.damaged at p (damaged_at marks at ++ check ∷ []) [] other)
          ] in
          ap (λ b. nat_le (suc c) (checks (tape_at history p)) && not b
          && is_allowed (bar_at marks p) (AtCheck (suc c))) same ∙ s

  module _ (above : floor_check floor at ≤ check) where
    pub barred_same : is_barred (cut_marks floor marks) at index ≡ is_barred marks at check
    barred_same = ap (λ (o : Option ℕ). option_map_or (λ bar. nat_le bar index) o false)
        (bar_cut floor history marks at) ∙ shifted (bar_at marks at)
      where
        shifted : (o : Option ℕ) → option_map_or (λ bar. nat_le bar index) (cut_bar
            (lost_checks floor at) o) false ≡ option_map_or (λ bar. nat_le bar check) o false
        shifted None = refl
        shifted (Some bar) = bar_shift bar check (lost_checks floor at) (omega (arith, above))

    abbrev barred : MarksView
    barred = with_bar marks at check

    bars_same : set (cut_marks floor marks).bars at (Some index) ≡ (cut_marks floor barred).bars
    bars_same =
        let cut_all : (v : MarksView)
        → length (cut_marks floor v).bars ≡ length v.bars = λ v. length-map-range_with_len
        (λ p. cut_bar (lost_checks floor p) (bar_at v p)) 0 (length v.bars) in
        same_list None (set (cut_marks floor marks).bars at (Some index))
        (cut_marks floor barred).bars
        (length-set (cut_marks floor marks).bars at (Some index) ∙ cut_all marks ∙ sym
        (length-set marks.bars at (Some check)) ∙ sym (cut_all barred))
        (λ p h. elim (cases_eq p at) [
          | inl same ↦
              let there : at < length (cut_marks floor marks).bars = omega
              (arith, h, same, length-set (cut_marks floor marks).bars at (Some index)) in
              let within : at < length marks.bars = omega (arith, there, cut_all marks) in
              ap (λ k. get_or (set (cut_marks floor marks).bars at (Some index)) k None) same
              ∙ get_or-set_same (cut_marks floor marks).bars at (Some index) None there
              ∙ sym (ap (cut_bar (lost_checks floor at))
              (get_or-set_same marks.bars at (Some check) None within))
              ∙ sym (bar_cut floor history barred at)
              ∙ sym (ap (λ k. get_or (cut_marks floor barred).bars k None) same)
          | inr other ↦
              get_or-set_other (cut_marks floor marks).bars at p (Some index) None other
              ∙ bar_cut floor history marks p
              ∙ sym (ap (cut_bar (lost_checks floor p))
              (get_or-set_other marks.bars at p (Some check) None other))
              ∙ sym (bar_cut floor history barred p)
        ])

    pub bar_marks_same : with_bar (cut_marks floor marks) at index ≡ cut_marks floor barred
    bar_marks_same =
        let make : List (Option ℕ) → MarksView = λ bars. record
        { damaged = (cut_marks floor marks).damaged; bars = bars } in
        ap make bars_same

    -- the floor is not later than the bar
    bar_allows : (p c : ℕ) → (p ≡ at → c ≤ check) → is_allowed (bar_at marks p) (AtCheck c) ≡ true
        → is_allowed (bar_at barred p) (AtCheck c) ≡ true
    bar_allows p c less s = elim (cases_eq p at) [
      | inl here ↦ elim (cases_lt at (length marks.bars)) [
        | inl within ↦
            ap (λ k. is_allowed (get_or (set marks.bars at (Some check)) k None) (AtCheck c)) here
            ∙ ap (λ (o : Option ℕ). is_allowed o (AtCheck c))
            (get_or-set_same marks.bars at (Some check) None within)
            ∙ le-leb c check (less here)
        | inr past ↦ ap (λ (xs : List (Option ℕ)). is_allowed (get_or xs p None) (AtCheck c))
            (set_past marks.bars at (Some check) past) ∙ s
      ]
      | inr other ↦ ap (λ (o : Option ℕ). is_allowed o (AtCheck c))
          (get_or-set_other marks.bars at p (Some check) None other) ∙ s
    ]

    pub unbarred : (p c : ℕ) → (p ≡ at → c ≤ check) → IsTrue (survives history marks [] p
        (AtCheck c)) → IsTrue (survives history barred [] p (AtCheck c))
    unbarred p zero less s = refl
    unbarred p (suc c) less s =
        let a : Bool = nat_le (suc c) (checks (tape_at history p)) in
        let b : Bool = not (is_damaged marks p (suc c)) in
        still a b (is_allowed (bar_at marks p) (AtCheck (suc c)))
        (is_allowed (bar_at barred p) (AtCheck (suc c))) s
        (bar_allows p (suc c) less (third a b (is_allowed (bar_at marks p) (AtCheck (suc c))) s))
