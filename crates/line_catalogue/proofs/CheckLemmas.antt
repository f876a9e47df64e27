-- The rows and the vectors of a tape as it grows, as its checks are marked and as a process goes
-- back.
use Rattle.std.proofs.Common.{◌≡◌, ◌≢◌, ℕ, zero, suc, ◌+◌, ◌≤◌, Bool, true, false, ◌||◌, eqb, cond}
use Rattle.std.proofs.Common.{List, [], ◌∷◌, ◌++◌, length, take, drop, get_or, filter, inl, inr}
use Rattle.std.proofs.Common.{None, refl, sym, ap, ◌∙◌, subst, arith}
use Rattle.std.specs.List.{All, list_any, cons_option, filter_map}
use Rattle.std.specs.Prelude.{nat_le, replicate}
use Rattle.std.proofs.lemmas.Bool.Decides.{nat_tests}
use Rattle.std.proofs.lemmas.Bool.{cases_eq, cases_lt, eq-eqb, ne_eqb, or_right, false≢true}
use Rattle.std.proofs.lemmas.List.{length_push, length-set, get_or_push, get_or_append_left}
use Rattle.std.proofs.lemmas.List.{get_or-set_same, get_or-set_other, take-append-drop}
use Rattle.std.proofs.lemmas.List.{take-append-le, take_all, append-nil, length-take, get_or-take}
use Rattle.std.proofs.lemmas.List.Elements.{filter_map-append}
use Rattle.std.proofs.lemmas.List.Folds.{list_any-append, list_any_none}
use Rattle.line_names.specs.declared.choices.Choice.{Choice}
use Rattle.line_names.specs.declared.choices.Choice.TheVariants.{Check as AtCheck, Now}
use Rattle.line_tape.specs.declared.events.Event.{Event}
use Rattle.line_tape.specs.declared.events.Event.TheVariants.{Send, Recv, Check, Mark}
use Rattle.line_tape.specs.Event.{is_check, checks, incarnation_of, incarnations_sent, sends}
use Rattle.line_tape.specs.Front.{check_place, place}
use Rattle.line_tape.proofs.FrontLemmas.{check_place-le, check_place-mono}
use Rattle.line_tape.proofs.RowLemmas.{checks-push, check_place-append, check_place-push}
use Rattle.line_tape.proofs.RowLemmas.{check_place-last, checks_front}
use Rattle.line_tape.specs.Event.{NamesBelow}
use Rattle.line_tape.specs.Front.{front, HasChoice}
use Rattle.line_tape.specs.Restart.{restarted_event, is_kept}
use Rattle.line_tape.proofs.CutLemmas.{checks_left, sent_left}
use Rattle.line_tape.proofs.StayLemmas.{front_restarted, front_take}
use Rattle.line_vectors.specs.Reach.{reach_of_event, reach_of}
use Rattle.line_vectors.proofs.ReachLemmas.{reach-deaf, reach-none, reach-recv, reach_of-left}
use Rattle.line_catalogue.specs.declared.kept_rows.Row.{Row}
use Rattle.line_catalogue.specs.Rows.{IsRow, AreInStep, AreRows, WithPlaces, vector_after_event}
use Rattle.line_catalogue.specs.Rows.{new_row, no_row, row_added, rows_kept, vector_at, with_damage}
use Rattle.line_catalogue.specs.Rows.{with_row}

-- whether a check is among the marked ones, with one more
any-push : (damaged : List ℕ) (c k : ℕ) → list_any (λ check. eqb check k) (damaged ++ c ∷ [])
    ≡ (list_any (λ check. eqb check k) damaged || (eqb c k || false))
any-push damaged c k = list_any-append (λ check. eqb check k) damaged (c ∷ [])

or_none : (b : Bool) → (b || false) ≡ b
or_none true = refl
or_none false = refl

-- the check that is marked
any-here : (damaged : List ℕ) (c : ℕ) → list_any (λ check. eqb check c) (damaged ++ c ∷ []) ≡ true
any-here damaged c =
    any-push damaged c c ∙ or_right (list_any (λ check. eqb check c) damaged) (eqb c c || false)
    (or_none (eqb c c) ∙ eq-eqb c c refl)

-- the others
any-other : (damaged : List ℕ) (c k : ℕ) → k ≢ c
    → list_any (λ check. eqb check k) (damaged ++ c ∷ []) ≡ list_any (λ check. eqb check k) damaged
any-other damaged c k apart =
    any-push damaged c k ∙ ap (λ (b : Bool). list_any (λ check. eqb check k) damaged || b)
    (or_none (eqb c k) ∙ ne_eqb c k (λ e. apart (sym e))) ∙ or_none
    (list_any (λ check. eqb check k) damaged)

-- a mark changes the row of its check, and no other one
pub AreRows-damage : (n : ℕ) (tape : List Event) (damaged : List ℕ) (rows : List Row) (c : ℕ)
    → c ≤ checks tape → AreRows n tape damaged rows
    → AreRows n tape (damaged ++ c ∷ []) (with_damage rows c)
AreRows-damage n tape damaged rows c within are =
    let old : Row = get_or rows c no_row in
    let new : Row = record old { damaged = true } in
    let row : IsRow n tape damaged c old = are.each c no_row within in
    let marked : IsRow n tape (damaged ++ c ∷ []) c new = record {
      place_is = row.place_is;
      sends_is
          = row.sends_is;
      damaged_is = sym (any-here damaged c);
      reach_is = row.reach_is;
    } in
    record {
      count = length-set rows c new ∙ are.count;
      each = λ k d h. elim (cases_eq k c) [
        | inl here ↦ subst
            (λ (x : ℕ). IsRow n tape (damaged ++ c ∷ []) x (get_or (with_damage rows c) x d))
            (sym here) (subst (IsRow n tape (damaged ++ c ∷ []) c)
            (sym (get_or-set_same rows c new d (omega (arith, are.count)))) marked)
        | inr apart ↦
            let there : IsRow n tape damaged k (get_or rows k d) = are.each k d h in
            subst (IsRow n tape (damaged ++ c ∷ []) k) (sym (get_or-set_other rows c k new d apart))
            (record {
              place_is = there.place_is;
              sends_is = there.sends_is;
              damaged_is =
                  there.damaged_is ∙ sym (any-other damaged c k apart);
              reach_is = there.reach_is;
            })
      ];
    }

-- a row stays right when an event is added
IsRow-push : (n : ℕ) (tape : List Event) (event : Event) (damaged : List ℕ) (c : ℕ) (row : Row)
    → c ≤ checks tape → IsRow n tape damaged c row → IsRow n (tape ++ event ∷ []) damaged c row
IsRow-push n tape event damaged c row within is =
    let same : check_place (tape ++ event ∷ []) c
    ≡ check_place tape c = check_place-push tape event c within in
    let left : take (check_place tape c) (tape ++ event ∷ []) ≡ take (check_place tape c) tape =
    take-append-le (check_place tape c) tape (event ∷ []) (check_place-le tape c) in
    let fronts : front (tape ++ event ∷ []) (AtCheck c)
    ≡ front tape (AtCheck c) = ap (λ k. take k (tape ++ event ∷ [])) same ∙ left in
    record {
      place_is = is.place_is ∙ sym same;
      sends_is = is.sends_is ∙ ap sends (sym fronts);
      damaged_is = is.damaged_is;
      reach_is = is.reach_is ∙ ap (reach_of n) (sym fronts);
    }

-- a check is no send
check-sends : (event : Event) → is_check event ≡ true → incarnation_of event ≡ None
check-sends (Send to inc body) h = absurd (false≢true h)
check-sends (Recv message) h = absurd (false≢true h)
check-sends (Check state round) h = refl
check-sends (Mark from round) h = absurd (false≢true h)

-- the sends with one more
pub sends-more : (tape : List Event) (to inc : ℕ) (body : List ℕ)
    → sends (tape ++ Send to inc body ∷ []) ≡ sends tape + 1
sends-more tape to inc body = ap length (filter_map-append incarnation_of tape
    (Send to inc body ∷ [])) ∙ length_push (incarnations_sent tape) inc

-- and with an event that is none
pub sends-same : (tape : List Event) (event : Event) → incarnation_of event ≡ None
    → sends (tape ++ event ∷ []) ≡ sends tape
sends-same tape event none = ap length (filter_map-append incarnation_of tape (event ∷ []) ∙ ap
    (λ o. incarnations_sent tape ++ cons_option o []) none ∙ append-nil (incarnations_sent tape))

-- no mark is on a check that is still to come
none-marked : (tape : List Event) (damaged : List ℕ) → All (λ check. check ≤ checks tape) damaged
    → list_any (λ check. eqb check (suc (checks tape))) damaged ≡ false
none-marked tape damaged on =
    list_any_none (λ check. eqb check (suc (checks tape))) damaged (λ k d h. ne_eqb
    (get_or damaged k d) (suc (checks tape)) (λ e. absurd (omega (arith, on k d h, e))))

-- the row of a check that is added
IsRow-last : (n : ℕ) (tape : List Event) (event : Event) (damaged : List ℕ) (present : List ℕ)
    → is_check event ≡ true → ((p : ℕ) → reach_of_event p event ≡ 0) → present ≡ reach_of n tape
    → All (λ check. check ≤ checks tape) damaged
    → IsRow n (tape ++ event ∷ []) damaged (suc (checks tape))
    (new_row (length tape + 1) (sends tape) present)
IsRow-last n tape event damaged present is deaf now on =
    let last : check_place (tape ++ event ∷ []) (suc (checks tape))
    ≡ length tape + 1 = check_place-last tape event is in
    let whole : front (tape ++ event ∷ []) (AtCheck (suc (checks tape))) ≡ tape ++ event
    ∷ [] = take_all _ (tape ++ event ∷ []) (omega (arith, last, length_push tape event)) in
    let sent : incarnations_sent (tape ++ event ∷ [])
    ≡ incarnations_sent tape = filter_map-append incarnation_of tape (event ∷ []) ∙ ap
    (λ o. incarnations_sent tape ++ cons_option o []) (check-sends event is) ∙ append-nil
    (incarnations_sent tape) in
    record {
      place_is = sym last;
      sends_is = ap length (sym sent) ∙ ap sends (sym whole);
      damaged_is = sym (none-marked tape damaged on);
      reach_is = now ∙ sym (reach-deaf n tape event deaf) ∙ ap (reach_of n) (sym whole);
    }

-- an event that is no check adds no row
AreRows-none : (n : ℕ) (tape : List Event) (event : Event) (damaged : List ℕ) (rows : List Row)
    → is_check event ≡ false → AreRows n tape damaged rows
    → AreRows n (tape ++ event ∷ []) damaged rows
AreRows-none n tape event damaged rows unchecked are =
    let more : checks (tape ++ event ∷ [])
    ≡ checks tape + 0 = checks-push tape event ∙ ap (λ b. checks tape + cond b 1 0) unchecked in
    record {
      count = omega (arith, are.count, more);
      each = λ c d h. IsRow-push n tape event damaged c (get_or rows c d) (omega (arith, more))
          (are.each c d (omega (arith, more)));
    }

-- a check adds its own
AreRows-one : (n : ℕ) (tape : List Event) (event : Event) (damaged : List ℕ) (rows : List Row)
    (present : List ℕ) → is_check event ≡ true → ((p : ℕ) → reach_of_event p event ≡ 0) → present
    ≡ reach_of n tape → All (λ check. check ≤ checks tape) damaged → AreRows n tape damaged rows
    → AreRows n (tape ++ event ∷ []) damaged
    (rows ++ new_row (length tape + 1) (sends tape) present ∷ [])
AreRows-one n tape event damaged rows present is deaf now on are =
    let row : Row = new_row (length tape + 1) (sends tape) present in
    let more : checks (tape ++ event ∷ [])
    ≡ checks tape + 1 = checks-push tape event ∙ ap (λ b. checks tape + cond b 1 0) is in
    record {
      count = omega (arith, are.count, more, length_push rows row);
      each = λ c d h. elim (cases_lt c (length rows)) [
        | inl before ↦ subst (IsRow n (tape ++ event ∷ []) damaged c)
            (sym (get_or_append_left rows (row ∷ []) d c before)) (IsRow-push n tape event damaged c
            (get_or rows c d) (omega (arith, are.count)) (are.each c d (omega (arith, are.count))))
        | inr behind ↦
            let at : c ≡ suc (checks tape) = omega (arith, are.count, more) in
            let read : get_or (rows ++ row ∷ []) c d
            ≡ row = get_or_push rows row d c (omega (arith, are.count)) in
            subst (λ (x : ℕ). IsRow n (tape ++ event ∷ []) damaged x
            (get_or (rows ++ row ∷ []) c d)) (sym at)
            (subst (IsRow n (tape ++ event ∷ []) damaged (suc (checks tape))) (sym read)
            (IsRow-last n tape event damaged present is deaf now on))
      ];
    }

-- the rows stay right with the one that an event adds
pub AreRows-added : (n : ℕ) (tape : List Event) (event : Event) (damaged : List ℕ) (rows : List Row)
    (present : List ℕ) → All (λ check. check ≤ checks tape) damaged → present ≡ reach_of n tape
    → AreRows n tape damaged rows
    → AreRows n (tape ++ event ∷ []) damaged
    (with_row rows (row_added (length tape + 1) (sends tape) present event))
AreRows-added n tape (Send to inc body) damaged rows present on now are =
    AreRows-none n tape (Send to inc body) damaged rows refl are
AreRows-added n tape (Recv message) damaged rows present on now are =
    AreRows-none n tape (Recv message) damaged rows refl are
AreRows-added n tape (Check state round) damaged rows present on now are =
    AreRows-one n tape (Check state round) damaged rows present refl (λ p. refl) now on are
AreRows-added n tape (Mark from round) damaged rows present on now are =
    AreRows-none n tape (Mark from round) damaged rows refl are

-- and so does the vector of where the process stands
pub heard-added : (n : ℕ) (tape : List Event) (event : Event) (present : List ℕ)
    → NamesBelow n event → present ≡ reach_of n tape
    → vector_after_event present event ≡ reach_of n (tape ++ event ∷ [])
heard-added n tape (Send to inc body) present named now =
    now ∙ sym (reach-deaf n tape (Send to inc body) (λ p. refl))
heard-added n tape (Recv message) present named now = ap (λ (xs : List ℕ). vector_after_event xs
    (Recv message)) now ∙ sym (reach-recv n tape message named)
heard-added n tape (Check state round) present named now =
    now ∙ sym (reach-deaf n tape (Check state round) (λ p. refl))
heard-added n tape (Mark from round) present named now =
    now ∙ sym (reach-deaf n tape (Mark from round) (λ p. refl))

-- the only row of a process that has done nothing
pub AreRows-start : (n : ℕ) (rows : List Row) → rows ≡ new_row 0 0 (replicate n 0) ∷ []
    → AreRows n [] [] rows
AreRows-start n rows is = subst (AreRows n [] []) (sym is) (record {
  count = refl;
  each = λ c d h.
      let first : 0 ≡ c = omega (arith, h) in
      subst (λ k. IsRow n [] [] k (get_or (new_row 0 0 (replicate n 0) ∷ []) k d)) first (record
      { place_is = refl; sends_is = refl; damaged_is = refl; reach_is = sym (reach-none n) });
})

-- ---- a process that goes on from a choice

-- a mark that is taken off says nothing of a check that is kept
any-kept-at : (k c x : ℕ) (xs : List ℕ) (b : Bool) → b ≡ nat_le x k → c ≤ k → list_any
    (λ check. eqb check c) (filter (is_kept (AtCheck k)) xs) ≡ list_any (λ check. eqb check c) xs
    → list_any (λ check. eqb check c) (cond b (x ∷ filter (is_kept (AtCheck k)) xs)
    (filter (is_kept (AtCheck k)) xs)) ≡ (eqb x c || list_any (λ check. eqb check c) xs)
any-kept-at k c x xs true e h ih = ap (λ b. eqb x c || b) ih
any-kept-at k c x xs false e h ih =
    let apart : x ≢ c = λ same. absurd
    (true-false (sym (le-true x k (omega (arith, same, h))) ∙ sym e)) in
    ih ∙ sym (ap (λ b. b || list_any (λ check. eqb check c) xs) (ne_eqb x c apart))
  where
    true-false : true ≡ false → ⊥
    true-false p = absurd (cc p)

    le-true : (a b : ℕ) → a ≤ b → nat_le a b ≡ true
    le-true a b h = grind (arith, nat_tests)

any-kept : (k c : ℕ) (xs : List ℕ) → c ≤ k → list_any (λ check. eqb check c)
    (filter (is_kept (AtCheck k)) xs) ≡ list_any (λ check. eqb check c) xs
any-kept k c [] h = refl
any-kept k c (x ∷ xs) h = any-kept-at k c x xs (nat_le x k) refl h (any-kept k c xs h)

-- where a process stays no mark is taken off
any-now : (c : ℕ) (xs : List ℕ)
    → list_any (λ check. eqb check c) (filter (is_kept Now) xs) ≡ list_any (λ check. eqb check c) xs
any-now c [] = refl
any-now c (x ∷ xs) = ap (λ b. eqb x c || b) (any-now c xs)

-- the rows up to a choice, with their places noted anew, are those of what is left of the tape
rows-left : (n : ℕ) (tape : List Event) (damaged kept : List ℕ) (choice : Choice) (m : ℕ)
    (old some new : List Row)
    → checks (front tape choice) ≡ m → m ≤ checks tape
    → ((c : ℕ) → c ≤ m → front (front tape choice) (AtCheck c) ≡ front tape (AtCheck c))
    → ((c : ℕ) → c ≤ m
    → list_any (λ check. eqb check c) kept ≡ list_any (λ check. eqb check c) damaged)
    → length some ≡ m + 1 → ((c : ℕ) (d : Row) → c ≤ m → get_or some c d ≡ get_or old c d)
    → AreRows n tape damaged old
    → WithPlaces (filter_map restarted_event (front tape choice)) some new
    → AreRows n (filter_map restarted_event (front tape choice)) kept new
rows-left n tape damaged kept choice m old some new many within fronts marks count reads are placed
    =
    let before : List Event = front tape choice in
    let left : List Event = filter_map restarted_event before in
    let counted : checks left ≡ m = checks_left before ∙ many in
    record {
      count = omega (arith, placed.count, count, counted);
      each = λ c d h.
          let earlier : c ≤ m = omega (arith, counted) in
          let is : IsRow n tape damaged c (get_or old c d) = are.each c d
          (omega (arith, earlier)) in
          let here : front left (AtCheck c) ≡ filter_map restarted_event (front tape (AtCheck c)) =
          front_restarted before c ∙ ap (filter_map restarted_event) (fronts c earlier) in
          record {
            place_is = placed.places c d (omega (arith, count, earlier));
            sends_is = placed.sends_same c d ∙ ap (λ (row : Row). row.sends)
                (reads c d earlier) ∙ is.sends_is ∙ ap length
                (sym (sent_left (front tape (AtCheck c)))) ∙ ap sends (sym here);
            damaged_is = placed.damaged_same c d ∙ ap (λ (row : Row). row.damaged)
                (reads c d earlier) ∙ is.damaged_is ∙ sym (marks c earlier);
            reach_is = placed.reach_same c d ∙ ap (λ (row : Row). row.reach)
                (reads c d earlier) ∙ is.reach_is ∙ sym
                (reach_of-left n (front tape (AtCheck c))) ∙ ap (reach_of n) (sym here);
          };
    }

-- how many rows there are up to a choice
pub length-kept : (n : ℕ) (tape : List Event) (damaged : List ℕ) (choice : Choice) (rows : List Row)
    → HasChoice tape choice → AreRows n tape damaged rows
    → length (rows_kept choice rows) ≡ checks (filter_map restarted_event (front tape choice)) + 1
length-kept n tape damaged (AtCheck k) rows has are = omega (
  arith,
  length-take
      (k + 1) rows,
  are.count,
  checks_left (front tape (AtCheck k)),
  checks_front tape k has,
)
length-kept n tape damaged Now rows has are = omega (
  arith,
  are.count,
  checks_left
      (front tape Now),
  ap checks (take_all (length tape) tape (omega arith)),
)

pub AreRows-left : (n : ℕ) (tape : List Event) (damaged : List ℕ) (choice : Choice)
    (old new : List Row) → HasChoice tape choice → AreRows n tape damaged old
    → WithPlaces (filter_map restarted_event (front tape choice)) (rows_kept choice old) new
    → AreRows n (filter_map restarted_event (front tape choice))
    (filter (is_kept choice) damaged) new
AreRows-left n tape damaged (AtCheck k) old new has are placed =
    rows-left n tape damaged (filter (is_kept (AtCheck k)) damaged) (AtCheck k) k old
    (take (k + 1) old) new (checks_front tape k has) has
    (λ c h. front_take tape (check_place tape k) c (check_place-mono tape c k h))
    (λ c h. any-kept k c damaged h)
    (omega (arith, length-take (k + 1) old, are.count, has))
    (λ c d h. get_or-take (k + 1) old c d (omega (arith, h)))
    are
    placed
AreRows-left n tape damaged Now old new has are placed =
    let whole : front tape Now ≡ tape = take_all (length tape) tape (omega arith) in
    rows-left n tape damaged (filter (is_kept Now) damaged) Now (checks tape) old old new
    (ap checks whole) (omega arith)
    (λ c h. ap (λ (es : List Event). front es (AtCheck c)) whole)
    (λ c h. any-now c damaged)
    are.count
    (λ c d h. refl)
    are
    placed

-- no check stands later once marks are gone
place-left : (tape : List Event) (c : ℕ)
    → check_place (filter_map restarted_event tape) c ≤ check_place tape c
place-left tape zero = omega arith
place-left [] (suc c) = omega arith
place-left (Send to inc body ∷ rest) (suc c) = omega (arith, place-left rest (suc c))
place-left (Recv message ∷ rest) (suc c) = omega (arith, place-left rest (suc c))
place-left (Check state round ∷ rest) (suc c) = omega (arith, place-left rest c)
place-left (Mark from round ∷ rest) (suc c) = omega (arith, place-left rest (suc c))

-- and where one stands as it did no mark was before it, so each one before it does
place-same : (tape : List Event) (k c : ℕ) → k ≤ c → check_place (filter_map restarted_event tape) c
    ≡ check_place tape c → check_place (filter_map restarted_event tape) k ≡ check_place tape k
place-same tape zero c le same = refl
place-same tape (suc k) zero le same = absurd (omega (arith, le))
place-same [] (suc k) (suc c) le same = refl
place-same (Send to inc body ∷ rest) (suc k) (suc c) le same =
    ap suc (place-same rest (suc k) (suc c) le (omega (arith, same)))
place-same (Recv message ∷ rest) (suc k) (suc c) le same =
    ap suc (place-same rest (suc k) (suc c) le (omega (arith, same)))
place-same (Check state round ∷ rest) (suc k) (suc c) le same =
    ap suc (place-same rest k c (omega (arith, le)) (omega (arith, same)))
place-same (Mark from round ∷ rest) (suc k) (suc c) le same =
    absurd (omega (arith, same, place-left rest (suc c)))

-- where a check that is kept stands
place-kept : (tape : List Event) (choice : Choice) (c : ℕ) → c ≤ checks (front tape choice)
    → check_place (front tape choice) c ≡ check_place tape c
place-kept tape choice c within =
    let n : ℕ = place tape choice in
    sym (check_place-append (take n tape) (drop n tape) c within) ∙ ap
    (λ (es : List Event). check_place es c) (take-append-drop n tape)

in-step : (n : ℕ) (tape : List Event) (damaged : List ℕ) (choice : Choice) (m : ℕ)
    (old some : List Row)
    → checks (front tape choice) ≡ m → m ≤ checks tape → length some ≡ m + 1 →
    ((c : ℕ) (d : Row) → c ≤ m → get_or some c d ≡ get_or old c d) → AreRows n tape damaged old
    → AreInStep (filter_map restarted_event (front tape choice)) some
in-step n tape damaged choice m old some many within count reads are = record {
  each = λ k c d le there same.
      let before : List Event = front tape choice in
      let was : (j : ℕ) → j ≤ m → (get_or some j d).place ≡ check_place before j = λ j h.
      ap (λ (row : Row). row.place) (reads j d h) ∙ (are.each j d (omega
      (arith, h, within))).place_is ∙ sym (place-kept tape choice j (omega (arith, h, many)))
      in
      was k (omega (arith, le, there, count)) ∙ sym
      (place-same before k c le (sym same ∙ was c (omega (arith, there, count))));
}

-- where a check that is kept stands as it did, so does each one before it
pub AreInStep-left : (n : ℕ) (tape : List Event) (damaged : List ℕ) (choice : Choice)
    (rows : List Row) → HasChoice tape choice → AreRows n tape damaged rows
    → AreInStep (filter_map restarted_event (front tape choice)) (rows_kept choice rows)
AreInStep-left n tape damaged (AtCheck k) rows has are =
    in-step n tape damaged (AtCheck k) k rows (take (k + 1) rows) (checks_front tape k has) has
    (omega (arith, length-take (k + 1) rows, are.count, has))
    (λ c d h. get_or-take (k + 1) rows c d (omega (arith, h))) are
AreInStep-left n tape damaged Now rows has are =
    in-step n tape damaged Now (checks tape) rows rows (ap checks
    (take_all (length tape) tape (omega arith))) (omega arith) are.count (λ c d h. refl) are

-- the vector of the choice is that of what is left
pub vector-left : (n : ℕ) (tape : List Event) (damaged : List ℕ) (choice : Choice) (rows : List Row)
    (present : List ℕ) → HasChoice tape choice → AreRows n tape damaged rows
    → present ≡ reach_of n tape
    → vector_at rows present choice ≡ reach_of n (filter_map restarted_event (front tape choice))
vector-left n tape damaged (AtCheck k) rows present has are now =
    (are.each k no_row has).reach_is ∙ sym (reach_of-left n (front tape (AtCheck k)))
vector-left n tape damaged Now rows present has are now = now ∙ ap (reach_of n)
    (sym (take_all (length tape) tape (omega arith))) ∙ sym (reach_of-left n (front tape Now))

-- the vector of a choice
pub vector-before : (n : ℕ) (tape : List Event) (damaged : List ℕ) (choice : Choice)
    (rows : List Row) (present : List ℕ) → HasChoice tape choice → AreRows n tape damaged rows
    → present ≡ reach_of n tape
    → vector_at rows present choice ≡ reach_of n (front tape choice)
vector-before n tape damaged choice rows present has are now =
    vector-left n tape damaged choice rows present has are now ∙ reach_of-left n (front tape choice)
