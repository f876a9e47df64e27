-- Entries that are added at the end, and one visit of a sweep after another.
use Rattle.std.proofs.Common.{◌≡◌, ◌<◌, ◌≤◌, ◌++◌, ◌∷◌, [], ℕ, suc, ◌+◌, cond, Bool, true, false}
use Rattle.std.proofs.Common.{◌||◌, List, inl, inr, ◌⊎◌, refl, sym, ap, ◌∙◌, subst, arith}
use Rattle.std.specs.Prelude.{nat_lt}
use Rattle.std.proofs.lemmas.Bool.{false≢true, lt-ltb, le-ltb, cond-true, cond-false, cases_lt}
use Rattle.std.proofs.lemmas.Bool.{both_ways}
use Rattle.line_names.specs.declared.certificates.Passed.{Passed}
use Rattle.line_names.specs.Sets.{is_member}
use Rattle.line_plan.specs.Sweeps.{descents, sweeps_with_entries, last_after, last_passed}
use Rattle.line_plan.specs.Sweeps.{IsOfNextSweep, AreOfNextSweep, HasPassed, IsSweeping}

last_after_push : (last : ℕ) (xs : List Passed) (e : Passed) → last_after last (xs ++ e ∷ []) ≡ e.at
last_after_push last [] e = refl
last_after_push last (x ∷ xs) e = last_after_push x.at xs e

last_push : (xs : List Passed) (e : Passed) → last_passed (xs ++ e ∷ []) ≡ e.at
last_push [] e = refl
last_push (x ∷ xs) e = last_after_push x.at xs e

-- an entry of a lower process is of another sweep
descents_more : (last : ℕ) (xs : List Passed) (e : Passed) → e.at < last_after last xs
    → descents last (xs ++ e ∷ []) ≡ suc (descents last xs)
descents_more last [] e below = cond-true (nat_lt e.at last) 1 0 (lt-ltb e.at last below)
descents_more last (x ∷ xs) e below =
    let again : descents x.at (xs ++ e ∷ [])
    ≡ suc (descents x.at xs) = descents_more x.at xs e below in
    elim (nat_lt x.at last) as (λ b. cond b (suc (descents x.at (xs ++ e ∷ [])))
    (descents x.at (xs ++ e ∷ [])) ≡ suc (cond b (suc (descents x.at xs)) (descents x.at xs))) [
      | true ↦ ap suc again
      | false ↦ again
    ]

-- another one is of the same sweep
descents_same : (last : ℕ) (xs : List Passed) (e : Passed) → last_after last xs ≤ e.at
    → descents last (xs ++ e ∷ []) ≡ descents last xs
descents_same last [] e above = cond-false (nat_lt e.at last) 1 0 (le-ltb e.at last above)
descents_same last (x ∷ xs) e above =
    let again : descents x.at (xs ++ e ∷ []) ≡ descents x.at xs = descents_same x.at xs e above in
    elim (nat_lt x.at last) as (λ b. cond b (suc (descents x.at (xs ++ e ∷ [])))
    (descents x.at (xs ++ e ∷ [])) ≡ cond b (suc (descents x.at xs)) (descents x.at xs)) [
      | true ↦ ap suc again
      | false ↦ again
    ]

push_next : (xs : List Passed) (e : Passed) → IsOfNextSweep xs e.at
    → sweeps_with_entries (xs ++ e ∷ []) ≡ suc (sweeps_with_entries xs)
push_next [] e next = refl
push_next (x ∷ xs) e (inl none) = cc
push_next (x ∷ xs) e (inr below) = ap suc (descents_more x.at xs e below)

push_same : (xs : List Passed) (e : Passed) → 1 ≤ sweeps_with_entries xs → last_passed xs ≤ e.at
    → sweeps_with_entries (xs ++ e ∷ []) ≡ sweeps_with_entries xs
push_same [] e some above = absurd (omega (arith, some))
push_same (x ∷ xs) e some above = ap suc (descents_same x.at xs e above)

-- one more entry of the process that is visited
pub passed_push : (p : ℕ) (lowered : Bool) (old mid : List Passed) (e : Passed) → e.at ≡ p
    → HasPassed p lowered old mid → HasPassed p true old (mid ++ e ∷ [])
passed_push p false old mid e at passed =
    subst (λ (m : List Passed). HasPassed p true old (m ++ e ∷ [])) (sym (passed.same refl))
    (record {
      same = λ h. absurd (false≢true (sym h));
      begins = λ _ next. push_next old e (subst (λ k. IsOfNextSweep old k) (sym at) next);
      goes_on = λ _ some above. push_same old e some (omega (arith, above, at));
      last = λ _. last_push old e ∙ at;
    })
passed_push p true old mid e at passed =
    let last : last_passed mid ≡ p = passed.last refl in
    record {
      same = λ h. absurd (false≢true (sym h));
      begins = λ _ next. let is = passed.begins refl next in push_same mid e (omega (arith, is))
          (omega (arith, last, at)) ∙ is;
      goes_on = λ _ some above. let is = passed.goes_on refl some above in push_same mid e
          (omega (arith, is, some)) (omega (arith, last, at)) ∙ is;
      last = λ _. last_push mid e ∙ at;
    }

-- process p is not to be visited again
left_after : (p q last : ℕ) (dirty : List Bool) → is_member dirty p ≡ false
    → is_member dirty q ≡ true → (q < last) ⊎ (p ≤ q) → (q < last) ⊎ (p + 1 ≤ q)
left_after p q last dirty visited there (inl low) = inl low
left_after p q last dirty visited there (inr high) = elim (cases_lt p q) [
  | inl more ↦ inr (omega (arith, more))
  | inr same ↦
      let here : q ≡ p = omega (arith, same, high) in
      absurd (both_ways (is_member dirty p) visited
      (subst (λ k. is_member dirty k ≡ true) here there))
]

-- one visit more
pub sweeping_on : (n : ℕ) (old : List Passed) (p : ℕ) (a b : Bool) (mid new : List Passed)
    (dirty after : List Bool) → p < n → IsSweeping n old p a mid dirty → HasPassed p b mid new
    → (b ≡ true → is_member dirty p ≡ true) → is_member after p ≡ false
    → (b ≡ false → (q : ℕ) → is_member after q ≡ true → is_member dirty q ≡ true)
    → IsSweeping n old (p + 1) (a || b) new after
sweeping_on n old p false false mid new dirty after within sweeping passed begun visited fewer =
    record {
      same = λ _. passed.same refl ∙ sweeping.same refl;
      due = λ _ q inside there. sweeping.due refl q inside (fewer refl q there);
      swept = λ h. absurd (false≢true h);
      below = λ h. absurd (false≢true h);
      left = λ h. absurd (false≢true h);
    }
sweeping_on n old p true false mid new dirty after within sweeping passed begun visited fewer =
    subst (λ (m : List Passed). IsSweeping n old (p + 1) true m after) (sym (passed.same refl))
    (record {
      same = λ h. absurd (false≢true (sym h));
      due = λ h. absurd (false≢true (sym h));
      swept = λ _. sweeping.swept refl;
      below = λ _. omega (arith, sweeping.below refl);
      left = λ _ q inside there. left_after p q (last_passed mid) after visited there
          (sweeping.left refl q inside (fewer refl q there));
    })
sweeping_on n old p false true mid new dirty after within sweeping passed begun visited fewer =
    let same : mid ≡ old = sweeping.same refl in
    let next : IsOfNextSweep mid p = subst (λ (m : List Passed). IsOfNextSweep m p) (sym same)
    (sweeping.due refl p within (begun refl)) in
    let last : last_passed new ≡ p = passed.last refl in
    record {
      same = λ h. absurd (false≢true (sym h));
      due = λ h. absurd (false≢true (sym h));
      swept =
          λ _. passed.begins refl next ∙ ap (λ (m : List Passed). suc (sweeps_with_entries m)) same;
      below = λ _. omega (arith, last);
      left = λ _ q inside there. left_after p q (last_passed new) after visited there
          (subst (λ k. (q < k) ⊎ (p ≤ q)) (sym last) (cases_lt q p));
    }
sweeping_on n old p true true mid new dirty after within sweeping passed begun visited fewer =
    let swept = sweeping.swept refl in
    let last : last_passed new ≡ p = passed.last refl in
    record {
      same = λ h. absurd (false≢true (sym h));
      due = λ h. absurd (false≢true (sym h));
      swept = λ _. passed.goes_on refl (omega (arith, swept))
          (omega (arith, sweeping.below refl)) ∙ swept;
      below = λ _. omega (arith, last);
      left = λ _ q inside there. left_after p q (last_passed new) after visited there
          (subst (λ k. (q < k) ⊎ (p ≤ q)) (sym last) (cases_lt q p));
    }

-- at the end of a sweep whoever is to be visited is to be in the next one
pub swept_due : (n : ℕ) (old : List Passed) (lowered : Bool) (entries : List Passed)
    (dirty : List Bool) → IsSweeping n old n lowered entries dirty → AreOfNextSweep n entries dirty
swept_due n old false entries dirty sweeping = subst (λ (m : List Passed). AreOfNextSweep n m dirty)
    (sym (sweeping.same refl)) (sweeping.due refl)
swept_due n old true entries dirty sweeping =
    λ q inside there. elim (sweeping.left refl q inside there) [
      | inl low ↦ inr low
      | inr high ↦ absurd (omega (arith, inside, high))
    ]
