-- The latest surviving choice, and the next lower one.
use Rattle.std.proofs.Common.{◌≡◌, ◌≢◌, ℕ, zero, suc, ◌-◌, ◌≤◌, Bool, true, false, not, ◌&&◌, leb}
use Rattle.std.proofs.Common.{cond, List, length, refl, sym, ap, ◌∙◌, arith, ◌⊎◌, inl, inr}
use Rattle.std.proofs.lemmas.Bool.{false≢true, cases_eq}
use Rattle.std.proofs.lemmas.Bool.Decides.{nat_tests}
use Rattle.std.proofs.lemmas.List.{get_or_past}
use Rattle.line_names.specs.declared.choices.Choice.{Choice}
use Rattle.line_names.specs.declared.choices.Choice.TheVariants.{Check as AtCheck, Now}
use Rattle.line_names.specs.Lines.{choice_at}
use Rattle.line_names.specs.Order.{IsNoLater}
use Rattle.line_tape.specs.Event.{checks}
use Rattle.line_tape.specs.History.{Process, tape_at}
use Rattle.line_tape.specs.Survival.{survives, is_allowed, is_damaged}
use Rattle.line_tape.specs.Chain.{latest_check, latest_choice, next_lower}
use Rattle.line_tape.specs.Views.{MarksView, bar_at}

pub IsNoLater-refl : (a : Choice) → IsNoLater a a
IsNoLater-refl (AtCheck a) = omega arith
IsNoLater-refl Now = tt

pub IsNoLater-trans : (a b c : Choice) → IsNoLater a b → IsNoLater b c → IsNoLater a c
IsNoLater-trans (AtCheck a) (AtCheck b) (AtCheck c) h k = omega arith
IsNoLater-trans (AtCheck a) b Now h k = tt
IsNoLater-trans (AtCheck a) Now (AtCheck c) h k = absurd k
IsNoLater-trans Now (AtCheck b) c h k = absurd h
IsNoLater-trans Now Now (AtCheck c) h k = absurd k
IsNoLater-trans Now Now Now h k = tt

-- two choices of which neither is later are one
pub IsNoLater-both : (a b : Choice) → IsNoLater a b → IsNoLater b a → a ≡ b
IsNoLater-both (AtCheck a) (AtCheck b) h k = let same : a ≡ b = omega arith in ap AtCheck same
IsNoLater-both (AtCheck a) Now h k = absurd k
IsNoLater-both Now (AtCheck b) h k = absurd h
IsNoLater-both Now Now h k = refl

-- two choices are one or are not
pub choice_cases : (a b : Choice) → (a ≡ b) ⊎ (a ≢ b)
choice_cases (AtCheck a) (AtCheck b) =
    elim (cases_eq a b) [ inl e ↦ inl (ap AtCheck e) | inr ne ↦ inr (λ e. ne (cc)) ]
choice_cases (AtCheck a) Now = inr (λ e. cc)
choice_cases Now (AtCheck b) = inr (λ e. cc)
choice_cases Now Now = inl refl

-- no latest check is later than the check from which it is looked for
pub latest_check-le : (passes : Choice → Bool) (c : ℕ)
    → IsNoLater (latest_check passes c) (AtCheck c)
latest_check-le passes zero = omega arith
latest_check-le passes (suc c) = elim (passes (AtCheck (suc c))) as
    (λ v. IsNoLater (cond v (AtCheck (suc c)) (latest_check passes c)) (AtCheck (suc c))) [
      | true ↦ omega arith
      | false ↦ IsNoLater-trans (latest_check passes c) (AtCheck c) (AtCheck (suc c))
          (latest_check-le passes c) (omega arith)
    ]

-- a check that passes is at most the latest one
latest_check_at : (passes : Choice → Bool) (c a : ℕ) (b : Bool) → b ≡ passes (AtCheck (suc c))
    → a ≤ suc c → passes (AtCheck a) ≡ true → (a ≤ c → IsNoLater (AtCheck a) (latest_check passes
    c)) → IsNoLater (AtCheck a) (cond b (AtCheck (suc c)) (latest_check passes c))
latest_check_at passes c a true e h l rest = h
latest_check_at passes c a false e h l rest =
    let apart : a ≢ suc c = λ q. false≢true (e ∙ ap (λ k. passes (AtCheck k)) (sym q) ∙ l) in
    rest (omega arith)

pub latest_check_above : (passes : Choice → Bool) (c a : ℕ) → a ≤ c → passes (AtCheck a) ≡ true
    → IsNoLater (AtCheck a) (latest_check passes c)
latest_check_above passes zero a h l = h
latest_check_above passes (suc c) a h l = latest_check_at passes c a
    (passes (AtCheck (suc c))) refl h l (λ k. latest_check_above passes c a k l)

latest_check_passes_at : (passes : Choice → Bool) (c : ℕ) (b : Bool) → b ≡ passes (AtCheck (suc c))
    → passes (latest_check passes c) ≡ true
    → passes (cond b (AtCheck (suc c)) (latest_check passes c)) ≡ true
latest_check_passes_at passes c true e rest = sym e
latest_check_passes_at passes c false e rest = rest

pub latest_check_passes : (passes : Choice → Bool) (c : ℕ) → passes (AtCheck 0) ≡ true
    → passes (latest_check passes c) ≡ true
latest_check_passes passes zero h = h
latest_check_passes passes (suc c) h =
    latest_check_passes_at passes c (passes (AtCheck (suc c))) refl (latest_check_passes passes c h)

module _ (history : List Process) (marks : MarksView) (failed : List Bool) (p : ℕ) where
  -- a surviving check is one of the tape's
  pub survives_within : (c : ℕ) → survives history marks failed p (AtCheck c) ≡ true
      → c ≤ checks (tape_at history p)
  survives_within zero h = omega arith
  survives_within (suc c) h =
      elim (leb (suc c) (checks (tape_at history p))) as
      (λ b. b ≡ leb (suc c) (checks (tape_at history p))
      → (b && not (is_damaged marks p (suc c)) && is_allowed (bar_at marks p) (AtCheck (suc c)))
      ≡ true → suc c ≤ checks (tape_at history p))
      [ true ↦ λ e k. grind (arith, nat_tests) | false ↦ λ e k. absurd (false≢true k) ] refl h

  latest_choice_at : (b : Bool) → b ≡ survives history marks failed p Now → (c : Choice)
      → survives history marks failed p c ≡ true → IsNoLater c
      (cond b Now (latest_check (survives history marks failed p) (checks (tape_at history p))))
  latest_choice_at true e (AtCheck c) h = tt
  latest_choice_at true e Now h = tt
  latest_choice_at false e (AtCheck c) h = latest_check_above (survives history marks failed p)
      (checks (tape_at history p)) c (survives_within c h) h
  latest_choice_at false e Now h = absurd (false≢true (e ∙ h))

  -- no surviving choice is later than the latest
  pub latest_choice_above : (c : Choice) → survives history marks failed p c ≡ true
      → IsNoLater c (latest_choice history marks failed p)
  latest_choice_above c h = latest_choice_at (survives history marks failed p Now) refl c h

  latest_choice_survives_at : (b : Bool) → b ≡ survives history marks failed p Now
      → survives history marks failed p (cond b Now
      (latest_check (survives history marks failed p) (checks (tape_at history p)))) ≡ true
  latest_choice_survives_at true e = sym e
  latest_choice_survives_at false e =
      latest_check_passes (survives history marks failed p) (checks (tape_at history p)) refl

  pub latest_choice_survives : survives history marks failed p
      (latest_choice history marks failed p) ≡ true
  latest_choice_survives = latest_choice_survives_at (survives history marks failed p Now) refl

  pub next_lower_survives : (c : Choice)
      → survives history marks failed p (next_lower history marks failed p c) ≡ true
  next_lower_survives (AtCheck c) =
      latest_check_passes (survives history marks failed p) (c - 1) refl
  next_lower_survives Now =
      latest_check_passes (survives history marks failed p) (checks (tape_at history p)) refl

  -- a surviving choice that is earlier than c is no later than the next lower one
  pub next_lower_above : (c d : Choice) → IsNoLater d c → d ≢ c
      → survives history marks failed p d ≡ true → IsNoLater d (next_lower history marks failed p c)
  next_lower_above (AtCheck c) (AtCheck d) h apart l =
      let other : d ≢ c = λ q. apart (ap AtCheck q) in
      latest_check_above (survives history marks failed p) (c - 1) d (omega arith) l
  next_lower_above (AtCheck c) Now h apart l = absurd h
  next_lower_above Now (AtCheck d) h apart l = latest_check_above (survives history marks failed p)
      (checks (tape_at history p)) d (survives_within d l) l
  next_lower_above Now Now h apart l = absurd (apart refl)

  -- the next lower choice is no later
  pub next_lower-le : (c : Choice) → IsNoLater (next_lower history marks failed p c) c
  next_lower-le (AtCheck c) = IsNoLater-trans
      (latest_check (survives history marks failed p) (c - 1)) (AtCheck (c - 1)) (AtCheck c)
      (latest_check-le (survives history marks failed p) (c - 1)) (omega arith)
  next_lower-le Now = IsNoLater-trans
      (latest_check (survives history marks failed p) (checks (tape_at history p)))
      (AtCheck (checks (tape_at history p))) Now
      (latest_check-le (survives history marks failed p) (checks (tape_at history p))) tt

  -- and earlier, but for the initial state
  pub next_lower-before : (c : Choice) → c ≢ AtCheck 0
      → IsNoLater c (next_lower history marks failed p c) → ⊥
  next_lower-before (AtCheck zero) apart h = apart refl
  next_lower-before (AtCheck (suc c)) apart h =
      let down : suc c ≤ suc c - 1 = IsNoLater-trans (AtCheck (suc c))
      (latest_check (survives history marks failed p) (suc c - 1)) (AtCheck (suc c - 1)) h
      (latest_check-le (survives history marks failed p) (suc c - 1)) in
      omega arith
  next_lower-before Now apart h = IsNoLater-trans Now
      (latest_check (survives history marks failed p) (checks (tape_at history p)))
      (AtCheck (checks (tape_at history p))) h
      (latest_check-le (survives history marks failed p) (checks (tape_at history p)))

-- a line is at no process past its end
pub choice-past : (line : List Choice) (p : ℕ) → length line ≤ p → choice_at line p ≡ AtCheck 0
choice-past line p h = get_or_past line p (AtCheck 0) h
