-- Reading bytes pair by pair.
use Rattle.std.proofs.Common.{◌≡◌, ℕ, ◌+◌, ◌*◌, List, [], ◌∷◌, ◌++◌, Result, Ok, Err, refl, sym, ap}
use Rattle.std.proofs.Common.{subst, ◌∙◌, append_assoc, ◌≤◌, ◌<◌, ◌-◌, ◌==◌, true, false, length}
use Rattle.std.proofs.Common.{take, drop, get_or, arith, eqb-true, length-append}
use Rattle.std.proofs.lemmas.List.{append-nil, drop_more, take-append-le, take_all}
use Rattle.line_fields.proofs.TextLemmas.{rest_is}
use Rattle.line_fields.specs.declared.faults.Fault.{Fault}
use Rattle.line_fields.specs.declared.faults.Fault.TheVariants.{BadNumber}
use Rattle.line_fields.specs.Digits.{with_front}
use Rattle.line_fields.specs.declared.faults.ReadError.{ReadError}
use Rattle.line_fields.specs.Fields.{◌>>=◌, Gives, digit, hex}

-- a byte moves from what is still read to what was
regroup : {A : Type 0} (front : List A) (x : A) (read : Result (List A) Fault)
    → with_front front (read >>= λ xs. Ok (x ∷ xs)) ≡ with_front (front ++ (x ∷ [])) read
regroup front x (Ok xs) = ap Ok (sym (append_assoc front (x ∷ []) xs))
regroup front x (Err f) = refl

-- where nothing stands before what is read, that alone is given
no_front : {A : Type 0} (read : Result (List A) Fault) → with_front [] read ≡ read
no_front (Ok xs) = refl
no_front (Err f) = refl

pub given_alone : {A : Type 0} (seen : A → List ℕ) (result : Result A ReadError) (front : List ℕ)
    (read : Result (List ℕ) Fault) → Gives seen result (with_front front read) → front ≡ []
    → Gives seen result read
given_alone seen result front read given none =
    subst (Gives seen result) (ap (λ xs. with_front xs read) none ∙ no_front read) given

-- two digits more, a wrong first one, a wrong second one, a last one alone, and the end
hex_more : (front : List ℕ) (first second high low : ℕ) (rest : List ℕ) → digit first ≡ Ok high
    → digit second ≡ Ok low
    → with_front front (hex (first ∷ second ∷ rest))
    ≡ with_front (front ++ ((16 * high + low) ∷ [])) (hex rest)
unfolding hex
hex_more front first second high low rest h l =
    rw (h, l) (regroup front (16 * high + low) (hex rest))

hex_first : (front : List ℕ) (first second : ℕ) (rest : List ℕ) (f : Fault) → digit first ≡ Err f
    → with_front front (hex (first ∷ second ∷ rest)) ≡ Err f
unfolding hex
hex_first front first second rest f h = rw h refl

hex_second : (front : List ℕ) (first second high : ℕ) (rest : List ℕ) (f : Fault) → digit first
    ≡ Ok high → digit second ≡ Err f → with_front front (hex (first ∷ second ∷ rest)) ≡ Err f
unfolding hex
hex_second front first second high rest f h l = rw (h, l) refl

hex_odd : (front : List ℕ) (c : ℕ) → with_front front (hex (c ∷ [])) ≡ Err BadNumber
unfolding hex
hex_odd front c = refl

hex_end : (front : List ℕ) → with_front front (hex []) ≡ Ok front
unfolding hex
hex_end front = ap Ok (append-nil front)

-- a list of two or more, as a slice pattern takes it apart
two_more : (xs : List ℕ) → 2 ≤ length xs
    → xs ≡ get_or xs 0 0 ∷ get_or xs 1 0 ∷ take (length xs - 2) (drop 2 xs)
two_more xs h =
    drop_more xs 0 0 (omega arith) ∙ ap (λ ys. get_or xs 0 0 ∷ ys) (drop_more xs 1 0 (omega arith))
    ∙ ap (λ ys. get_or xs 0 0 ∷ get_or xs 1 0 ∷ ys) (sym (rest_is xs 2))

-- the same by the first bytes of a slice
pub more_at : (front xs : List ℕ) (high low : ℕ) → 2 ≤ length xs → digit (get_or xs 0 0) ≡ Ok high
    → digit (get_or xs 1 0) ≡ Ok low
    → with_front front (hex xs)
    ≡ with_front (front ++ ((16 * high + low) ∷ [])) (hex (take (length xs - 2) (drop 2 xs)))
more_at front xs high low two h l =
    ap (λ ys. with_front front (hex ys)) (two_more xs two) ∙ hex_more front (get_or xs 0 0)
    (get_or xs 1 0) high low (take (length xs - 2) (drop 2 xs)) h l

pub first_at : (front xs : List ℕ) (f : Fault) → 2 ≤ length xs → digit (get_or xs 0 0) ≡ Err f
    → with_front front (hex xs) ≡ Err f
first_at front xs f two h = ap (λ ys. with_front front (hex ys)) (two_more xs two) ∙ hex_first front
    (get_or xs 0 0) (get_or xs 1 0) (take (length xs - 2) (drop 2 xs)) f h

pub second_at : (front xs : List ℕ) (high : ℕ) (f : Fault) → 2 ≤ length xs → digit (get_or xs 0 0)
    ≡ Ok high → digit (get_or xs 1 0) ≡ Err f → with_front front (hex xs) ≡ Err f
second_at front xs high f two h l = ap (λ ys. with_front front (hex ys)) (two_more xs two) ∙
    hex_second front (get_or xs 0 0) (get_or xs 1 0) high (take (length xs - 2) (drop 2 xs)) f h l

pub odd_at : (front xs : List ℕ) → length xs < 2 → (length xs == 0) ≡ false
    → with_front front (hex xs) ≡ Err BadNumber
odd_at front [] h k = cc k
odd_at front (c ∷ []) h k = hex_odd front c
odd_at front (c ∷ d ∷ rest) h k = absurd (omega arith)

pub end_at : (front xs : List ℕ) → (length xs == 0) ≡ true → with_front front (hex xs) ≡ Ok front
end_at front [] h = hex_end front
end_at front (c ∷ rest) h = let none = eqb-true (length (c ∷ rest)) 0 h in absurd (omega arith)

-- a text was read as far as this rest, behind what a list had, which was so long
pub record IsHexTo (long : ℕ) (old text now rest : List ℕ) : Type 0 where
  pub same : with_front now (hex rest) ≡ with_front old (hex text)
  pub longer : long ≤ length now
  pub kept : take long now ≡ old

pub hex_begins : (long : ℕ) (old text : List ℕ) → long ≡ length old → IsHexTo long old text old text
hex_begins long old text is =
    record { same = refl; longer = omega (arith, is); kept = take_all long old (omega (arith, is)) }

pub hex_on : (long : ℕ) (old text now rest bytes next : List ℕ)
    → with_front now (hex rest) ≡ with_front (now ++ bytes) (hex next)
    → IsHexTo long old text now rest → IsHexTo long old text (now ++ bytes) next
hex_on long old text now rest bytes next more h = record {
  same = sym more ∙ h.same;
  longer = omega (arith, h.longer, length-append now bytes);
  kept = take-append-le long now bytes h.longer ∙ h.kept;
}
