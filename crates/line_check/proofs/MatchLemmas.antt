-- How far messages are found in order among those that are due.
use Rattle.std.proofs.Common.{◌≡◌, ℕ, zero, suc, ◌+◌, ◌<◌, ◌≤◌, List, [], ◌∷◌, ◌++◌, length, take}
use Rattle.std.proofs.Common.{drop, refl, sym, ap, ◌∙◌, subst, arith, inl, inr, length-append}
use Rattle.std.specs.List.{Contains}
use Rattle.std.proofs.lemmas.List.{take-append-drop}
use Rattle.std.proofs.lemmas.List.Elements.{Contains-append_left, Contains-append_right}
use Rattle.std.proofs.lemmas.List.Elements.{Contains-push}
use Rattle.line_tape.proofs.CutLemmas.{cons_cases}
use Rattle.line_check.specs.declared.answers.Replay.{Replay}
use Rattle.line_check.specs.Faults.{ArePartOf}
use Rattle.line_check.specs.Matches.{Leaves}

-- no more are left than there were
few-left : (due replays left : List Replay) → Leaves due replays left → length left ≤ length replays
few-left [] replays left same = omega (arith, ap length same)
few-left (next ∷ due) replays left (inl (rest, is, leaves)) =
    omega (arith, ap length is, few-left due rest left leaves)
few-left (next ∷ due) replays left (inr (other, leaves)) = few-left due replays left leaves

-- an empty list is what has no length
none-long : (xs : List Replay) → length xs ≤ 0 → xs ≡ []
none-long [] few = refl
none-long (x ∷ xs) few = absurd (omega arith)

-- those that are found are some of those that are due, in their order
pub leaves-part : (due replays left xs : List Replay) → Leaves due replays left
    → replays ≡ xs ++ left → ArePartOf xs due
leaves-part [] replays left xs same split =
    let none : xs ≡ [] = none-long xs
    (omega (arith, ap length same, ap length split, length-append xs left)) in
    subst (λ ys. ArePartOf ys []) (sym none) tt
leaves-part (next ∷ due) replays left [] (inl found) split = tt
leaves-part (next ∷ due) replays left [] (inr passed) split = tt
leaves-part (next ∷ due) replays left (x ∷ xs) (inl (rest, is, leaves)) split =
    let head : x ≡ next = cc (split, is) in
    let tail : rest ≡ xs ++ left = cc (split, is) in
    inl (head, leaves-part due rest left xs leaves tail)
leaves-part (next ∷ due) replays left (x ∷ xs) (inr (other, leaves)) split =
    inr (leaves-part due replays left (x ∷ xs) leaves split)

-- what is left of a part without its first is a part
tail-part : (x : Replay) (xs due : List Replay) → ArePartOf (x ∷ xs) due → ArePartOf xs due
tail-part x xs [] part = absurd part
tail-part x [] (next ∷ due) part = tt
tail-part x (y ∷ xs) (next ∷ due) (inl (is, part)) = inr part
tail-part x (y ∷ xs) (next ∷ due) (inr part) = inr (tail-part x (y ∷ xs) due part)

-- no longer front is a part of those that are due
pub leaves-most : (due replays left xs ys : List Replay) → Leaves due replays left
    → replays ≡ xs ++ ys → ArePartOf xs due → length left ≤ length ys
leaves-most [] replays left [] ys same split part = omega (arith, ap length same, ap length split)
leaves-most [] replays left (x ∷ xs) ys same split part = absurd part
leaves-most (next ∷ due) replays left [] ys leaves split part =
    omega (arith, few-left (next ∷ due) replays left leaves, ap length split)
leaves-most (next ∷ due) replays left (x ∷ xs) ys (inl (rest, is, leaves)) split part =
    let tail : rest ≡ xs ++ ys = cc (split, is) in
    leaves-most due rest left xs ys leaves tail (elim part [
      | inl same ↦ same.1
      | inr later ↦ tail-part x xs due later
    ])
leaves-most (next ∷ due) replays left (x ∷ xs) ys (inr (other, leaves)) split part = elim part [
  | inl same ↦ absurd (other (xs ++ ys) (split ∙ ap (λ z. z ∷ (xs ++ ys)) same.0))
  | inr later ↦ leaves-most due replays left (x ∷ xs) ys leaves split later
]

-- the first k are right, and not one more, where this much is left
pub found-part : (due replays : List Replay) (k : ℕ) → Leaves due replays (drop k replays)
    → ArePartOf (take k replays) due
found-part due replays k leaves = leaves-part due replays (drop k replays) (take k replays) leaves
    (sym (take-append-drop k replays))

pub found-most : (due replays : List Replay) (k : ℕ) → k < length replays
    → Leaves due replays (drop k replays) → ArePartOf (take (k + 1) replays) due → ⊥
found-most due replays k within leaves part =
    let most : length (drop k replays) ≤ length (drop (k + 1) replays) = leaves-most due replays
    (drop k replays) (take (k + 1) replays) (drop (k + 1) replays) leaves
    (sym (take-append-drop (k + 1) replays)) part in
    absurd (grind (arith, most, within, length-drop-is k replays, length-drop-is (k + 1) replays))
  where
    length-drop-is : (n : ℕ) (xs : List Replay) → n ≤ length xs → length (drop n xs) + n ≡ length xs
    length-drop-is zero xs few = omega arith
    length-drop-is (suc n) [] few = absurd (omega arith)
    length-drop-is (suc n) (x ∷ xs) few = omega (arith, length-drop-is n xs (omega arith))

-- where all that are due are found, they are the replays before those that are left
pub found-all : (due replays left : List Replay) → Leaves due replays left
    → length due + length left ≡ length replays → replays ≡ due ++ left
found-all [] replays left same counted = same
found-all (next ∷ due) replays left (inl (rest, is, leaves)) counted =
    let fewer : length due + length left ≡ length rest = omega (arith, counted, ap length is) in
    is ∙ ap (λ xs. next ∷ xs) (found-all due rest left leaves fewer)
found-all (next ∷ due) replays left (inr (other, leaves)) counted =
    absurd (omega (arith, counted, many-left due replays left leaves))
  where
    many-left : (due replays left : List Replay) → Leaves due replays left
        → length replays ≤ length due + length left
    many-left [] replays left same = omega (arith, ap length same)
    many-left (next ∷ due) replays left (inl (rest, is, leaves)) =
        omega (arith, ap length is, many-left due rest left leaves)
    many-left (next ∷ due) replays left (inr (other, leaves)) =
        omega (arith, many-left due replays left leaves)

-- those of a list are among it with one more before
pub later-Contains : (d : Replay) (ds : List Replay) (x : Replay) → Contains ds x
    → Contains (d ∷ ds) x
later-Contains d ds x c = Contains-append_right (d ∷ []) ds x c

pub first-Contains : (d : Replay) (ds : List Replay) → Contains (d ∷ ds) d
first-Contains d ds = Contains-append_left (d ∷ []) ds d (Contains-push [] d)

-- a list without its first, which is another
pub other-Contains : (d : Replay) (ds : List Replay) (x : Replay) → (x ≡ d → ⊥)
    → Contains (d ∷ ds) x → Contains ds x
other-Contains d ds x other c = elim (cons_cases d ds x c) [
  | inl same ↦ absurd (other (sym same))
  | inr later ↦ later
]

-- the first of them are a part of them
pub front-part : (n : ℕ) (xs : List Replay) → ArePartOf (take n xs) xs
front-part zero xs = tt
front-part (suc n) [] = tt
front-part (suc n) (x ∷ xs) = inl (refl, front-part n xs)
