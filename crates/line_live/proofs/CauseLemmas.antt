-- First causes of a refusal that differ in whether a tape is full, the last one of each list.
use Rattle.std.proofs.Common.{◌≡◌, Bool, true, false, cond, List, [], ◌∷◌, ◌++◌, Some, None, refl}
use Rattle.std.proofs.Common.{sym, subst, ◌⊎◌, inl, inr}
use Rattle.line_tape.specs.declared.steps.Step.{Step}
use Rattle.line_world.specs.declared.replies.StepError.{StepError}
use Rattle.line_world.specs.declared.replies.StepError.TheVariants.{TapeFull}
use Rattle.line_world.specs.Machine.{Machine}
use Rattle.line_world.specs.Refusals.{first_cause, IsLateCause, IsRefused}

-- where one tape has room, nothing but the other's being full refuses
pub room_cases : (causes : List (Bool × StepError)) (full other : Bool)
    → first_cause (causes ++ (full, TapeFull) ∷ []) ≡ None
    → (first_cause (causes ++ (other, TapeFull) ∷ []) ≡ None)
    ⊎ (first_cause (causes ++ (other, TapeFull) ∷ []) ≡ Some TapeFull)
room_cases [] full true none = inr refl
room_cases [] full false none = inl refl
room_cases (c ∷ cs) full other none =
    elim c.0 as (λ b. cond b (Some c.1) (first_cause (cs ++ (full, TapeFull) ∷ [])) ≡ None
    → (cond b (Some c.1) (first_cause (cs ++ (other, TapeFull) ∷ [])) ≡ None)
    ⊎ (cond b (Some c.1) (first_cause (cs ++ (other, TapeFull) ∷ [])) ≡ Some TapeFull)) [
      | true ↦ λ n. absurd (cc)
      | false ↦ λ n. room_cases cs full other n
    ] none

-- a cause that does not hold, and the later ones
pub passes : (b : Bool) (e : StepError) (rest : List (Bool × StepError))
    → first_cause ((b, e) ∷ rest) ≡ None → (b ≡ false) × (first_cause rest ≡ None)
passes true e rest none = absurd (cc)
passes false e rest none = (refl, none)

-- what is refused by a cause is refused by it where the other tape is as full or fuller
pub refused_alike : (cut old : Machine) (step : Step) (e : StepError) (causes : List (Bool
    × StepError)) (full other : Bool) → (full ≡ true → other ≡ true) → (IsLateCause cut step e → ⊥)
    → IsRefused cut step e (first_cause (causes ++ (full, TapeFull) ∷ []))
    → IsRefused old step e (first_cause (causes ++ (other, TapeFull) ∷ []))
refused_alike cut old step e [] true other more early r =
    subst (λ b. IsRefused old step e (cond b (Some TapeFull) None)) (sym (more refl)) r
refused_alike cut old step e [] false other more early r = absurd (early r)
refused_alike cut old step e (c ∷ cs) full other more early r =
    elim c.0 as (λ b. IsRefused cut step e
    (cond b (Some c.1) (first_cause (cs ++ (full, TapeFull) ∷ [])))
    → IsRefused old step e (cond b (Some c.1) (first_cause (cs ++ (other, TapeFull) ∷ [])))) [
      | true ↦ λ x. x
      | false ↦ λ x. refused_alike cut old step e cs full other more early x
    ] r
