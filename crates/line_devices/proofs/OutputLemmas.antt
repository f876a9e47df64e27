-- Texts that are written one behind another, and put but for an end that is held.
use Rattle.std.proofs.Common.{◌≡◌, ℕ, List, [], ◌++◌, Option, append_assoc, sym, ap, refl, ◌∙◌}
use Rattle.std.proofs.Common.{subst}
use Rattle.std.specs.Prelude.{Err, Ok, OnErr, OnOk, Result}
use Rattle.std.specs.Result.{IsErrAnd}
use Rattle.std.proofs.lemmas.List.{append-nil}
use Rattle.std.proofs.lemmas.Result.{err_from_is_err_and, on_err_weaker, on_ok_weaker}
use Rattle.line_devices.specs.declared.devices.DeviceFault.{DeviceFault}
use Rattle.line_devices.specs.Devices.{Outputs, Puts, PutsButEnd, PutsFront, one_more}
use Rattle.line_devices.proofs.PutLemmas.{first_front, front_of_front, front_then, holds_all}
use Rattle.line_devices.proofs.PutLemmas.{holds_none, puts_both, then_front, then_held, then_put}

-- nothing is written yet
pub outputs_none : {A : Type 0} (x : A) (a : Option (List ℕ)) (f : ℕ) (held : List ℕ)
    → Outputs (Ok x) a a f f held (held ++ [])
outputs_none {A} x a f held = record {
  ok = subst (λ (t : List ℕ). PutsButEnd a a held t)
      (sym (append-nil held)) (holds_all a held);
  err = tt;
  sound = refl;
  failed = tt;
}

-- the same text, told otherwise
pub outputs_as : {A : Type 0} (r : Result A DeviceFault) (a b : Option (List ℕ)) (f g : ℕ)
    (held later xs total : List ℕ) → total ≡ xs → Outputs r a b f g later (held ++ xs)
    → Outputs r a b f g later (held ++ total)
outputs_as {A} r a b f g held later xs total same h = subst
    (λ (t : List ℕ). Outputs r a b f g later (held ++ t)) (sym same) h

-- one text behind another that was written
pub outputs_on : {A B : Type 0} {x : B} {r : Result A DeviceFault} {a b c : Option (List ℕ)}
    {f g h : ℕ} {kept later : List ℕ} (held xs ys total : List ℕ) → total ≡ xs ++ ys
    → Outputs (Ok x) a b f g kept (held ++ xs) → Outputs r b c g h later (kept ++ ys)
    → Outputs r a c f h later (held ++ total)
outputs_on {A} {B} {x} {r} {a} {b} {c} {f} {g} {h} {kept} {later} held xs ys total same before own =
    let told : Outputs r a c f h later (held ++ (xs ++ ys)) = record {
      ok = on_ok_weaker r (λ (p : PutsButEnd b c later (kept ++ ys)). then_put a b c held kept later
          xs ys before.ok p) own.ok;
      err = on_err_weaker r (λ
          (p : PutsFront b c (kept ++ ys)). then_front a b c held kept xs ys before.ok p) own.err;
      sound = on_ok_weaker r (λ (p : h ≡ g). p ∙ before.sound) own.sound;
      failed = on_err_weaker r (λ (p : h ≡ one_more g). p ∙ ap one_more before.sound) own.failed;
    } in
    outputs_as r a c f h held later (xs ++ ys) total same told

-- the sink failed within the first of two texts, and no more is written
pub outputs_front : {A B : Type 0} {e : DeviceFault} {a b : Option (List ℕ)} {f g : ℕ}
    {later : List ℕ} (r : Result A DeviceFault) (Q : DeviceFault → Type 0)
    (held other xs ys total : List ℕ) → total ≡ xs ++ ys
    → Outputs {A = B} (Err e) a b f g later (held ++ xs) → IsErrAnd r Q
    → Outputs r a b f g other (held ++ total)
outputs_front {A} {B} {e} {a} {b} {f} {g} {later} r Q held other xs ys total same own passed =
    let fails : (y : DeviceFault) × (r ≡ Err y) × Q y = err_from_is_err_and r passed in
    let told : Outputs {A = A} (Err fails.0) a b f g other (held ++ (xs ++ ys)) = record
    { ok = tt; err = first_front a b held xs ys own.err; sound = tt; failed = own.failed } in
    outputs_as r a b f g held other (xs ++ ys) total same (subst (λ (s : Result A DeviceFault).
    Outputs s a b f g other (held ++ (xs ++ ys))) (sym fails.1) told)

-- the sink failed where what was held was put
pub outputs_lost : {A : Type 0} (r : Result A DeviceFault) (Q : DeviceFault → Type 0)
    (a b : Option (List ℕ)) (f g : ℕ) (held other xs : List ℕ) → PutsFront a b held → g ≡ one_more f
    → IsErrAnd r Q → Outputs r a b f g other (held ++ xs)
outputs_lost {A} r Q a b f g held other xs front failed passed =
    let fails : (y : DeviceFault) × (r ≡ Err y) × Q y = err_from_is_err_and r passed in
    let told : Outputs {A = A} (Err fails.0) a b f g other (held ++ xs) = record
    { ok = tt; err = front_of_front a b held xs front; sound = tt; failed = failed } in
    subst (λ (s : Result A DeviceFault). Outputs s a b f g other (held ++ xs)) (sym fails.1) told

-- what was held is put, and what is written is held
pub outputs_held : {A : Type 0} (x : A) (a b : Option (List ℕ)) (f g : ℕ) (held later xs : List ℕ)
    → Puts a b held → g ≡ f → later ≡ xs → Outputs (Ok x) a b f g later (held ++ xs)
outputs_held {A} x a b f g held later xs put sound same =
    record {
      ok = subst (λ (t : List ℕ). PutsButEnd a b t (held ++ xs)) (sym same)
          (then_held a b held xs put);
      err = tt;
      sound = sound;
      failed = tt;
    }

-- nothing was put, and what is written is held
pub outputs_more : {A : Type 0} (x : A) (a : Option (List ℕ)) (f : ℕ) (held later xs : List ℕ)
    → later ≡ held ++ xs → Outputs (Ok x) a a f f later (held ++ xs)
outputs_more {A} x a f held later xs same =
    record {
      ok = subst (λ (t : List ℕ). PutsButEnd a a t (held ++ xs)) (sym same)
          (holds_all a (held ++ xs));
      err = tt;
      sound = refl;
      failed = tt;
    }

-- what was held was put, and then what is written
pub outputs_both : {A : Type 0} (r : Result A DeviceFault) (a b c : Option (List ℕ)) (f g h : ℕ)
    (held later xs : List ℕ) → Puts a b held → g ≡ f → later ≡ []
    → OnOk r (Puts b c xs) → OnErr r (PutsFront b c xs) → OnOk r (h ≡ g) → OnErr r (h ≡ one_more g)
    → Outputs r a c f h later (held ++ xs)
outputs_both {A} r a b c f g h held later xs put same none ok err sound failed = record {
  ok = on_ok_weaker r (λ (p : Puts b c xs). subst (λ (t : List ℕ). PutsButEnd a c t (held ++ xs))
      (sym none) (holds_none a c (held ++ xs) (puts_both a b c held xs put p))) ok;
  err = on_err_weaker r (λ (p : PutsFront b c xs). subst (λ (t : List ℕ). PutsFront a c (held ++ t))
      (append-nil xs) (front_then a b c held xs [] put p)) err;
  sound = on_ok_weaker r (λ (p : h ≡ g). p ∙ same) sound;
  failed = on_err_weaker r (λ (p : h ≡ one_more g). p ∙ ap one_more same) failed;
}

-- behind what was held a front of the total was written, and this is left of it
pub record IsOut (a b : Option (List ℕ)) (f g : ℕ) (held now total left : List ℕ) : Type 0 where
  pub done : List ℕ
  pub out : Outputs {A = Unit} (Ok tt) a b f g now (held ++ done)
  pub parts : total ≡ done ++ left

-- nothing is written yet
pub out_none : (a : Option (List ℕ)) (f : ℕ) (held total : List ℕ)
    → IsOut a a f f held held total total
out_none a f held total = record { done = []; out = outputs_none tt a f held; parts = refl }

-- what is left, told otherwise
pub out_left : (a b : Option (List ℕ)) (f g : ℕ) (held now total left other : List ℕ) → left ≡ other
    → IsOut a b f g held now total left → IsOut a b f g held now total other
out_left a b f g held now total left other same h =
    record { done = h.done; out = h.out; parts = h.parts ∙ ap (λ (t : List ℕ). h.done ++ t) same }

-- one part more is written
pub out_more : {A : Type 0} {x : A} {a b c : Option (List ℕ)} {f g h : ℕ}
    {held now later total left : List ℕ} (part rest : List ℕ) → left ≡ part ++ rest
    → IsOut a b f g held now total left → Outputs (Ok x) b c g h later (now ++ part)
    → IsOut a c f h held later total rest
out_more {A} {x} {a} {b} {c} {f} {g} {h} {held} {now} {later} {total} {left} part rest next before
    own =
    let both : Outputs (Ok x) a c f h later (held ++ (before.done ++ part)) = outputs_on held
    before.done part (before.done ++ part) refl before.out own in
    record {
      done = before.done ++ part;
      out = record { ok = both.ok; err = tt; sound = both.sound; failed = tt };
      parts = before.parts ∙ ap (λ (t : List ℕ). before.done ++ t) next ∙ sym
          (append_assoc before.done part rest);
    }

-- the sink failed within the next part
pub out_front : {A B : Type 0} {e : DeviceFault} {a b c : Option (List ℕ)} {f g h : ℕ}
    {held now later total left : List ℕ} (r : Result A DeviceFault) (Q : DeviceFault → Type 0)
    (other part rest : List ℕ) → left ≡ part ++ rest
    → IsOut a b f g held now total left → Outputs {A = B} (Err e) b c g h later (now ++ part)
    → IsErrAnd r Q → Outputs r a c f h other (held ++ total)
out_front {A} {B} {e} {a} {b} {c} {f} {g} {h} {held} {now} {later} {total} {left} r Q other part
    rest next before own passed =
    let parts : total ≡ (before.done ++ part) ++ rest = before.parts ∙ ap
    (λ (t : List ℕ). before.done ++ t) next ∙ sym (append_assoc before.done part rest) in
    outputs_front r Q held other (before.done ++ part) rest total parts
    (outputs_on {A = B} held before.done part (before.done ++ part) refl before.out own) passed

-- all is written
pub out_all : {A : Type 0} (x : A) {a b : Option (List ℕ)} {f g : ℕ} {held now total left : List ℕ}
    → left ≡ [] → IsOut a b f g held now total left → Outputs (Ok x) a b f g now (held ++ total)
out_all {A} x {a} {b} {f} {g} {held} {now} {total} {left} none before =
    let all : total ≡ before.done = before.parts ∙ ap
    (λ (t : List ℕ). before.done ++ t) none ∙ append-nil before.done in
    let told : Outputs (Ok x) a b f g now (held ++ before.done) = record
    { ok = before.out.ok; err = tt; sound = before.out.sound; failed = tt } in
    outputs_as (Ok x) a b f g held now before.done total all told
