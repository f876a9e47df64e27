-- What is in transit, as the events of a sender are gone through.
use Rattle.std.proofs.Common.{◌≡◌, ℕ, zero, suc, ◌+◌, ◌↔◌, Bool, true, false, List, [], ◌∷◌, ◌++◌}
use Rattle.std.proofs.Common.{Option, Some, None, refl, sym, ap, ◌∙◌, subst, arith, ◌⊎◌, inl, inr}
use Rattle.std.specs.Cmp.{IsEquivalence}
use Rattle.std.specs.List.{Contains, filter_map, cons_option, range_with_len}
use Rattle.std.proofs.lemmas.Cmp.{nat_eq_equiv, on_equiv, and_equiv}
use Rattle.std.proofs.lemmas.List.Elements.{Contains-append_left, Contains-append_right}
use Rattle.std.proofs.lemmas.List.Elements.{Contains-push}
use Rattle.std.proofs.lemmas.Map.Views.{Contains-from_any, list_any-from_Contains}
use Rattle.line_names.specs.Names.{is_name}
use Rattle.line_names.specs.declared.messages.MsgName.{MsgName}
use Rattle.line_names.proofs.NameLemmas.{is_name-true}
use Rattle.line_tape.specs.declared.events.Event.{Event}
use Rattle.line_tape.specs.declared.events.Event.TheVariants.{Send, Recv, Check, Mark}
use Rattle.line_tape.specs.Transit.{Letter, received_name, names_received, has_received}
use Rattle.line_tape.proofs.CutLemmas.{cons_cases, contains_nothing, comes_from}

-- the test of names is an equivalence
is_name-laws : IsEquivalence is_name
is_name-laws = and_equiv (on_equiv (λ (m : MsgName). m.from) nat_eq_equiv) (and_equiv (on_equiv
    (λ (m : MsgName). m.inc) nat_eq_equiv) (on_equiv (λ (m : MsgName). m.number) nat_eq_equiv))

-- what an element gives stands among what all of them give
goes_at : {X Y : Type 0} (h : X → Option Y) (x : X) (xs : List X) (y : Y) (o : Option Y) → h x ≡ o
    → (h x ≡ Some y) ⊎ Contains (filter_map h xs) y → Contains (cons_option o (filter_map h xs)) y
goes_at h x xs y None e (inl here) = absurd (cc (e, here))
goes_at h x xs y None e (inr later) = later
goes_at h x xs y (Some z) e (inl here) =
    let same : z ≡ y = cc (e, here) in
    subst (Contains (z ∷ filter_map h xs)) same
    (Contains-append_left (z ∷ []) (filter_map h xs) z (Contains-push [] z))
goes_at h x xs y (Some z) e (inr later) = Contains-append_right (z ∷ []) (filter_map h xs) y later

goes_to : {X Y : Type 0} (h : X → Option Y) (xs : List X) (x : X) (y : Y) → h x ≡ Some y
    → Contains xs x → Contains (filter_map h xs) y
goes_to h [] x y e c = absurd (contains_nothing x c)
goes_to h (z ∷ xs) x y e c = goes_at h z xs y (h z) refl (elim (cons_cases z xs x c)
    [ inl same ↦ inl (ap h same ∙ e) | inr later ↦ inr (goes_to h xs x y e later) ])

receipt_of : (event : Event) (m : MsgName) → received_name event ≡ Some m → event ≡ Recv m
receipt_of (Send to inc body) m e = absurd (cc e)
receipt_of (Recv message) m e = cc e
receipt_of (Check state round) m e = absurd (cc e)
receipt_of (Mark from round) m e = absurd (cc e)

-- a message is among the names received where a receipt of it stands
pub names_contain : (events : List Event) (m : MsgName)
    → Contains (names_received events) m ↔ Contains events (Recv m)
names_contain events m = (
  λ h.
      let from = comes_from received_name events m h in
      subst (Contains events) (receipt_of from.source m from.gives) from.among,
  λ c. goes_to received_name events (Recv m) m refl c,
)

-- the test says whether a receipt of the message stands there
pub has_received-iff : (events : List Event) (m : MsgName)
    → (has_received events m ≡ true) ↔ Contains events (Recv m)
has_received-iff events m = (
  λ h. (names_contain events m).0
      (Contains-from_any is_name-true m (names_received events) h),
  λ c. list_any-from_Contains
      is_name-laws m (names_received events) ((names_contain events m).1 c),
)

-- a test that says so is that one
pub has_received-is : (events : List Event) (m : MsgName) (r : Bool)
    → (r ≡ true) ↔ Contains events (Recv m) → r ≡ has_received events m
has_received-is events m r iff = same_test r (has_received events m)
    (λ h. (has_received-iff events m).1 (iff.0 h)) (λ h. iff.1 ((has_received-iff events m).0 h))
  where
    same_test : (a b : Bool) → (a ≡ true → b ≡ true) → (b ≡ true → a ≡ true) → a ≡ b
    same_test true b f g = sym (f refl)
    same_test false true f g = g refl
    same_test false false f g = refl

-- the letter of a send
abbrev pub letter_of : ℕ → ℕ → ℕ → ℕ → Letter
letter_of p inc number to =
    record { message = record { from = p; inc = inc; number = number }; to = to }

-- one number more
pub range-push : (n a : ℕ) → range_with_len a (suc n) ≡ range_with_len a n ++ (a + n) ∷ []
range-push zero a = let same : a ≡ a + 0 = omega arith in ap (λ x. x ∷ []) same
range-push (suc n) a = let same : a + 1 + n ≡ a + suc n = omega arith in ap (λ xs. a ∷ xs)
    (range-push n (a + 1) ∙ ap (λ x. range_with_len (a + 1) n ++ x ∷ []) same)
