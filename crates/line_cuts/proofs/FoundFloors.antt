-- A floor is found by what is in transit there.
use Rattle.std.proofs.Common.{◌≡◌, ℕ, zero, suc, ◌+◌, ◌<◌, ◌≤◌, Bool, true, false, not, cond, List}
use Rattle.std.proofs.Common.{[], ◌∷◌, ◌++◌, length, take, drop, map, Some, refl, sym, ap, ◌∙◌}
use Rattle.std.proofs.Common.{subst, arith, ◌⊎◌, inl, inr}
use Rattle.std.specs.List.{Contains, filter, flat_map, range_with_len, slice_get}
use Rattle.std.proofs.lemmas.Bool.{cases_lt, cases_Bool, false≢true}
use Rattle.std.proofs.lemmas.List.{take-append-drop}
use Rattle.std.proofs.lemmas.List.Elements.{filter_map-append, Contains-append_left}
use Rattle.std.proofs.lemmas.List.Elements.{Contains-append_right, Contains-push}
use Rattle.line_names.specs.declared.messages.MsgName.{MsgName}
use Rattle.line_names.specs.Lines.{choice_at}
use Rattle.line_tape.specs.declared.events.Event.{Event}
use Rattle.line_tape.specs.declared.events.Event.TheVariants.{Send, Recv, Check, Mark}
use Rattle.line_tape.specs.Event.{sends, incarnation_of, incarnations_sent}
use Rattle.line_tape.specs.Front.{front, place}
use Rattle.line_tape.specs.History.{Process, tape_at}
use Rattle.line_tape.specs.Line.{events_before, IsLine, IsConsistent}
use Rattle.line_tape.specs.Transit.{Letter, letters, has_received, is_open_letter, open_letters}
use Rattle.line_tape.specs.Transit.{in_transit, addressee_of, addressees}
use Rattle.line_tape.proofs.EventLemmas.{length_addressees}
use Rattle.line_tape.proofs.LineLemmas.{tape_at-past, front-empty}
use Rattle.line_tape.proofs.TransitLemmas.{has_received-iff}
use Rattle.line_cuts.specs.Cuts.{Floor, IsFloor, lost_sends, floor_line}

module _ {X : Type 0} where
  here : (x : X) (xs : List X) → Contains (x ∷ xs) x
  here x xs = Contains-append_left (x ∷ []) xs x (Contains-push [] x)

  later : (x : X) (xs : List X) (y : X) → Contains xs y → Contains (x ∷ xs) y
  later x xs y c = Contains-append_right (x ∷ []) xs y c

filtered_event : (f : Letter → Bool) (x : Letter) (xs : List Letter) (b : Bool) → b ≡ f x
    → (y : Letter) → f y ≡ true → (x ≡ y) ⊎ Contains (filter f xs) y
    → Contains (cond b (x ∷ filter f xs) (filter f xs)) y
filtered_event f x xs true e y h (inl same) =
    subst (Contains (x ∷ filter f xs)) same (here x (filter f xs))
filtered_event f x xs true e y h (inr c) = later x (filter f xs) y c
filtered_event f x xs false e y h (inl same) = absurd (false≢true (e ∙ ap f same ∙ h))
filtered_event f x xs false e y h (inr c) = c

letters_cases : (x : Letter) (xs : List Letter) (y : Letter) → Contains (x ∷ xs) y
    → (x ≡ y) ⊎ Contains xs y
letters_cases x xs y (zero, l, e) = inl e
letters_cases x xs y (suc k, l, e) = inr (k, omega arith, e)

kept_in : (f : Letter → Bool) (xs : List Letter) (y : Letter) → f y ≡ true → Contains xs y
    → Contains (filter f xs) y
kept_in f [] y h (k, l, e) = absurd (omega arith)
kept_in f (x ∷ xs) y h c = filtered_event f x xs (f x) refl y h
    (elim (letters_cases x xs y c) [ inl same ↦ inl same | inr d ↦ inr (kept_in f xs y h d) ])

named_in : (xs : List Letter) (y : Letter) → Contains xs y
    → Contains (map (λ (letter : Letter). letter.message) xs) y.message
named_in [] y (k, l, e) = absurd (omega arith)
named_in (x ∷ xs) y c = elim (letters_cases x xs y c) [
  | inl same ↦ subst (Contains (x.message ∷ map (λ (letter : Letter). letter.message) xs)) (ap (λ
      (v : Letter). v.message) same) (here x.message (map (λ (letter : Letter). letter.message) xs))
  | inr d ↦ later x.message (map (λ (letter : Letter). letter.message) xs) y.message
      (named_in xs y d)
]

gathered_in : (f : ℕ → List MsgName) (a n p : ℕ) (m : MsgName) → a ≤ p → p < a + n
    → Contains (f p) m → Contains (flat_map f (range_with_len a n)) m
gathered_in f a zero p m l h c = absurd (omega arith)
gathered_in f a (suc n) p m l h c = elim (cases_lt a p) [
  | inl below ↦ Contains-append_right (f a) (flat_map f (range_with_len (a + 1) n)) m
      (gathered_in f (a + 1) n p m (omega arith) (omega arith) c)
  | inr above ↦
      let same : p ≡ a = omega arith in
      Contains-append_left (f a) (flat_map f (range_with_len (a + 1) n)) m
      (subst (λ q. Contains (f q) m) same c)
]

-- the letter of a send
letter_in : (p k : ℕ) (es : List Event) (n inc to : ℕ)
    → slice_get (incarnations_sent es) n ≡ Some inc → slice_get (addressees es) n ≡ Some to
    → Contains (letters p k es)
    (record { message = record { from = p; inc = inc; number = k + n }; to = to })
letter_in p k [] n inc to a b = absurd (cc)
letter_in p k (Send dest i body ∷ es) zero inc to a b =
    let inc_is : i ≡ inc = cc a in
    let to_is : dest ≡ to = cc b in
    let number : k ≡ k + 0 = omega arith in
    let same : record { message = record { from = p; inc = i; number = k }; to = dest }
    ≡ record { message = record { from = p; inc = inc; number = k + 0 }; to = to } =
    ap (λ (v : ℕ). record { message = record { from = p; inc = v; number = k }; to = dest }) inc_is
    ∙ ap (λ (v : ℕ). record { message = record { from = p; inc = inc; number = v }; to = dest })
    number
    ∙ ap (λ (v : ℕ). record { message = record { from = p; inc = inc; number = k + 0 }; to = v })
    to_is in
    subst (Contains
    (record { message = record { from = p; inc = i; number = k }; to = dest }
    ∷ letters p (suc k) es)) same (here (record
    { message = record { from = p; inc = i; number = k }; to = dest }) (letters p (suc k) es))
letter_in p k (Send dest i body ∷ es) (suc n) inc to a b =
    let number : suc k + n ≡ k + suc n = omega arith in
    later (record { message = record { from = p; inc = i; number = k }; to = dest }) (letters p (suc
    k) es) (record { message = record { from = p; inc = inc; number = k + suc n }; to = to })
    (subst (λ (v : ℕ). Contains (letters p (suc k) es) (record {
      message = record {
        from = p;
        inc =
            inc;
        number = v;
      };
      to = to;
    })) number (letter_in p (suc k) es n inc to a b))
letter_in p k (Recv m ∷ es) n inc to a b = letter_in p k es n inc to a b
letter_in p k (Check state round ∷ es) n inc to a b = letter_in p k es n inc to a b
letter_in p k (Mark from round ∷ es) n inc to a b = letter_in p k es n inc to a b

get_front : (xs ys : List ℕ) (k x : ℕ) → k < length xs → slice_get (xs ++ ys) k ≡ Some x
    → slice_get xs k ≡ Some x
get_front [] ys k x h e = absurd (omega arith)
get_front (z ∷ xs) ys zero x h e = e
get_front (z ∷ xs) ys (suc k) x h e = get_front xs ys k x (omega arith) e

-- a consistent line of checks is a floor where each process lets go no more of its sends than stand
-- before the line and than come before the first in transit there
pub floor_found : (history : List Process) (floor : Floor) → IsLine history (floor_line floor)
    → IsConsistent history (floor_line floor)
    → ((p : ℕ) → lost_sends floor p ≤ sends (events_before history (floor_line floor) p))
    → ((m : MsgName) → Contains (in_transit history (floor_line floor)) m
    → lost_sends floor m.from ≤ m.number)
    → IsFloor history floor
floor_found history floor line consistent sent first = record {
  line = line;
  consistent = consistent;
  sent = sent;
  received = λ q m to below. elim
      (cases_Bool (has_received (events_before history (floor_line floor) q) m)) [
        | inl seen ↦ (has_received-iff (events_before history (floor_line floor) q) m).0 seen
        | inr unseen ↦
            let p : ℕ = m.from in
            let tape : List Event = tape_at history p in
            let n : ℕ = place tape (choice_at (floor_line floor) p) in
            let es : List Event = take n tape in
            let within : m.number < length (incarnations_sent es) = omega (arith, sent p) in
            let there : m.number < length (addressees es) = omega
            (arith, within, length_addressees es) in
            let incs : incarnations_sent tape
            ≡ incarnations_sent es ++ incarnations_sent (drop n tape) = ap incarnations_sent
            (sym (take-append-drop n tape)) ∙ filter_map-append incarnation_of es (drop n tape) in
            let tos : addressees tape ≡ addressees es ++ addressees (drop n tape) = ap addressees
            (sym (take-append-drop n tape)) ∙ filter_map-append addressee_of es (drop n tape) in
            let inc_at : slice_get (incarnations_sent es) m.number
            ≡ Some m.inc = get_front (incarnations_sent es)
            (incarnations_sent (drop n tape)) m.number m.inc within
            (ap (λ (xs : List ℕ). slice_get xs m.number) (sym incs) ∙ to.held) in
            let to_at : slice_get (addressees es) m.number
            ≡ Some q = get_front (addressees es) (addressees (drop n tape)) m.number q there
            (ap (λ (xs : List ℕ). slice_get xs m.number) (sym tos) ∙ to.to_is) in
            let letter : Letter = record { message = m; to = q } in
            let number : 0 + m.number ≡ m.number = omega arith in
            let sent_letter : Contains (letters p 0 es) letter = subst
            (λ (v : ℕ). Contains (letters p 0 es)
            (record { message = record { from = p; inc = m.inc; number = v }; to = q })) number
            (letter_in p 0 es m.number m.inc q inc_at to_at) in
            let is_open : is_open_letter history (floor_line floor) letter ≡ true = ap not unseen in
            let some : p < length history = process_there history floor p (omega (arith, sent p)) in
            let in_line : Contains (in_transit history (floor_line floor)) m = gathered_in
            (λ r. map (λ (l : Letter). l.message) (open_letters history (floor_line floor) r)) 0
            (length history) p m (omega arith) (omega arith)
            (named_in (open_letters history (floor_line floor) p) letter (kept_in (is_open_letter
            history (floor_line floor)) (letters p 0 es) letter is_open sent_letter)) in
            absurd (omega (arith, first m in_line))
      ];
}
  where
    process_there : (history : List Process) (floor : Floor) (p : ℕ)
        → 0 < sends (events_before history (floor_line floor) p) → p < length history
    process_there history floor p some = elim (cases_lt p (length history)) [
      | inl within ↦ within
      | inr past ↦
          let none : events_before history (floor_line floor) p
          ≡ [] = ap (λ (tape : List Event). front tape (choice_at (floor_line floor) p))
          (tape_at-past history p past) ∙ front-empty (choice_at (floor_line floor) p) in
          absurd (omega (arith, ap sends none))
    ]
