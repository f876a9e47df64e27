-- What is in transit of one process, number by number.
use Rattle.std.proofs.Common.{◌≡◌, ℕ, zero, suc, ◌+◌, ◌<◌, ◌≤◌, Bool, true, false, not, cond, List}
use Rattle.std.proofs.Common.{[], ◌∷◌, ◌++◌, ◌-◌, ◌⊎◌, length, take, drop, get_or, map, filter}
use Rattle.std.proofs.Common.{Some, refl, sym, ap, ◌∙◌, arith, inl, inr}
use Rattle.std.specs.List.{Contains, slice_get}
use Rattle.std.specs.List.Sorted.{IsNonDecreasing}
use Rattle.std.proofs.lemmas.Bool.{cases_lt}
use Rattle.std.proofs.lemmas.List.{append-nil, take-append-drop, take-take, take_all, take_more}
use Rattle.std.proofs.lemmas.List.{map-append, get_or_default}
use Rattle.std.proofs.lemmas.List.Elements.{filter_map-append, filter-append}
use Rattle.std.proofs.lemmas.Option.{same_Some, slice_get_within, slice_get-get_or}
use Rattle.line_names.specs.declared.choices.Choice.{Choice}
use Rattle.line_names.specs.Lines.{choice_at}
use Rattle.line_names.specs.declared.messages.MsgName.{MsgName}
use Rattle.line_tape.specs.declared.events.Event.{Event}
use Rattle.line_tape.specs.declared.events.Event.TheVariants.{Send, Recv, Check, Mark}
use Rattle.line_tape.specs.Event.{incarnation_of, incarnations_sent, sends}
use Rattle.line_tape.specs.Fit.{IsSentTo}
use Rattle.line_tape.specs.Front.{place}
use Rattle.line_tape.specs.History.{Process, tape_at}
use Rattle.line_tape.specs.Line.{events_before}
use Rattle.line_tape.specs.Transit.{Letter, letters, is_open_letter, open_letters, has_received}
use Rattle.line_tape.specs.Transit.{addressee_of, addressees}
use Rattle.line_tape.proofs.EventLemmas.{length_addressees, name_of}
use Rattle.line_tape.proofs.ListLemmas.{slice_get_front}
use Rattle.line_tape.proofs.FrontLemmas.{slice_get-append_left}
use Rattle.line_tape.proofs.ReceivedLemmas.{length-letters}
use Rattle.line_tape.proofs.StayLemmas.{holds_whole}
use Rattle.line_tape.proofs.TransitLemmas.{letter_of}
use Rattle.line_catalogue.specs.Left.{HasOpen, open_first}

-- the letter of each send
pub letter_at : (p n : ℕ) (es : List Event) (k inc to : ℕ) (d : Letter)
    → slice_get (incarnations_sent es) k ≡ Some inc → slice_get (addressees es) k ≡ Some to
    → get_or (letters p n es) k d ≡ letter_of p inc (n + k) to
letter_at p n [] k inc to d i a = absurd (omega (arith, slice_get_within [] k inc i))
letter_at p n (Send x y body ∷ es) zero inc to d i a =
    let inc_is : y ≡ inc = same_Some _ _ i in
    let to_is : x ≡ to = same_Some _ _ a in
    let at : n ≡ n + 0 = omega arith in
    ap (λ j. letter_of p j n x) inc_is ∙ ap (λ j. letter_of p inc n j) to_is ∙ ap
    (λ j. letter_of p inc j to) at
letter_at p n (Send x y body ∷ es) (suc k) inc to d i a =
    let at : suc n + k ≡ n + suc k = omega arith in
    letter_at p (suc n) es k inc to d i a ∙ ap (λ j. letter_of p inc j to) at
letter_at p n (Recv message ∷ es) k inc to d i a = letter_at p n es k inc to d i a
letter_at p n (Check state round ∷ es) k inc to d i a = letter_at p n es k inc to d i a
letter_at p n (Mark from round ∷ es) k inc to d i a = letter_at p n es k inc to d i a

module _ (history : List Process) (line : List Choice) (p : ℕ) where
  -- a send before the line, on the whole tape
  pub sent_whole : (k inc to : ℕ)
      → slice_get (incarnations_sent (events_before history line p)) k ≡ Some inc
      → slice_get (addressees (events_before history line p)) k ≡ Some to
      → IsSentTo history to (name_of p inc k)
  sent_whole k inc to i a =
      let tape : List Event = tape_at history p in
      let n : ℕ = place tape (choice_at line p) in
      record {
        held = holds_whole history line p inc k i;
        to_is = ap (λ (es : List Event). slice_get (addressees es) k)
            (sym (take-append-drop n tape)) ∙ ap (λ xs. slice_get xs k)
            (filter_map-append addressee_of (take n tape) (drop n tape)) ∙ slice_get-append_left
            (addressees (take n tape)) (addressees (drop n tape)) k to a;
      }

  -- one send more
  pub open-step : (k inc to : ℕ) → slice_get (incarnations_sent (events_before history line p)) k
      ≡ Some inc → slice_get (addressees (events_before history line p)) k ≡ Some to
      → open_first history line p (k + 1) ≡ open_first history line p k ++ cond
      (has_received (events_before history line to) (name_of p inc k)) [] (name_of p inc k ∷ [])
  open-step k inc to i a =
      let before : List Event = events_before history line p in
      let all : List Letter = letters p 0 before in
      let d : Letter = letter_of p inc k to in
      let within : k < length all = omega
      (arith, length-letters p 0 before, slice_get_within (incarnations_sent before) k inc i) in
      let number : 0 + k ≡ k = omega arith in
      let letter : get_or all k d
      ≡ d = letter_at p 0 before k inc to d i a ∙ ap (λ j. letter_of p inc j to) number in
      let received : Bool = has_received (events_before history line to) (name_of p inc k) in
      let last : map (λ (letter : Letter). letter.message)
      (filter (is_open_letter history line) (get_or all k d ∷ []))
      ≡ cond received [] (name_of p inc k ∷ []) = ap
      (λ (x : Letter). map (λ (letter : Letter). letter.message)
      (filter (is_open_letter history line) (x ∷ []))) letter ∙ swapped received in
      ap (λ (xs : List Letter). map (λ (letter : Letter). letter.message)
      (filter (is_open_letter history line) xs)) (take_more all k d within)
      ∙ ap (map (λ (letter : Letter). letter.message))
      (filter-append (is_open_letter history line) (take k all) (get_or all k d ∷ []))
      ∙ map-append (λ (letter : Letter). letter.message) (filter (is_open_letter history line)
      (take k all)) (filter (is_open_letter history line) (get_or all k d ∷ []))
      ∙ ap (λ xs. open_first history line p k ++ xs) last
    where
      swapped : (b : Bool) → map (λ (letter : Letter). letter.message)
          (cond (not b) (letter_of p inc k to ∷ []) []) ≡ cond b [] (name_of p inc k ∷ [])
      swapped true = refl
      swapped false = refl

  -- where none of these numbers stands in the row, none of them is in transit
  pub gap : (end : ℕ) (row : List ℕ) → end ≤ sends (events_before history line p) → HasOpen history
      line p end row → (a d : ℕ) → a + d ≤ end → ((k : ℕ) → a ≤ k → k < a + d → Contains row k → ⊥)
      → open_first history line p a ≡ open_first history line p (a + d)
  gap end row few held a zero low none =
      let same : a ≡ a + 0 = omega arith in ap (open_first history line p) same
  gap end row few held a (suc d) low none =
      let before : List Event = events_before history line p in
      let k : ℕ = a + d in
      let inc : ℕ = get_or (incarnations_sent before) k 0 in
      let to : ℕ = get_or (addressees before) k 0 in
      let i : slice_get (incarnations_sent before) k
      ≡ Some inc = slice_get-get_or (incarnations_sent before) k 0 (omega (arith, few, low)) in
      let t : slice_get (addressees before) k ≡ Some to = slice_get-get_or (addressees before) k 0
      (omega (arith, few, low, length_addressees before)) in
      let received : has_received (events_before history line to) (name_of p inc k) ≡ true =
      elim (has_received (events_before history line to) (name_of p inc k)) as (λ (b : Bool).
      has_received (events_before history line to) (name_of p inc k) ≡ b → b ≡ true) [
        | true ↦ λ _. refl
        | false ↦ λ e. absurd (none k (omega arith) (omega arith)
            (held to (name_of p inc k) refl (omega (arith, low)) (sent_whole k inc to i t) e))
      ] refl in
      let further : k + 1 ≡ a + suc d = omega arith in
      gap end row few held a d (omega (arith, low)) (λ j l h. none j l (omega (arith, h)))
      ∙ sym (open-step k inc to i t ∙ ap (λ b. open_first history line p k
      ++ cond b [] (name_of p inc k ∷ [])) received ∙ append-nil (open_first history line p k))
      ∙ ap (open_first history line p) further

  -- from one number to another
  pub gap-to : (end : ℕ) (row : List ℕ) → end ≤ sends (events_before history line p)
      → HasOpen history line p end row → (a b : ℕ) → a ≤ b → b ≤ end
      → ((k : ℕ) → a ≤ k → k < b → Contains row k → ⊥)
      → open_first history line p a ≡ open_first history line p b
  gap-to end row few held a b up low none =
      let all : a + (b - a) ≡ b = omega (arith, up) in
      gap end row few held a (b - a) (omega (arith, all, low))
      (λ k l h. none k l (omega (arith, h, all))) ∙ ap (open_first history line p) all

  -- one send more, as the tape tells of it
  pub open-told : (k inc to : ℕ) → k < sends (events_before history line p)
      → slice_get (incarnations_sent (tape_at history p)) k ≡ Some inc
      → slice_get (addressees (tape_at history p)) k ≡ Some to
      → open_first history line p (k + 1) ≡ open_first history line p k ++ cond
      (has_received (events_before history line to) (name_of p inc k)) [] (name_of p inc k ∷ [])
  open-told k inc to within told named =
      let tape : List Event = tape_at history p in
      let n : ℕ = place tape (choice_at line p) in
      let incs : incarnations_sent tape
      ≡ incarnations_sent (take n tape)
      ++ incarnations_sent (drop n tape) = ap incarnations_sent (sym (take-append-drop n tape))
      ∙ filter_map-append incarnation_of (take n tape) (drop n tape) in
      let tos : addressees tape
      ≡ addressees (take n tape) ++ addressees (drop n tape) = ap addressees (sym
      (take-append-drop n tape)) ∙ filter_map-append addressee_of (take n tape) (drop n tape) in
      let i : slice_get (incarnations_sent (events_before history line p)) k
      ≡ Some inc = slice_get_front (incarnations_sent (take n tape)) (incarnations_sent
      (drop n tape)) k inc within (ap (λ (xs : List ℕ). slice_get xs k) (sym incs) ∙ told) in
      let a : slice_get (addressees (events_before history line p)) k
      ≡ Some to = slice_get_front (addressees (take n tape)) (addressees (drop n tape)) k to
      (omega (arith, within, length_addressees (take n tape)))
      (ap (λ (xs : List ℕ). slice_get xs k) (sym tos) ∙ named) in
      open-step k inc to i a

-- what is in transit of more messages begins with what is of fewer
pub open-front : (history : List Process) (line : List Choice) (p a b : ℕ) → a ≤ b
    → (rest : List MsgName) × (open_first history line p b ≡ open_first history line p a ++ rest)
open-front history line p a b up =
    let all : List Letter = letters p 0 (events_before history line p) in
    let of : List Letter → List MsgName = λ ls. map (λ (letter : Letter). letter.message)
    (filter (is_open_letter history line) ls) in
    let behind : List Letter = drop a (take b all) in (
      of behind,
      ap of (sym (take-append-drop a (take b all)) ∙ ap (λ (ls : List Letter). ls ++ behind)
          (take-take a b all up))
          ∙ ap (map (λ (letter : Letter). letter.message))
          (filter-append (is_open_letter history line) (take a all) behind)
          ∙ map-append (λ (letter : Letter). letter.message) (filter (is_open_letter history line)
          (take a all)) (filter (is_open_letter history line) behind),
    )

-- a test that is negated
pub flipped : (a b : Bool) → not a ≡ b → a ≡ not b
flipped true true e = sym e
flipped true false e = refl
flipped false true e = refl
flipped false false e = sym e

-- of an ordered row whose first numbers are below a or past the end, no number is from a up to the
-- next
pub none_between : (row : List ℕ) (end index a b : ℕ) → IsNonDecreasing row
    → ((j : ℕ) → j < index → (get_or row j 0 < a) ⊎ (end ≤ get_or row j 0)) → b ≤ end
    → (index < length row → b ≤ get_or row index 0)
    → (k : ℕ) → a ≤ k → k < b → Contains row k → ⊥
none_between row end index a b sorted passed low next k above below (j, within, at) =
    let is : get_or row j 0 ≡ k = get_or_default row j 0 k within ∙ at in
    elim (cases_lt j index) [
      | inl earlier ↦ elim (passed j earlier) [
        | inl l ↦ omega (arith, l, is, above)
        | inr h ↦ omega (arith, h, is, below, low)
      ]
      | inr later ↦ omega
          (arith, sorted index j 0 (omega arith) within, next (omega (arith, within)), is, below)
    ]

-- of all its messages, those that are in transit
pub open-all : (history : List Process) (line : List Choice) (p : ℕ)
    → open_first history line p (sends (events_before history line p))
    ≡ map (λ (letter : Letter). letter.message) (open_letters history line p)
open-all history line p =
    let before : List Event = events_before history line p in
    let all : List Letter = letters p 0 before in
    ap (λ (xs : List Letter). map (λ (letter : Letter). letter.message) (filter (is_open_letter
    history line) xs)) (take_all (sends before) all (omega (arith, length-letters p 0 before)))
