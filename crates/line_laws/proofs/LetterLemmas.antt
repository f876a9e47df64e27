-- Letters name messages that the sender's tape holds, and the processes that it sent them to.
use Rattle.std.proofs.Common.{◌≡◌, ℕ, zero, suc, ◌+◌, ◌<◌, ◌≤◌, Bool, true, false, cond, List, []}
use Rattle.std.proofs.Common.{◌∷◌, ◌++◌, length, take, drop, map, Option, Some, refl, sym, ap, ◌∙◌}
use Rattle.std.proofs.Common.{subst, arith, inl, inr}
use Rattle.std.specs.Prelude.{◌==◌, ◌&&◌}
use Rattle.std.specs.List.{filter, flat_map, range_with_len, slice_get, All, Contains}
use Rattle.std.specs.Option.{option_eq}
use Rattle.std.proofs.lemmas.List.{append-nil, take-append-drop}
use Rattle.std.proofs.lemmas.List.Elements.{filter_map-append, filter-append, All-nil, All-cons}
use Rattle.std.proofs.lemmas.List.Elements.{All-head, All-tail, All-filter, All-map, All-append}
use Rattle.std.proofs.lemmas.List.Elements.{All-weaker, All-contains}
use Rattle.std.proofs.lemmas.Bool.{eq-eqb, ne_eqb, cases_lt}
use Rattle.line_names.specs.declared.messages.MsgName.{MsgName}
use Rattle.line_names.specs.declared.choices.Choice.{Choice}
use Rattle.line_names.specs.Lines.{choice_at}
use Rattle.line_tape.specs.declared.events.Event.{Event}
use Rattle.line_tape.specs.declared.events.Event.TheVariants.{Send, Recv, Check, Mark}
use Rattle.line_tape.specs.Event.{incarnation_of, incarnations_sent, Holds}
use Rattle.line_tape.specs.Front.{place, front}
use Rattle.line_tape.specs.History.{Process, tape_at}
use Rattle.line_tape.specs.Line.{events_before, IsConsistent}
use Rattle.line_tape.specs.Restart.{restarted_history}
use Rattle.line_tape.specs.Transit.{Letter, letters, is_open_letter, open_letters, in_transit}
use Rattle.line_tape.specs.Transit.{in_transit_between, addressee_of, addressees, addressee}
use Rattle.line_tape.specs.Transit.{goes_between}
use Rattle.line_tape.specs.Fit.{IsSentTo}
use Rattle.line_tape.proofs.LineLemmas.{tape_at-past, front-empty}
use Rattle.line_tape.proofs.StayLemmas.{tape_restarted, addressees_restarted}
use Rattle.line_tape.proofs.CutLemmas.{sent_left, received_left}

-- after a restart at a consistent line, each message that a tape has received is held by its
-- sender's tape
pub restarted_held : (history : List Process) (line : List Choice) → IsConsistent history line
    → length line ≡ length history → (q : ℕ) (m : MsgName)
    → Contains (tape_at (restarted_history history line) q) (Recv m)
    → Holds (tape_at (restarted_history history line) m.from) m.inc m.number
restarted_held history line consistent e q m received =
    let before : Contains (events_before history line q) (Recv m) = received_left
    (events_before history line q) m (subst (λ (es : List Event). Contains es (Recv m))
    (tape_restarted history line q e) received) in
    subst (λ (xs : List ℕ). slice_get xs m.number ≡ Some m.inc)
    (sym (ap incarnations_sent (tape_restarted history line m.from e) ∙ sent_left
    (events_before history line m.from))) (consistent q m before)

-- the head of what is behind a place is the element there
pub drop_next : {X : Type 0} (xs : List X) (k : ℕ) (x : X) (ys : List X) → drop k xs ≡ x ∷ ys
    → (slice_get xs k ≡ Some x) × (drop (suc k) xs ≡ ys)
drop_next [] zero x ys e = absurd (cc)
drop_next [] (suc k) x ys e = absurd (cc)
drop_next (z ∷ xs) zero x ys e =
    let head : z ≡ x = cc in let tail : xs ≡ ys = cc in (ap Some head, tail)
drop_next (z ∷ xs) (suc k) x ys e = drop_next xs k x ys e

-- the letter is from process p, whose sends have these incarnations and addressees
pub record IsLetterOf (p : ℕ) (incarnations tos : List ℕ) (letter : Letter) : Type 0 where
  pub from_is : letter.message.from ≡ p
  pub inc_is : slice_get incarnations letter.message.number ≡ Some letter.message.inc
  pub to_is : slice_get tos letter.message.number ≡ Some letter.to

pub letters_are : (p k : ℕ) (es : List Event) (incarnations tos more others : List ℕ)
    → drop k incarnations ≡ incarnations_sent es ++ more → drop k tos ≡ addressees es ++ others
    → All (IsLetterOf p incarnations tos) (letters p k es)
letters_are p k [] incarnations tos more others a b = All-nil (IsLetterOf p incarnations tos)
letters_are p k (Send to inc body ∷ es) incarnations tos more others a b =
    let i = drop_next incarnations k inc (incarnations_sent es ++ more) a in
    let t = drop_next tos k to (addressees es ++ others) b in
    All-cons (IsLetterOf p incarnations tos) _ (letters p (suc k) es) (record {
      from_is = refl;
      inc_is = i.0;
      to_is = t.0;
    }) (letters_are p (suc k) es incarnations tos more others i.1 t.1)
letters_are p k (Recv m ∷ es) incarnations tos more others a b =
    letters_are p k es incarnations tos more others a b
letters_are p k (Check state round ∷ es) incarnations tos more others a b =
    letters_are p k es incarnations tos more others a b
letters_are p k (Mark from round ∷ es) incarnations tos more others a b =
    letters_are p k es incarnations tos more others a b

-- what the letters of a tape's first events say is so of the whole tape
pub open_are : (history : List Process) (line : List Choice) (p : ℕ)
    → All (IsLetterOf p (incarnations_sent (tape_at history p)) (addressees (tape_at history p)))
    (open_letters history line p)
open_are history line p =
    let tape : List Event = tape_at history p in
    let n : ℕ = place tape (choice_at line p) in
    let incs : incarnations_sent tape
    ≡ incarnations_sent (take n tape)
    ++ incarnations_sent (drop n tape) = ap incarnations_sent (sym (take-append-drop n tape)) ∙
    filter_map-append incarnation_of (take n tape) (drop n tape) in
    let tos : addressees tape
    ≡ addressees (take n tape) ++ addressees (drop n tape) = ap addressees (sym
    (take-append-drop n tape)) ∙ filter_map-append addressee_of (take n tape) (drop n tape) in
    All-filter (is_open_letter history line) (IsLetterOf p (incarnations_sent tape)
    (addressees tape)) (letters p 0 (events_before history line p))
    (letters_are p 0 (take n tape) (incarnations_sent tape) (addressees tape)
    (incarnations_sent (drop n tape)) (addressees (drop n tape)) incs tos)

-- and of what a restart leaves of it
pub open_restarted : (history : List Process) (line : List Choice) → length line ≡ length history
    → (p : ℕ)
    → All (IsLetterOf p (incarnations_sent (tape_at (restarted_history history line) p))
    (addressees (tape_at (restarted_history history line) p))) (open_letters history line p)
open_restarted history line e p =
    let es : List Event = events_before history line p in
    let tape : List Event = tape_at (restarted_history history line) p in
    let incs : incarnations_sent tape
    ≡ incarnations_sent es ++ [] = ap incarnations_sent (tape_restarted history line p e) ∙
    sent_left es ∙ sym (append-nil (incarnations_sent es)) in
    let tos : addressees tape ≡ addressees es ++ [] = ap addressees (tape_restarted history line p
    e) ∙ addressees_restarted es ∙ sym (append-nil (addressees es)) in
    All-filter (is_open_letter history line)
    (IsLetterOf p (incarnations_sent tape) (addressees tape)) (letters p 0 es)
    (letters_are p 0 es (incarnations_sent tape) (addressees tape) [] [] incs tos)

abbrev names : List Letter → List MsgName
names ls = map (λ (letter : Letter). letter.message) ls

abbrev those_to : ℕ → List Letter → List Letter
those_to q ls = filter (λ (letter : Letter). letter.to == q) ls

module _ (history : List Process) (p q : ℕ) where
  -- a letter of process r goes from p to q where r is p and it is for q
  goes_is : (r : ℕ) (letter : Letter)
      → IsLetterOf r (incarnations_sent (tape_at history r)) (addressees (tape_at history r)) letter
      → goes_between history p q letter.message ≡ ((r == p) && (letter.to == q))
  goes_is r letter is =
      let to : addressee history letter.message ≡ Some letter.to = ap (λ (v : ℕ). slice_get
      (addressees (tape_at history v)) letter.message.number) is.from_is ∙ is.to_is in
      ap (λ (v : ℕ). (v == p) && option_eq ◌==◌ (addressee history letter.message) (Some q))
      is.from_is ∙ ap (λ (o : Option ℕ). (r == p) && option_eq ◌==◌ o (Some q)) to

  -- of the letters of process r, those between p and q
  sorted_of : (r : ℕ) (ls : List Letter)
      → All (IsLetterOf r (incarnations_sent (tape_at history r)) (addressees (tape_at history r)))
      ls → filter (goes_between history p q) (names ls) ≡ cond (r == p) (names (those_to q ls)) []
  sorted_of r [] all =
      elim (r == p) as (λ b. names [] ≡ cond b (names []) (names [])) [ true ↦ refl | false ↦ refl ]
  sorted_of r (l ∷ ls) all =
      let is = IsLetterOf r (incarnations_sent (tape_at history r))
      (addressees (tape_at history r)) in
      let ih = sorted_of r ls (All-tail is l ls all) in
      ap (λ b. cond b (l.message ∷ filter (goes_between history p q) (names ls))
      (filter (goes_between history p q) (names ls))) (goes_is r l (All-head is l ls all))
      ∙ ap (λ (v : List MsgName). cond ((r == p) && (l.to == q)) (l.message ∷ v) v) ih
      ∙ elim (r == p) as
      (λ b. cond (b && (l.to == q)) (l.message ∷ cond b (names (those_to q ls)) [])
      (cond b (names (those_to q ls)) [])
      ≡ cond b (names (cond (l.to == q) (l ∷ those_to q ls) (those_to q ls))) []) [
        | true ↦ elim (l.to == q) as
            (λ c. cond c (l.message ∷ names (those_to q ls)) (names (those_to q ls))
            ≡ names (cond c (l ∷ those_to q ls) (those_to q ls))) [ true ↦ refl | false ↦ refl ]
        | false ↦ refl
      ]

pub filter_flat_map : {X Y : Type 0} (g : Y → Bool) (f : X → List Y) (xs : List X)
    → filter g (flat_map f xs) ≡ flat_map (λ x. filter g (f x)) xs
filter_flat_map g f [] = refl
filter_flat_map {X} {Y} g f (x ∷ xs) = filter-append g (f x) (flat_map f xs) ∙ ap
    (λ (v : List Y). filter g (f x) ++ v) (filter_flat_map g f xs)

-- of lists that are empty but at p, one after another, what is at p is left
module _ (f : ℕ → List MsgName) (p : ℕ) (ours : List MsgName) (same : f p ≡ ours)
    (other : (r : ℕ) → (r ≡ p → ⊥) → f r ≡ []) where
  pub gather_none : (k n : ℕ) → p < k → flat_map f (range_with_len k n) ≡ []
  gather_none k zero l = refl
  gather_none k (suc n) l = ap (λ (v : List MsgName). v ++ flat_map f (range_with_len (k + 1) n))
      (other k (λ e. omega arith)) ∙ gather_none (k + 1) n (omega arith)

  pub gather_past : (k n : ℕ) → k + n ≤ p → flat_map f (range_with_len k n) ≡ []
  gather_past k zero l = refl
  gather_past k (suc n) l = ap (λ (v : List MsgName). v ++ flat_map f (range_with_len (k + 1) n))
      (other k (λ e. omega arith)) ∙ gather_past (k + 1) n (omega arith)

  pub gather : (k n : ℕ) → k ≤ p → p < k + n → flat_map f (range_with_len k n) ≡ ours
  gather k zero l h = absurd (omega arith)
  gather k (suc n) l h = elim (cases_lt k p) [
    | inl below ↦ ap (λ (v : List MsgName). v ++ flat_map f (range_with_len (k + 1) n))
        (other k (λ e. omega arith)) ∙ gather (k + 1) n (omega arith) (omega arith)
    | inr above ↦
        let at : k ≡ p = omega arith in
        ap (λ (v : List MsgName). v ++ flat_map f (range_with_len (k + 1) n)) (ap f at ∙ same) ∙ ap
        (λ (v : List MsgName). ours ++ v)
        (gather_none (k + 1) n (omega arith)) ∙ append-nil ours
  ]

-- nothing is in transit from a process that there is not
pub none_from : (history : List Process) (line : List Choice) (p q : ℕ) → length history ≤ p
    → in_transit_between history line p q ≡ []
none_from history line p q past =
    let none : events_before history line p ≡ [] = ap (λ (tape : List Event). front tape
    (choice_at line p)) (tape_at-past history p past) ∙ front-empty (choice_at line p) in
    ap (λ (es : List Event). names
    (those_to q (filter (is_open_letter history line) (letters p 0 es)))) none

-- what is in transit, taken apart by the addressees of a history whose tapes hold it
pub parts : (history : List Process) (line : List Choice) (held : List Process)
    → ((r : ℕ) → All (IsLetterOf r (incarnations_sent (tape_at held r))
    (addressees (tape_at held r))) (open_letters history line r))
    → (p q : ℕ) → filter (goes_between held p q) (in_transit history line)
    ≡ in_transit_between history line p q
parts history line held are p q =
    let f : ℕ → List MsgName = λ r. filter (goes_between held p q)
    (names (open_letters history line r)) in
    let ours : List MsgName = in_transit_between history line p q in
    let same : f p ≡ ours = sorted_of held p q p (open_letters history line p) (are p) ∙ ap
    (λ b. cond b ours []) (eq-eqb p p refl) in
    let other : (r : ℕ) → (r ≡ p → ⊥)
    → f r ≡ [] = λ r apart. sorted_of held p q r (open_letters history line r) (are r) ∙ ap
    (λ b. cond b (names (those_to q (open_letters history line r))) []) (ne_eqb r p apart) in
    filter_flat_map (goes_between held p q) (λ r. names (open_letters history line r))
    (range_with_len 0 (length history))
    ∙ elim (cases_lt p (length history)) [
      | inl within ↦ gather f p ours same other 0 (length history) (omega arith)
          (omega (arith, within))
      | inr past ↦ gather_past f p ours same other 0 (length history) (omega (arith, past)) ∙ sym
          (none_from history line p q past)
    ]

-- what holds of each list holds of all of them, one after another
pub All-flat_map : {X Y : Type 0} (P : Y → Type 0) (f : X → List Y) (xs : List X)
    → ((x : X) → All P (f x)) → All P (flat_map f xs)
All-flat_map P f [] h = All-nil P
All-flat_map P f (x ∷ xs) h = All-append P (f x) (flat_map f xs) (h x) (All-flat_map P f xs h)

-- a letter of process r was sent to the process that it is for
pub letter_sent : (held : List Process) (r : ℕ) (letter : Letter) → IsLetterOf r (incarnations_sent
    (tape_at held r)) (addressees (tape_at held r)) letter → IsSentTo held letter.to letter.message
letter_sent held r letter is = record {
  held = ap (λ (v : ℕ). slice_get (incarnations_sent (tape_at held v)) letter.message.number)
      is.from_is ∙ is.inc_is;
  to_is = ap (λ (v : ℕ). slice_get (addressees (tape_at held v)) letter.message.number) is.from_is ∙
      is.to_is;
}

-- what is in transit was sent to someone, in such a history
pub transit_sent : (history : List Process) (line : List Choice) (held : List Process)
    → ((r : ℕ) → All (IsLetterOf r (incarnations_sent (tape_at held r))
    (addressees (tape_at held r))) (open_letters history line r))
    → (m : MsgName) → Contains (in_transit history line) m → (q : ℕ) × IsSentTo held q m
transit_sent history line held are m =
    All-contains (λ (m : MsgName). (q : ℕ) × IsSentTo held q m) (in_transit history line) m
    (All-flat_map (λ (m : MsgName). (q : ℕ) × IsSentTo held q m)
    (λ r. names (open_letters history line r)) (range_with_len 0 (length history)) (λ r.
    All-map (λ (m : MsgName). (q : ℕ) × IsSentTo held q m) (λ (letter : Letter). letter.message)
    (open_letters history line r)
    (All-weaker (IsLetterOf r (incarnations_sent (tape_at held r)) (addressees (tape_at held r)))
    (λ (letter : Letter). (q : ℕ) × IsSentTo held q letter.message) (λ letter is.
    (letter.to, letter_sent held r letter is)) (open_letters history line r) (are r))))
