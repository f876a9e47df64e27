-- Which sends are received after a restart.
use Rattle.std.proofs.Common.{◌≡◌, ℕ, zero, suc, ◌+◌, ◌<◌, ◌≤◌, Bool, true, false, not, cond, List}
use Rattle.std.proofs.Common.{[], ◌∷◌, length, take, drop, get_or, map, filter, ◌||◌, Some, refl}
use Rattle.std.proofs.Common.{sym, ap, ◌∙◌, subst, arith, inl, inr}
use Rattle.std.specs.Prelude.{◌==◌, ◌&&◌}
use Rattle.std.specs.List.{range_with_len, list_any, slice_get, All, Contains}
use Rattle.std.proofs.Math.Bool.{and-false}
use Rattle.std.proofs.lemmas.Bool.{cases_lt, both_ways, and_parts, eqb-true, eq-eqb}
use Rattle.std.proofs.lemmas.Bool.{false_from_ne_true}
use Rattle.std.proofs.lemmas.List.{length-take-le, get_or-take, get_or_past, take-append-drop}
use Rattle.std.proofs.lemmas.List.Elements.{filter_map-append, filter_passes, All-contains}
use Rattle.std.proofs.lemmas.List.Elements.{All-contains_itself, All-filter, All-map, All-weaker}
use Rattle.std.proofs.lemmas.List.Elements.{Contains-append_left, Contains-append_right}
use Rattle.std.proofs.lemmas.List.Elements.{Contains-push}
use Rattle.std.proofs.lemmas.List.Folds.{list_any_at}
use Rattle.std.proofs.lemmas.Option.{same_Some, slice_get_within}
use Rattle.line_names.specs.declared.choices.Choice.{Choice}
use Rattle.line_names.specs.declared.messages.MsgName.{MsgName}
use Rattle.line_names.specs.Lines.{choice_at}
use Rattle.line_names.specs.Names.{is_name}
use Rattle.line_tape.specs.declared.events.Event.{Event}
use Rattle.line_tape.specs.declared.events.Event.TheVariants.{Send, Recv, Check, Mark}
use Rattle.line_tape.specs.Event.{incarnations_sent, sends}
use Rattle.line_tape.specs.Fit.{IsSentTo}
use Rattle.line_tape.specs.Front.{place}
use Rattle.line_tape.specs.History.{Process, tape_at}
use Rattle.line_tape.specs.Line.{events_before}
use Rattle.line_tape.specs.Restart.{restarted_history}
use Rattle.line_tape.specs.Transit.{Letter, letters, is_open_letter, open_letters, in_transit}
use Rattle.line_tape.specs.Transit.{in_transit_between, has_received, addressee_of, addressees}
use Rattle.line_tape.specs.Transit.{goes_between}
use Rattle.line_laws.proofs.CopyLemmas.{held_before}
use Rattle.line_tape.proofs.CutLemmas.{cons_cases, contains_nothing, sends_take}
use Rattle.line_tape.proofs.FrontLemmas.{slice_get-append_left}
use Rattle.line_laws.proofs.LetterLemmas.{IsLetterOf, letter_sent, open_restarted, parts}
use Rattle.line_laws.proofs.LetterLemmas.{All-flat_map}
use Rattle.line_tape.proofs.StayLemmas.{addressees_restarted, tape_restarted, incs_restarted}
use Rattle.line_tape.proofs.StayLemmas.{length_restarted, names_restarted}
use Rattle.line_tape.proofs.ReceivedLemmas.{sent_within}
use Rattle.line_tape.proofs.EventLemmas.{name_of}
use Rattle.line_tape.proofs.TransitLemmas.{has_received-iff, letter_of}
use Rattle.line_rounds.specs.Flags.{flags_of, flag_at, names_send, AreFlagged}

-- an element of a list with one more at its head
in_head : {X : Type 0} (x : X) (xs : List X) → Contains (x ∷ xs) x
in_head x xs = Contains-append_left (x ∷ []) xs x (Contains-push [] x)

in_tail : {X : Type 0} (y : X) (xs : List X) (x : X) → Contains xs x → Contains (y ∷ xs) x
in_tail y xs x c = Contains-append_right (y ∷ []) xs x c

-- what passes a test is left by it
in_filter : {X : Type 0} (g : X → Bool) (xs : List X) (x : X) → Contains xs x → g x ≡ true
    → Contains (filter g xs) x
in_filter g [] x c t = absurd (contains_nothing x c)
in_filter g (y ∷ ys) x c t = elim (cons_cases y ys x c) [
  | inl same ↦ subst (λ b. Contains (cond b (y ∷ filter g ys) (filter g ys)) x)
      (sym (ap g same ∙ t)) (subst (Contains (y ∷ filter g ys)) same (in_head y (filter g ys)))
  | inr later ↦
      let rest = in_filter g ys x later t in
      elim (g y) as (λ b. Contains (cond b (y ∷ filter g ys) (filter g ys)) x)
      [ true ↦ in_tail y (filter g ys) x rest | false ↦ rest ]
]

-- and was there before
out_filter : {X : Type 0} (g : X → Bool) (xs : List X) (x : X) → Contains (filter g xs) x
    → Contains xs x
out_filter g xs x c = All-contains (Contains xs) (filter g xs) x
    (All-filter g (Contains xs) xs (All-contains_itself xs)) c

in_map : {X Y : Type 0} (f : X → Y) (xs : List X) (x : X) → Contains xs x
    → Contains (map f xs) (f x)
in_map f [] x c = absurd (contains_nothing x c)
in_map f (y ∷ ys) x c = elim (cons_cases y ys x c) [
  | inl same ↦ subst (λ v. Contains (f y ∷ map f ys) (f v)) same (in_head (f y) (map f ys))
  | inr later ↦ in_tail (f y) (map f ys) (f x) (in_map f ys x later)
]

any_in : {X : Type 0} (f : X → Bool) (xs : List X) (x : X) → Contains xs x → f x ≡ true
    → list_any f xs ≡ true
any_in f xs x (k, l, e) t = list_any_at f xs k x l (ap f e ∙ t)

-- an element that passes
record Passes {X : Type 0} (f : X → Bool) (xs : List X) : Type 0 where
  one : X
  among : Contains xs one
  passes : f one ≡ true

any_passes : {X : Type 0} (f : X → Bool) (xs : List X) → list_any f xs ≡ true → Passes f xs
any_passes f [] t = absurd (cc)
any_passes f (x ∷ xs) t =
    elim (f x) as (λ b. f x ≡ b → (b || list_any f xs) ≡ true → Passes f (x ∷ xs)) [
      | true ↦ λ e _. record { one = x; among = in_head x xs; passes = e }
      | false ↦ λ e t'. let rest = any_passes f xs t' in record
          { one = rest.one; among = in_tail x xs rest.one rest.among; passes = rest.passes }
    ] refl t

-- the letter of each send is among the letters
letter_in : (p n : ℕ) (es : List Event) (k inc to : ℕ)
    → slice_get (incarnations_sent es) k ≡ Some inc → slice_get (addressees es) k ≡ Some to
    → Contains (letters p n es) (letter_of p inc (n + k) to)
letter_in p n [] k inc to i a = absurd (omega (arith, slice_get_within [] k inc i))
letter_in p n (Send x y body ∷ es) zero inc to i a =
    let inc_is : y ≡ inc = same_Some _ _ i in
    let to_is : x ≡ to = same_Some _ _ a in
    let at : n ≡ n + 0 = omega arith in
    subst (Contains (letter_of p y n x ∷ letters p (suc n) es)) (ap (λ j. letter_of p j n x) inc_is
    ∙ ap (λ j. letter_of p inc n j) to_is ∙ ap (λ j. letter_of p inc j to) at)
    (in_head (letter_of p y n x) (letters p (suc n) es))
letter_in p n (Send x y body ∷ es) (suc k) inc to i a =
    let at : suc n + k ≡ n + suc k = omega arith in
    in_tail (letter_of p y n x) (letters p (suc n) es) (letter_of p inc (n + suc k) to)
    (subst (λ j. Contains (letters p (suc n) es) (letter_of p inc j to)) at
    (letter_in p (suc n) es k inc to i a))
letter_in p n (Recv message ∷ es) k inc to i a = letter_in p n es k inc to i a
letter_in p n (Check state round ∷ es) k inc to i a = letter_in p n es k inc to i a
letter_in p n (Mark from round ∷ es) k inc to i a = letter_in p n es k inc to i a

-- past the end of a front there is nothing
front_past : (n : ℕ) (flags : List Bool) (k : ℕ) → n ≤ k → get_or (take n flags) k false ≡ false
front_past zero [] k past = refl
front_past zero (b ∷ flags) k past = refl
front_past (suc n) [] k past = refl
front_past (suc n) (b ∷ flags) zero past = absurd (omega (arith, past))
front_past (suc n) (b ∷ flags) (suc k) past = front_past n flags k (omega (arith, past))

module _ (history : List Process) (line : List Choice) (size : length line ≡ length history) where
  abbrev pub after : List Process
  after = restarted_history history line

  -- how many sends are left
  sends_left : (p : ℕ) → sends (tape_at after p) ≡ sends (events_before history line p)
  sends_left p = ap (λ (v : List ℕ). length v) (incs_restarted history line p size)

  -- what is received still
  received_left_is : (q : ℕ) (m : MsgName)
      → has_received (tape_at after q) m ≡ has_received (events_before history line q) m
  received_left_is q m = ap (λ (t : List Event). has_received t m) (tape_restarted history line q
      size) ∙ ap (list_any (is_name m)) (names_restarted (events_before history line q))

  tos_left : (p : ℕ) → addressees (tape_at after p) ≡ addressees (events_before history line p)
  tos_left p = ap addressees (tape_restarted history line p size) ∙ addressees_restarted
      (events_before history line p)

  -- what is sent to a process still was sent to it before
  sent_then : (q : ℕ) (m : MsgName) → IsSentTo after q m → IsSentTo history q m
  sent_then q m sent =
      let tape : List Event = tape_at history m.from in
      let n : ℕ = place tape (choice_at line m.from) in
      record {
        held = held_before history line m.from m.inc m.number size sent.held;
        to_is = ap (λ (es : List Event). slice_get (addressees es) m.number)
            (sym (take-append-drop n tape))
            ∙ ap (λ (v : List ℕ). slice_get v m.number)
            (filter_map-append addressee_of (take n tape) (drop n tape))
            ∙ slice_get-append_left (addressees (take n tape)) (addressees (drop n tape)) m.number q
            (ap (λ (v : List ℕ). slice_get v m.number) (sym (tos_left m.from)) ∙ sent.to_is);
      }

  -- and what is received still was received
  received_then : (q : ℕ) (m : MsgName) → has_received (events_before history line q) m ≡ true
      → has_received (tape_at history q) m ≡ true
  received_then q m t =
      let tape : List Event = tape_at history q in
      let n : ℕ = place tape (choice_at line q) in
      (has_received-iff tape m).1
      (subst (λ (es : List Event). Contains es (Recv m)) (take-append-drop n tape)
      (Contains-append_left (take n tape) (drop n tape) (Recv m)
      ((has_received-iff (take n tape) m).0 t)))

  -- a message in transit: sent to a process that has not received it
  record IsMissing (m : MsgName) : Type 0 where
    to : ℕ
    sent : IsSentTo after to m
    lacks : has_received (events_before history line to) m ≡ false

  missing_of : (r : ℕ) (letter : Letter)
      → IsLetterOf r (incarnations_sent (tape_at after r)) (addressees (tape_at after r)) letter
      → is_open_letter history line letter ≡ true → IsMissing letter.message
  missing_of r letter is open_is = record {
    to = letter.to;
    sent = letter_sent after r letter is;
    lacks = flip (has_received (events_before history line letter.to) letter.message) open_is;
  }
    where
      flip : (b : Bool) → not b ≡ true → b ≡ false
      flip true t = absurd (cc)
      flip false t = refl

  missing_from : (p : ℕ)
      → All IsMissing (map (λ (letter : Letter). letter.message) (open_letters history line p))
  missing_from p =
      let are : All (IsLetterOf p (incarnations_sent (tape_at after p)) (addressees
      (tape_at after p))) (open_letters history line p) = open_restarted history line size p in
      let go : All (λ (letter : Letter). is_open_letter history line letter ≡ true)
      (open_letters history line p) = filter_passes (is_open_letter history line)
      (letters p 0 (events_before history line p)) in
      All-map IsMissing (λ (letter : Letter). letter.message) (open_letters history line p)
      (λ k d l. missing_of p _ (are k d l) (go k d l))

  are_missing : All IsMissing (in_transit history line)
  are_missing = All-flat_map IsMissing (λ p. map (λ (letter : Letter). letter.message)
      (open_letters history line p)) (range_with_len 0 (length history)) missing_from

  -- what is in transit is from the processes
  pub transit_within : (n : ℕ) → length history ≡ n
      → All (λ (m : MsgName). m.from < n) (in_transit history line)
  transit_within n many = All-weaker IsMissing (λ (m : MsgName). m.from < n)
      (λ m is. omega (
        arith,
        sent_within after is.to m is.sent,
        length_restarted history line size,
        many,
      )) (in_transit history line) are_missing

  abbrev names : MsgName → MsgName → Bool
  names m x = (x.from == m.from) && (x.number == m.number)

  -- a send of which a message in transit has the number is not received
  named_lacks : (q : ℕ) (m : MsgName) → IsSentTo after q m → names_send (in_transit history line)
      m.from m.number ≡ true → has_received (events_before history line q) m ≡ false
  named_lacks q m sent t =
      let found = any_passes (names m) (in_transit history line) t in
      let x : MsgName = found.one in
      let missing : IsMissing x = All-contains IsMissing
      (in_transit history line) x are_missing found.among in
      let both = and_parts (x.from == m.from) (x.number == m.number) found.passes in
      let f : x.from ≡ m.from = eqb-true x.from m.from both.0 in
      let n : x.number ≡ m.number = eqb-true x.number m.number both.1 in
      let held : slice_get (incarnations_sent (tape_at after m.from)) m.number ≡ Some x.inc =
      ap (λ (v : ℕ). slice_get (incarnations_sent (tape_at after m.from)) v) (sym n) ∙ ap
      (λ (v : ℕ). slice_get (incarnations_sent (tape_at after v)) x.number)
      (sym f) ∙ missing.sent.held in
      let named : slice_get (addressees (tape_at after m.from)) m.number ≡ Some missing.to =
      ap (λ (v : ℕ). slice_get (addressees (tape_at after m.from)) v) (sym n) ∙ ap (λ (v : ℕ).
      slice_get (addressees (tape_at after v)) x.number) (sym f) ∙ missing.sent.to_is in
      let inc : x.inc ≡ m.inc = same_Some _ _ (sym held ∙ sent.held) in
      let to : missing.to ≡ q = same_Some _ _ (sym named ∙ sent.to_is) in
      let same : x ≡ m = ap (λ (v : ℕ). name_of v x.inc x.number) f ∙ ap
      (λ (v : ℕ). name_of m.from v x.number) inc ∙ ap (λ (v : ℕ). name_of m.from m.inc v) n in
      subst (λ (v : MsgName). has_received (events_before history line q) v ≡ false) same (subst
      (λ (v : ℕ). has_received (events_before history line v) x ≡ false) to missing.lacks)

  -- and each that is not received has its message in transit
  lacks_named : (q : ℕ) (m : MsgName) → IsSentTo after q m → has_received (events_before history
      line q) m ≡ false → names_send (in_transit history line) m.from m.number ≡ true
  lacks_named q m sent lacks =
      let p : ℕ = m.from in
      let es : List Event = events_before history line p in
      let letter : Letter = letter_of p m.inc m.number q in
      let zeroth : 0 + m.number ≡ m.number = omega arith in
      let i : slice_get (incarnations_sent es) m.number ≡ Some m.inc = ap (λ (v : List ℕ). slice_get
      v m.number) (sym (incs_restarted history line p size)) ∙ sent.held in
      let a : slice_get (addressees es) m.number
      ≡ Some q = ap (λ (v : List ℕ). slice_get v m.number) (sym (tos_left p)) ∙ sent.to_is in
      let there : Contains (letters p 0 es) letter = subst (λ j. Contains (letters p 0 es)
      (letter_of p m.inc j q)) zeroth (letter_in p 0 es m.number m.inc q i a) in
      let open_there : Contains (open_letters history line p) letter = in_filter
      (is_open_letter history line) (letters p 0 es) letter there (ap not lacks) in
      let to_there : Contains
      (filter (λ (l : Letter). l.to == q) (open_letters history line p)) letter = in_filter
      (λ (l : Letter). l.to == q) (open_letters history line p) letter open_there
      (eq-eqb q q refl) in
      let between_there : Contains (in_transit_between history line p q) m = in_map
      (λ (l : Letter). l.message)
      (filter (λ (l : Letter). l.to == q) (open_letters history line p)) letter to_there in
      let among : Contains (in_transit history line) m =
      out_filter (goes_between after p q) (in_transit history line) m
      (subst (λ (ms : List MsgName). Contains ms m)
      (sym (parts history line after (open_restarted history line size) p q)) between_there) in
      any_in (names m) (in_transit history line) m among (ap (λ b. b && (m.number == m.number))
      (eq-eqb m.from m.from refl) ∙ eq-eqb m.number m.number refl)

  -- the flags are cut, and those of the messages in transit cleared
  module _ (old cut new : List (List Bool)) (are : AreFlagged history old)
      (many : length cut ≡ length old) (cuts : (p : ℕ) → p < length old
      → flags_of cut p ≡ take (sends (events_before history line p)) (flags_of old p))
      (count : length new ≡ length cut)
      (lengths : (p : ℕ) → length (flags_of new p) ≡ length (flags_of cut p))
      (cleared : (p number : ℕ) → flag_at new p number
      ≡ (flag_at cut p number && not (names_send (in_transit history line) p number))) where
    cut_gone : (p k : ℕ) → sends (events_before history line p) ≤ k → flag_at cut p k ≡ false
    cut_gone p k past = elim (cases_lt p (length old)) [
      | inl p_in ↦ ap (λ (row : List Bool). get_or row k false) (cuts p p_in) ∙ front_past
          (sends (events_before history line p)) (flags_of old p) k past
      | inr out ↦ let none : List Bool = [] in ap (λ (row : List Bool). get_or row k false)
          (get_or_past cut p none (omega (arith, out, many)))
    ]

    pub AreFlagged-restarted : AreFlagged after new
    AreFlagged-restarted =
        let long : length after ≡ length history = length_restarted history line size in
        record {
          count = count ∙ many ∙ are.count ∙ sym long;
          enough = λ p p_in.
              let p_then : p < length history = omega (arith, p_in, long) in
              let tape : List Event = tape_at history p in
              let few : sends (events_before history line p) ≤ sends tape = sends_take tape
              (place tape (choice_at line p)) in
              let row : length (flags_of cut p) ≡ sends (events_before history line p) =
              ap (λ (row : List Bool). length row)
              (cuts p (omega (arith, p_then, are.count))) ∙ length-take-le (sends (events_before
              history line p)) (flags_of old p) (omega (arith, few, are.enough p p_then)) in
              omega (arith, sends_left p, row, lengths p);
          unsent = λ p k past. cleared p k ∙ ap (λ b. b && not (names_send
              (in_transit history line) p k)) (cut_gone p k (omega (arith, past, sends_left p)));
          each = λ q m sent.
              let before : IsSentTo history q m = sent_then q m sent in
              let number_in : m.number < sends (events_before history line m.from) = omega (
                arith,
                sends_left m.from,
                slice_get_within
                    (incarnations_sent (tape_at after m.from)) m.number m.inc sent.held,
              ) in
              let from_in : m.from < length old = omega
              (arith, sent_within history q m before, are.count) in
              let flag : flag_at cut m.from m.number ≡ has_received (tape_at history q) m =
              ap (λ (row : List Bool). get_or row m.number false)
              (cuts m.from from_in) ∙ get_or-take (sends (events_before history line m.from))
              (flags_of old m.from) m.number false number_in ∙ are.each q m before in
              let left : Bool = has_received (events_before history line q) m in
              elim left as
              (λ b. left ≡ b → flag_at new m.from m.number ≡ has_received (tape_at after q) m) [
                | true ↦ λ t.
                    let none : names_send (in_transit history line) m.from m.number ≡ false =
                    false_from_ne_true (names_send (in_transit history line) m.from m.number)
                    (λ named. both_ways left (named_lacks q m sent named) t) in
                    cleared m.from m.number ∙ ap
                    (λ b. b && not (names_send (in_transit history line) m.from m.number))
                    (flag ∙ received_then q m t) ∙ ap not none ∙ sym (received_left_is q m ∙ t)
                | false ↦ λ f.
                    cleared m.from m.number ∙ ap (λ b. flag_at cut m.from m.number && not b)
                    (lacks_named q m sent f) ∙ and-false (flag_at cut m.from m.number) ∙ sym
                    (received_left_is q m ∙ f)
              ] refl;
        }
