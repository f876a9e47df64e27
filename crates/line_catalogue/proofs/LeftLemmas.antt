-- What is left to look at: it stays right by every event and by a restart, and with what is
-- received behind a line it is enough.
use Rattle.std.proofs.Common.{◌≡◌, ℕ, zero, suc, ◌+◌, ◌<◌, ◌≤◌, Bool, true, false, not, cond, List}
use Rattle.std.proofs.Common.{[], ◌∷◌, ◌++◌, length, take, drop, get_or, map, filter, replicate}
use Rattle.std.proofs.Common.{Some, refl, sym, ap, ◌∙◌, subst, arith, inl, inr, ◌⊎◌}
use Rattle.std.specs.List.{Contains, slice_get, flat_map, list_any, range_with_len}
use Rattle.std.proofs.lemmas.Bool.{cases_lt, false≢true}
use Rattle.std.proofs.lemmas.List.{take-append-drop, take-append-le, take-take, take_all}
use Rattle.std.proofs.lemmas.List.{length-append, length-replicate, length-set, length-take}
use Rattle.std.proofs.lemmas.List.{get_or-replicate, get_or-take}
use Rattle.std.proofs.lemmas.List.Elements.{filter_map-append, Contains-append_cases}
use Rattle.std.proofs.lemmas.List.Elements.{Contains-append_left, Contains-append_right}
use Rattle.std.proofs.lemmas.List.Elements.{Contains-push}
use Rattle.std.proofs.lemmas.Option.{slice_get_within}
use Rattle.line_names.specs.declared.choices.Choice.{Choice}
use Rattle.line_names.specs.declared.choices.Choice.TheVariants.{Check as AtCheck, Now}
use Rattle.line_names.specs.declared.messages.MsgName.{MsgName}
use Rattle.line_names.specs.Lines.{choice_at}
use Rattle.line_names.specs.Names.{is_name}
use Rattle.line_tape.specs.declared.events.Event.{Event}
use Rattle.line_tape.specs.declared.events.Event.TheVariants.{Recv}
use Rattle.line_tape.specs.Event.{incarnation_of, incarnations_sent, sends, Holds}
use Rattle.line_tape.specs.Fit.{IsSentTo}
use Rattle.line_tape.specs.Front.{place, front}
use Rattle.line_tape.specs.History.{Process, tape_at, with_event}
use Rattle.line_tape.specs.Line.{events_before, IsConsistent}
use Rattle.line_tape.specs.Restart.{restarted_history}
use Rattle.line_tape.specs.Transit.{Letter, letters, is_open_letter, open_letters, in_transit}
use Rattle.line_tape.specs.Transit.{has_received, names_received, addressee_of, addressees}
use Rattle.line_tape.proofs.ChoiceLemmas.{choice-past}
use Rattle.line_tape.proofs.EventLemmas.{holds_more, length_addressees, tape_grows}
use Rattle.line_tape.proofs.ListLemmas.{slice_get_front}
use Rattle.line_tape.proofs.CutLemmas.{contains_nothing, cons_cases, received_left, sends_take}
use Rattle.line_tape.proofs.FrontLemmas.{slice_get-append_left, Contains-take_more, place_le}
use Rattle.line_tape.proofs.StayLemmas.{addressees_restarted, tape_restarted, incs_restarted}
use Rattle.line_tape.proofs.StayLemmas.{length_restarted, names_restarted}
use Rattle.line_tape.proofs.LineLemmas.{tape_at-past, front-empty}
use Rattle.line_tape.proofs.ReceivedLemmas.{length-letters}
use Rattle.line_tape.proofs.TransitLemmas.{letter_of, has_received-iff, names_contain}
use Rattle.line_catalogue.specs.Left.{open_first, place_at, start_at, numbers_at, AreClosed}
use Rattle.line_catalogue.specs.Left.{AreEnds, IsLedger, AreLeft, AreCandidates, AreSettledUpTo}
use Rattle.line_catalogue.specs.Left.{ComeInOrder, HasOpenBeside, HaveLeft, IsInTransitAt, IsUnread}
use Rattle.line_catalogue.proofs.OpenLemmas.{letter_at, sent_whole}
use Rattle.line_catalogue.proofs.OrderLemmas.{below-all, order-none, AreOpenBelow}

-- what is left and what is received behind the line, but before its place, is enough to look at
pub has-open : (history : List Process) (line : List Choice) (starts ends places : List ℕ)
    (left : List MsgName) (rows : List (List ℕ)) (p : ℕ) → AreLeft history starts places left
    → AreEnds history starts line ends → AreCandidates history line ends places rows
    → p < length history
    → HasOpenBeside history line p (start_at ends p) (numbers_at rows p) left
has-open history line starts ends places left rows p are ending cand inside =
    λ q m from low sent unseen.
    let tape : List Event = tape_at history q in
    let n : ℕ = place tape (choice_at line q) in
    let s : ℕ = place_at places q in
    let there : m.from < length rows = omega (arith, from, inside, cand.count) in
    let below : m.number < start_at ends m.from = omega (arith, low, ap (start_at ends) from) in
    let early : m.number < start_at starts m.from = omega (arith, below, ending.started m.from) in
    elim (has_received (take s tape) m) as (λ (b : Bool). has_received (take s tape) m ≡ b
    → Contains (numbers_at rows p) m.number ⊎ Contains left m) [
      | true ↦ λ e.
          let received : Contains (take s tape) (Recv m) = (has_received-iff (take s tape) m).0 e in
          let whole : Contains tape (Recv m) = subst (λ (es : List Event). Contains es (Recv m))
          (take-append-drop s tape)
          (Contains-append_left (take s tape) (drop s tape) (Recv m) received) in
          let unheard : Contains (take n tape) (Recv m)
          → ⊥ = λ front. false≢true (sym unseen ∙ (has_received-iff (take n tape) m).1 front) in
          let within : q < length history = elim (cases_lt q (length history)) [
            | inl h ↦ h
            | inr past ↦ absurd (contains_nothing (Recv m) (subst (λ (es : List Event). Contains es
                (Recv m)) (tape_at-past history q (omega arith)) whole))
          ] in
          elim (Contains-append_cases (take n (take s tape)) (drop n (take s tape)) (Recv m)
          (subst (λ (es : List Event). Contains es (Recv m))
          (sym (take-append-drop n (take s tape))) received)) [
            | inl front ↦ absurd (elim (cases_lt s n) [
              | inl less ↦ unheard
                  (Contains-take_more tape s n (Recv m) (omega (arith, less)) received)
              | inr more ↦ unheard (subst (λ (es : List Event). Contains es (Recv m))
                  (take-take n s tape (omega (arith, more))) front)
            ])
            | inr behind ↦ inl
                (subst (λ (j : ℕ). Contains (numbers_at rows j) m.number) from (cand.behind q within
                m ((names_contain (drop n (take s tape)) m).1 behind) below there))
          ]
      | false ↦ λ e. inr (are.held q m sent early e)
    ] refl

-- an event keeps it right: a send, a receipt, a check and a mark alike
pub AreLeft-event : (history : List Process) (starts places : List ℕ) (left : List MsgName) (at : ℕ)
    (e : Event) → at < length history → AreLeft history starts places left
    → AreLeft (with_event history at e) starts places left
AreLeft-event history starts places left at e h are =
    let new : List Process = with_event history at e in
    record {
      count = are.count ∙ sym (length-set history at _);
      places_count = are.places_count ∙ sym (length-set history at _);
      placed = λ p.
          let grows = tape_grows history at e p h in
          omega (
            arith,
            are.placed p,
            ap (λ (es : List Event). length es) grows.1,
            length-append
                (tape_at history p) grows.0,
          );
      within = λ p.
          let grows = tape_grows history at e p h in
          let tape : List Event = tape_at history p in
          let parts : incarnations_sent (tape_at new p)
          ≡ incarnations_sent tape ++ incarnations_sent grows.0 =
          ap incarnations_sent grows.1 ∙ filter_map-append incarnation_of tape grows.0 in
          omega (
            arith,
            are.within p,
            ap length parts,
            length-append (incarnations_sent tape)
                (incarnations_sent grows.0),
          );
      held = λ q m sent low unseen.
          let grows = tape_grows history at e m.from h in
          let tape : List Event = tape_at history m.from in
          let short : m.number < length (incarnations_sent tape) = omega
          (arith, low, are.within m.from) in
          let incs : incarnations_sent (tape_at new m.from)
          ≡ incarnations_sent tape ++ incarnations_sent grows.0 =
          ap incarnations_sent grows.1 ∙ filter_map-append incarnation_of tape grows.0 in
          let tos : addressees (tape_at new m.from) ≡ addressees tape ++ addressees grows.0 = ap
          addressees grows.1 ∙ filter_map-append addressee_of tape grows.0 in
          let old : IsSentTo history q m = record {
            held = slice_get_front (incarnations_sent tape) (incarnations_sent grows.0) m.number
                m.inc short (ap (λ (xs : List ℕ). slice_get xs m.number) (sym incs) ∙ sent.held);
            to_is = slice_get_front (addressees tape) (addressees grows.0) m.number q
                (omega (arith, short, length_addressees tape))
                (ap (λ (xs : List ℕ). slice_get xs m.number) (sym tos) ∙ sent.to_is);
          } in
          let more = tape_grows history at e q h in
          let mine : List Event = tape_at history q in
          let same : take (place_at places q) (tape_at new q)
          ≡ take (place_at places q) mine = ap (take (place_at places q)) more.1 ∙
          take-append-le (place_at places q) mine more.0 (are.placed q) in
          are.held q m old low (ap (λ (es : List Event). has_received es m) (sym same) ∙ unseen);
      order = are.order;
      each = λ m among.
          let was : IsUnread history places m = are.each m among in
          let to : ℕ = was.to in
          let grows = tape_grows history at e m.from h in
          let tape : List Event = tape_at history m.from in
          let more = tape_grows history at e to h in
          let mine : List Event = tape_at history to in
          let same : take (place_at places to) (tape_at new to)
          ≡ take (place_at places to) mine = ap (take (place_at places to)) more.1 ∙
          take-append-le (place_at places to) mine more.0 (are.placed to) in
          record {
            to = to;
            sent = record {
              held = subst (λ (es : List Event). Holds es m.inc m.number) (sym grows.1)
                  (holds_more tape grows.0 m.inc m.number was.sent.held);
              to_is = ap (λ (es : List Event). slice_get (addressees es) m.number) grows.1 ∙ ap
                  (λ (xs : List ℕ). slice_get xs m.number)
                  (filter_map-append addressee_of tape grows.0) ∙ slice_get-append_left
                  (addressees tape) (addressees grows.0) m.number to was.sent.to_is;
            };
            unread = ap (λ (es : List Event). has_received es m) same ∙ was.unread;
          };
    }

-- it keeps the line closed, too
pub IsLedger-event : (history : List Process) (starts places : List ℕ) (left : List MsgName)
    (closed : Bool) (at : ℕ) (e : Event) → at < length history → IsLedger history starts places left
    closed → IsLedger (with_event history at e) starts places left closed
IsLedger-event history starts places left closed at e h are =
    let new : List Process = with_event history at e in
    record {
      held = AreLeft-event history starts places left at e h are.held;
      told = λ on q m among.
          let more = tape_grows history at e q h in
          let mine : List Event = tape_at history q in
          let same : take (place_at places q) (tape_at new q)
          ≡ take (place_at places q) mine = ap (take (place_at places q)) more.1 ∙
          take-append-le (place_at places q) mine more.0 (are.held.placed q) in
          are.told on q m (subst (λ (es : List Event). Contains es (Recv m)) same among);
    }

-- where it is not told whether the line is closed
pub IsLedger-open : (history : List Process) (starts places : List ℕ) (left : List MsgName)
    → AreLeft history starts places left → IsLedger history starts places left false
IsLedger-open history starts places left are = record {
  held = are;
  told = λ on. absurd (false≢true on);
}

pub contains_cons : {X : Type 0} (x y : X) (xs : List X) → Contains xs y → Contains (x ∷ xs) y
contains_cons x y xs c = Contains-append_right (x ∷ []) xs y c

pub contains_first : {X : Type 0} (x : X) (xs : List X) → Contains (x ∷ xs) x
contains_first x xs = Contains-append_left (x ∷ []) xs x (Contains-push [] x)

-- what passes a test stays among what passes it
pub in_filter : {X : Type 0} (f : X → Bool) (xs : List X) (y : X) → f y ≡ true → Contains xs y
    → Contains (filter f xs) y
in_filter f [] y t c = absurd (contains_nothing y c)
in_filter f (x ∷ xs) y t c = elim (cons_cases x xs y c) [
  | inl same ↦
      let here : f x ≡ true = ap f same ∙ t in
      let whole : filter f (x ∷ xs)
      ≡ x ∷ filter f xs = ap (λ b. cond b (x ∷ filter f xs) (filter f xs)) here in
      subst (λ ys. Contains ys y) (sym whole)
      (subst (Contains (x ∷ filter f xs)) same (contains_first x (filter f xs)))
  | inr later ↦ elim (f x) as (λ (b : Bool). Contains (cond b (x ∷ filter f xs) (filter f xs)) y) [
    | true ↦ contains_cons x y (filter f xs) (in_filter f xs y t later)
    | false ↦ in_filter f xs y t later
  ]
]

pub in_map : {X Y : Type 0} (f : X → Y) (xs : List X) (x : X) → Contains xs x
    → Contains (map f xs) (f x)
in_map f [] x c = absurd (contains_nothing x c)
in_map f (z ∷ xs) x c = elim (cons_cases z xs x c) [
  | inl same ↦ subst (Contains (f z ∷ map f xs)) (ap f same) (contains_first (f z) (map f xs))
  | inr later ↦ contains_cons (f z) (f x) (map f xs) (in_map f xs x later)
]

in_flat_map : {Y : Type 0} (f : ℕ → List Y) (n a p : ℕ) (y : Y) → a ≤ p → p < a + n
    → Contains (f p) y → Contains (flat_map f (range_with_len a n)) y
in_flat_map f zero a p y l h c = absurd (omega (arith, l, h))
in_flat_map f (suc n) a p y l h c = elim (cases_lt a p) [
  | inl below ↦ Contains-append_right (f a) (flat_map f (range_with_len (a + 1) n)) y
      (in_flat_map f n (a + 1) p y (omega arith) (omega (arith, h)) c)
  | inr not ↦
      let same : p ≡ a = omega (arith, l) in
      Contains-append_left (f a) (flat_map f (range_with_len (a + 1) n)) y
      (subst (λ (q : ℕ). Contains (f q) y) same c)
]

-- a message that is sent before the line and not received before it is in transit
pub in-transit : (history : List Process) (line : List Choice) (q : ℕ) (m : MsgName)
    → m.from < length history
    → slice_get (incarnations_sent (events_before history line m.from)) m.number ≡ Some m.inc
    → slice_get (addressees (events_before history line m.from)) m.number ≡ Some q → has_received
    (events_before history line q) m ≡ false → Contains (in_transit history line) m
in-transit history line q m inside i a unseen =
    let before : List Event = events_before history line m.from in
    let all : List Letter = letters m.from 0 before in
    let letter : Letter = record { message = m; to = q } in
    let number : 0 + m.number ≡ m.number = omega arith in
    let at : get_or all m.number letter ≡ letter = letter_at m.from 0 before m.number m.inc q letter
    i a ∙ ap (λ j. letter_of m.from m.inc j q) number in
    let within : m.number < length all = omega (
      arith,
      length-letters m.from 0 before,
      slice_get_within (incarnations_sent before) m.number m.inc i,
    ) in
    let passes : is_open_letter history line letter ≡ true = ap not unseen in
    let among : Contains all letter = contains_at all m.number letter within at in
    in_flat_map (λ p. map (λ (letter : Letter). letter.message) (open_letters history line p))
    (length history) 0 m.from m (omega arith) (omega (arith, inside))
    (in_map (λ (letter : Letter). letter.message) (open_letters history line m.from) letter
    (in_filter (is_open_letter history line) all letter passes among))
  where
    contains_at : {X : Type 0} (xs : List X) (k : ℕ) (x : X) → k < length xs → get_or xs k x ≡ x
        → Contains xs x
    contains_at xs k x within at = (k, within, at)

-- nothing stands before a line past the processes
pub past-empty : (history : List Process) (line : List Choice) (p : ℕ) → length history ≤ p
    → events_before history line p ≡ []
past-empty history line p past = ap (λ (tape : List Event). front tape (choice_at line p))
    (tape_at-past history p past) ∙ front-empty (choice_at line p)

-- what was sent before the starts, by a process that there is
sender-within : (history : List Process) (line : List Choice) (starts : List ℕ) (p k : ℕ) → start_at
    starts p ≡ sends (events_before history line p) → k < start_at starts p → p < length history
sender-within history line starts p k are low = elim (cases_lt p (length history)) [
  | inl h ↦ h
  | inr past ↦ absurd (omega (
    arith,
    low,
    are,
    ap (λ (es : List Event). sends es)
        (past-empty history line p (omega arith)),
  ))
]

-- a message that was sent stands before the line, where its number does
sent-front : (history : List Process) (line : List Choice) (q : ℕ) (m : MsgName)
    → IsSentTo history q m → m.number < sends (events_before history line m.from)
    → (slice_get (incarnations_sent (events_before history line m.from)) m.number ≡ Some m.inc)
    × (slice_get (addressees (events_before history line m.from)) m.number ≡ Some q)
sent-front history line q m sent low =
    let tape : List Event = tape_at history m.from in
    let n : ℕ = place tape (choice_at line m.from) in
    let short : m.number < length (incarnations_sent (take n tape)) = omega (arith, low) in
    let incs : incarnations_sent tape
    ≡ incarnations_sent (take n tape)
    ++ incarnations_sent (drop n tape) = ap incarnations_sent (sym (take-append-drop n tape)) ∙
    filter_map-append incarnation_of (take n tape) (drop n tape) in
    let tos : addressees tape
    ≡ addressees (take n tape) ++ addressees (drop n tape) = ap addressees (sym
    (take-append-drop n tape)) ∙ filter_map-append addressee_of (take n tape) (drop n tape) in (
      slice_get_front (incarnations_sent (take n tape)) (incarnations_sent (drop n tape)) m.number
          m.inc short (ap (λ (xs : List ℕ). slice_get xs m.number) (sym incs) ∙ sent.held),
      slice_get_front (addressees (take n tape)) (addressees (drop n tape)) m.number q
          (omega (arith, short, length_addressees (take n tape)))
          (ap (λ (xs : List ℕ). slice_get xs m.number) (sym tos) ∙ sent.to_is),
    )

-- what is in transit at a line has settled there, with the sends behind it
pub transit-settled : (history : List Process) (line : List Choice) (starts : List ℕ)
    → length starts ≡ length history → ((p : ℕ) → start_at starts p ≡ sends
    (events_before history line p)) → AreSettledUpTo history line starts (in_transit history line)
transit-settled history line starts count are =
    let all : AreOpenBelow history line (in_transit history line)
    (length history) 0 = below-all history line (length history) in
    record {
      count = count;
      before = λ p. omega (arith, are p);
      held = λ p inside q m from low sent unseen.
          let front = sent-front history line q m sent (omega
          (arith, low, are p, ap (λ (j : ℕ). sends (events_before history line j)) from)) in
          in-transit history line q m (omega (arith, from, inside)) front.0 front.1 unseen;
      order = all.order;
      each = all.each;
    }

-- a message that is sent before the line and not received before it is in transit among as many
-- first ones
in-first : (history : List Process) (line : List Choice) (q : ℕ) (m : MsgName) (k : ℕ)
    → m.number < k → slice_get (incarnations_sent (events_before history line m.from)) m.number
    ≡ Some m.inc → slice_get (addressees (events_before history line m.from)) m.number ≡ Some q
    → has_received (events_before history line q) m ≡ false
    → Contains (open_first history line m.from k) m
in-first history line q m k low i a unseen =
    let before : List Event = events_before history line m.from in
    let all : List Letter = letters m.from 0 before in
    let letter : Letter = record { message = m; to = q } in
    let number : 0 + m.number ≡ m.number = omega arith in
    let at : get_or all m.number letter ≡ letter = letter_at m.from 0 before m.number m.inc q letter
    i a ∙ ap (λ j. letter_of m.from m.inc j q) number in
    let within : m.number < length all = omega (
      arith,
      length-letters m.from 0 before,
      slice_get_within (incarnations_sent before) m.number m.inc i,
    ) in
    let short : m.number < length (take k all) = omega (arith, low, within, length-take k all) in
    let first : get_or (take k all) m.number letter
    ≡ letter = get_or-take k all m.number letter low ∙ at in
    let passes : is_open_letter history line letter ≡ true = ap not unseen in
    in_map (λ (letter : Letter). letter.message)
    (filter (is_open_letter history line) (take k all)) letter (in_filter
    (is_open_letter history line) (take k all) letter passes (m.number, short, first))

-- what is in transit of a process's first sends is all that is left of them
pub have-open : (history : List Process) (line : List Choice) (p k : ℕ) (before : List MsgName)
    → k ≤ sends (events_before history line p)
    → HaveLeft history line p k (before ++ open_first history line p k)
have-open history line p k before few = λ q m from low sent unseen.
    let front = sent-front history line q m sent
    (omega (arith, low, few, ap (λ (j : ℕ). sends (events_before history line j)) from)) in
    Contains-append_right before (open_first history line p k) m (subst (λ j. Contains (open_first
    history line j k) m) from (in-first history line q m k low front.0 front.1 unseen))

-- nothing is sent by a process that there isn't
pub sender-before : (history : List Process) (line : List Choice) (p k : ℕ)
    → k < sends (events_before history line p) → p < length history
sender-before history line p k low = elim (cases_lt p (length history)) [
  | inl h ↦ h
  | inr past ↦ absurd (omega
      (arith, low, ap (λ (es : List Event). sends es) (past-empty history line p (omega arith))))
]

-- what has settled at a line is enough to be left, with the sends behind the starts
pub AreLeft-settled : (history : List Process) (line : List Choice) (starts places : List ℕ)
    (left : List MsgName) → AreSettledUpTo history line starts left → length places ≡ length history
    → ((p : ℕ) → place_at places p ≡ place (tape_at history p) (choice_at line p))
    → AreLeft history starts places left
AreLeft-settled history line starts places left are places_count at =
    record {
      count = are.count;
      places_count = places_count;
      placed = λ p. omega (arith, at p, place_le (tape_at history p) (choice_at line p));
      within = λ p. omega (
        arith,
        are.before p,
        sends_take (tape_at history p)
            (place (tape_at history p) (choice_at line p)),
      );
      held = λ q m sent low unseen.
          let mine : List Event = tape_at history q in
          let unread : has_received (events_before history line q) m
          ≡ false = ap (λ (j : ℕ). has_received (take j mine) m) (sym (at q)) ∙ unseen in
          are.held m.from (sender-before history line m.from m.number
          (omega (arith, low, are.before m.from))) q m refl low sent unread;
      order = are.order;
      each = λ m among.
          let was : IsInTransitAt history line m = are.each m among in
          let mine : List Event = tape_at history was.to in
          record {
            to = was.to;
            sent = sent_whole history line m.from m.number m.inc was.to was.held was.to_is;
            unread = ap (λ (j : ℕ). has_received (take j mine) m) (at was.to) ∙ was.unread;
          };
    }

-- what is in transit at any line is enough to be left, with the sends behind it
pub AreLeft-line : (history : List Process) (line : List Choice) (starts places : List ℕ)
    → length starts ≡ length history → length places ≡ length history
    → ((p : ℕ) → start_at starts p ≡ sends (events_before history line p))
    → ((p : ℕ) → place_at places p ≡ place (tape_at history p) (choice_at line p))
    → AreLeft history starts places (in_transit history line)
AreLeft-line history line starts places count places_count are at = AreLeft-settled history line
    starts places (in_transit history line)
    (transit-settled history line starts count are) places_count at

-- after a restart what was in transit at the line is left to look at, from where the tapes go on
pub AreLeft-restarted : (history : List Process) (line : List Choice) (starts places : List ℕ)
    → length line ≡ length history → length starts ≡ length history
    → length places ≡ length (restarted_history history line)
    → ((p : ℕ) → start_at starts p ≡ sends (events_before history line p))
    → ((p : ℕ) → place_at places p ≡ length (tape_at (restarted_history history line) p))
    → AreLeft (restarted_history history line) starts places (in_transit history line)
AreLeft-restarted history line starts places e count places_count are at =
    record {
      count = count ∙ sym (length_restarted history line e);
      places_count = places_count;
      placed = λ p. omega (arith, at p);
      within = λ p. omega
          (arith, are p, ap (λ (xs : List ℕ). length xs) (incs_restarted history line p e));
      held = λ q m sent low unseen.
          let i : slice_get (incarnations_sent (events_before history line m.from)) m.number
          ≡ Some m.inc = ap (λ (xs : List ℕ). slice_get xs m.number)
          (sym (incs_restarted history line m.from e)) ∙ sent.held in
          let tos : addressees (tape_at (restarted_history history line) m.from)
          ≡ addressees (events_before history line m.from) = ap addressees (tape_restarted
          history line m.from e) ∙ addressees_restarted (events_before history line m.from) in
          let names : names_received (tape_at (restarted_history history line) q)
          ≡ names_received (events_before history line q) = ap names_received
          (tape_restarted history line q e) ∙ names_restarted (events_before history line q) in
          let whole : take (place_at places q) (tape_at (restarted_history history line) q)
          ≡ tape_at (restarted_history history line) q = take_all (place_at places q)
          (tape_at (restarted_history history line) q) (omega (arith, at q)) in
          let unread : has_received (tape_at (restarted_history history line) q) m
          ≡ false = ap (λ (es : List Event). has_received es m) (sym whole) ∙ unseen in
          in-transit history line q m
          (sender-within history line starts m.from m.number (are m.from) low) i
          (ap (λ (xs : List ℕ). slice_get xs m.number) (sym tos) ∙ sent.to_is)
          (ap (list_any (is_name m)) (sym names) ∙ unread);
      order = (below-all history line (length history)).order;
      each = λ m among.
          let was : IsInTransitAt history line m =
          (below-all history line (length history)).each m among in
          let to : ℕ = was.to in
          let tos : addressees (tape_at (restarted_history history line) m.from)
          ≡ addressees (events_before history line m.from) = ap addressees (tape_restarted
          history line m.from e) ∙ addressees_restarted (events_before history line m.from) in
          let names : names_received (tape_at (restarted_history history line) to)
          ≡ names_received (events_before history line to) = ap names_received (tape_restarted
          history line to e) ∙ names_restarted (events_before history line to) in
          let whole : take (place_at places to) (tape_at (restarted_history history line) to)
          ≡ tape_at (restarted_history history line) to = take_all (place_at places to)
          (tape_at (restarted_history history line) to) (omega (arith, at to)) in
          record {
            to = to;
            sent = record {
              held = ap (λ (xs : List ℕ). slice_get xs m.number)
                  (incs_restarted history line m.from e) ∙ was.held;
              to_is = ap (λ (xs : List ℕ). slice_get xs m.number) tos ∙ was.to_is;
            };
            unread = ap (λ (es : List Event). has_received es m) whole ∙ ap
                (list_any (is_name m)) names ∙ was.unread;
          };
    }

-- where each process stands all its events are before the line
pub place-present : (history : List Process) (p : ℕ) → place (tape_at history p)
    (choice_at (replicate (length history) Now) p) ≡ length (tape_at history p)
place-present history p = elim (cases_lt p (length history)) [
  | inl within ↦ ap (place (tape_at history p))
      (get_or-replicate (length history) p Now (AtCheck 0) within)
  | inr past ↦ ap (place (tape_at history p))
      (choice-past (replicate (length history) Now) p
      (omega (arith, past, length-replicate {A = Choice} (length history) Now))) ∙ sym
      (ap (λ (tape : List Event). length tape) (tape_at-past history p (omega (arith, past))))
]

-- where each send is to be looked at, nothing has to be left
pub AreLeft-anew : (history : List Process) (starts places : List ℕ) (left : List MsgName)
    → length starts ≡ length history → length places ≡ length history → ((p : ℕ) → start_at starts p
    ≡ 0) → ((p : ℕ) → place_at places p ≡ 0) → left ≡ [] → AreLeft history starts places left
AreLeft-anew history starts places left count places_count none first empty = record {
  count = count;
  places_count = places_count;
  within = λ p. omega (arith, none p);
  placed = λ p. omega (arith, first p);
  held = λ q m sent low unseen. absurd (omega (arith, low, none m.from));
  order = subst ComeInOrder (sym empty) order-none;
  each = λ m among. absurd
      (contains_nothing m (subst (λ (xs : List MsgName). Contains xs m) empty among));
}

-- before the first events nothing is received
pub AreClosed-anew : (history : List Process) (starts places : List ℕ)
    → ((p : ℕ) → place_at places p ≡ 0) → AreClosed history starts places
AreClosed-anew history starts places first = λ q m among. absurd (contains_nothing (Recv m)
    (subst (λ (k : ℕ). Contains (take k (tape_at history q)) (Recv m)) (first q) among))

-- after a restart at a consistent line whatever is received was sent before the line
pub AreClosed-restarted : (history : List Process) (line : List Choice) (starts places : List ℕ)
    → length line ≡ length history → IsConsistent history line → ((p : ℕ) → start_at starts p ≡
    sends (events_before history line p)) → AreClosed (restarted_history history line) starts places
AreClosed-restarted history line starts places e consistent are = λ q m among.
    let tape : List Event = tape_at (restarted_history history line) q in
    let k : ℕ = place_at places q in
    let whole : Contains tape (Recv m) = subst (λ (es : List Event). Contains es (Recv m))
    (take-append-drop k tape)
    (Contains-append_left (take k tape) (drop k tape) (Recv m) among) in
    let before : Contains (events_before history line q) (Recv m) = received_left
    (events_before history line q) m (subst (λ (es : List Event). Contains es (Recv m))
    (tape_restarted history line q e) whole) in
    omega (
      arith,
      are m.from,
      slice_get_within (incarnations_sent
          (events_before history line m.from)) m.number m.inc (consistent q m before),
    )

-- one end more keeps all ends within their bounds
pub ends-more : (bound : ℕ → ℕ) (ends : List ℕ) (end : ℕ) → ((p : ℕ) → start_at ends p ≤ bound p)
    → end ≤ bound (length ends) → (p : ℕ) → start_at (ends ++ end ∷ []) p ≤ bound p
ends-more bound [] end within low zero = low
ends-more bound [] end within low (suc p) = omega arith
ends-more bound (x ∷ ends) end within low zero = within 0
ends-more bound (x ∷ ends) end within low (suc p) =
    ends-more (λ (k : ℕ). bound (suc k)) ends end (λ k. within (suc k)) low p
