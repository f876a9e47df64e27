-- What is still in transit, as the events of the senders are gone through.
use Rattle.std.proofs.Common.{◌≡◌, ℕ, zero, suc, ◌+◌, ◌-◌, ◌*◌, ◌<◌, ◌≤◌, Bool, true, false, cond}
use Rattle.std.proofs.Common.{List, [], ◌∷◌, ◌++◌, length, take, drop, filter, get_or, Option, Some}
use Rattle.std.proofs.Common.{None, refl, sym, ap, ◌∙◌, subst, arith, inl, inr, length-append}
use Rattle.std.specs.List.{filter_map, flat_map, range_with_len, slice_get}
use Rattle.std.specs.Prelude.{IfSome}
use Rattle.std.proofs.lemmas.Bool.{cases_lt}
use Rattle.std.proofs.lemmas.List.{append_assoc, drop_more, drop_all, length_push, take-append-drop}
use Rattle.std.proofs.lemmas.List.{take_more}
use Rattle.std.proofs.lemmas.List.Elements.{filter_map-append}
use Rattle.std.proofs.lemmas.Option.{slice_get_within, get_or_from_slice_get}
use Rattle.line_names.specs.declared.choices.Choice.{Choice}
use Rattle.line_names.specs.declared.messages.MsgName.{MsgName}
use Rattle.line_names.specs.Lines.{choice_at}
use Rattle.line_tape.specs.declared.events.Event.{Event}
use Rattle.line_tape.specs.declared.events.Event.TheVariants.{Send, Recv, Check, Mark}
use Rattle.line_tape.specs.declared.limits.TheConstants.{MOST_EVENTS}
use Rattle.line_tape.specs.Event.{incarnation_of, incarnations_sent, sends}
use Rattle.line_tape.specs.Front.{front}
use Rattle.line_tape.specs.History.{Process, tape_at, IsHistory}
use Rattle.line_tape.specs.Line.{events_before}
use Rattle.line_tape.specs.Received.{AreTold}
use Rattle.line_tape.specs.Transit.{addressee_of, addressees, has_received}
use Rattle.line_tape.proofs.EventLemmas.{length_addressees}
use Rattle.line_tape.proofs.LineLemmas.{tape_at-past, front-empty}
use Rattle.line_tape.proofs.RowLemmas.{told-none, told-some}
use Rattle.line_check.specs.declared.answers.Replay.{Replay}
use Rattle.line_check.specs.Answers.{messages_sent, is_unreceived, replays_of, replays_due}
use Rattle.line_check.specs.Answers.{still_due}

-- the element at a place, and what is behind it
pub drop_shown : {A : Type 0} (xs : List A) (i : ℕ) (x : A) → slice_get xs i ≡ Some x
    → drop i xs ≡ x ∷ drop (i + 1) xs
drop_shown xs i x is =
    drop_more xs i x (slice_get_within xs i x is) ∙ ap (λ y. y ∷ drop (i + 1) xs)
    (get_or_from_slice_get xs i x x is)

-- what holds where there is one, by what holds there
pub with_one : {A : Type 0} (x : Option A) {P Q : A → Type 0} → IfSome x P → ((a : A) → P a → Q a)
    → IfSome x Q
with_one (Some a) p f = f a p
with_one None p f = tt

pub with_both : {A : Type 0} (x : Option A) {P Q R : A → Type 0} → IfSome x P → IfSome x Q
    → ((a : A) → P a → Q a → R a) → IfSome x R
with_both (Some a) p q f = f a p q
with_both None p q f = tt

-- an event that sends nothing is passed, and so is one that sends
pub sends-skip : (events : List Event) (place : ℕ) (event : Event)
    → slice_get events place ≡ Some event → incarnation_of event ≡ None
    → sends (take (place + 1) events) ≡ sends (take place events)
sends-skip events place event at none =
    ap (λ (es : List Event). sends es)
    (take_more events place event (slice_get_within events place event at) ∙ ap (λ (e : Event).
    take place events ++ e ∷ []) (get_or_from_slice_get events place event event at))
    ∙ ap (λ (xs : List ℕ). length xs) (told-none incarnation_of (take place events) event none)

pub sends-more : (events : List Event) (place to inc : ℕ) (body : List ℕ) → slice_get events place
    ≡ Some (Send to inc body) → sends (take (place + 1) events) ≡ sends (take place events) + 1
sends-more events place to inc body at =
    let event : Event = Send to inc body in
    ap (λ (es : List Event). sends es)
    (take_more events place event (slice_get_within events place event at) ∙ ap (λ (e : Event).
    take place events ++ e ∷ []) (get_or_from_slice_get events place event event at))
    ∙ ap (λ (xs : List ℕ). length xs) (told-some incarnation_of (take place events) event inc refl)
    ∙ length_push (incarnations_sent (take place events)) inc

-- the send at a place has as its number how many stand before it
at_length : (xs ys : List ℕ) (x : ℕ) → slice_get (xs ++ x ∷ ys) (length xs) ≡ Some x
at_length [] ys x = refl
at_length (y ∷ xs) ys x = at_length xs ys x

told_there : (tell : Event → Option ℕ) (events : List Event) (place x : ℕ) (event : Event)
    → slice_get events place ≡ Some event → tell event ≡ Some x
    → slice_get (filter_map tell events) (length (filter_map tell (take place events))) ≡ Some x
told_there tell events place x event at tells =
    let split : events
    ≡ (take place events ++ event ∷ [])
    ++ drop (place + 1) events = sym (take-append-drop place events) ∙ ap
    (λ (es : List Event). take place events ++ es) (drop_shown events place event at) ∙ sym
    (append_assoc (take place events) (event ∷ []) (drop (place + 1) events)) in
    let parts : filter_map tell events
    ≡ filter_map tell (take place events) ++ x ∷ filter_map tell (drop (place + 1) events) =
    ap (λ (es : List Event). filter_map tell es) split
    ∙ filter_map-append tell (take place events ++ event ∷ []) (drop (place + 1) events)
    ∙ ap (λ (xs : List ℕ). xs ++ filter_map tell (drop (place + 1) events))
    (told-some tell (take place events) event x tells)
    ∙ append_assoc (filter_map tell (take place events)) (x ∷ [])
    (filter_map tell (drop (place + 1) events)) in
    ap (λ (xs : List ℕ). slice_get xs (length (filter_map tell (take place events)))) parts ∙
    at_length (filter_map tell (take place events))
    (filter_map tell (drop (place + 1) events)) x

-- its flag
pub record HasFlag (history : List Process) (line : List Choice) (flags : List (List Bool))
    (message : MsgName) (to : ℕ) : Type 0 where
  pub flag : message.number < length (get_or flags message.from [])
  pub told : get_or (get_or flags message.from []) message.number false
      ≡ has_received (events_before history line to) message

pub has_flag : (history : List Process) (line : List Choice) (flags : List (List Bool))
    (p number place : ℕ) (events : List Event) (to inc : ℕ) (body : List ℕ)
    → AreTold history line (events_before history line) flags → p < length history
    → events ≡ events_before history line p → slice_get events place ≡ Some (Send to inc body)
    → number ≡ sends (take place events)
    → HasFlag history line flags (record { from = p; inc = inc; number = number }) to
has_flag history line flags p number place events to inc body told within same at counted =
    let es : List Event = events_before history line p in
    let there : slice_get es place ≡ Some (Send to inc body) = subst
    (λ (xs : List Event). slice_get xs place ≡ Some (Send to inc body)) same at in
    let count : number
    ≡ sends (take place es) = counted ∙ ap (λ (xs : List Event). sends (take place xs)) same in
    let i : slice_get (incarnations_sent es) number ≡ Some inc = ap (slice_get (incarnations_sent
    es)) count ∙ told_there incarnation_of es place inc (Send to inc body) there refl in
    let a : slice_get (addressees es) number
    ≡ Some to = ap (slice_get (addressees es)) (count ∙ sym (length_addressees (take place es)))
    ∙ told_there addressee_of es place to (Send to inc body) there refl in
    record {
      flag = omega (
        arith,
        told.whole.sends_of p within,
        slice_get_within
            (incarnations_sent es) number inc i,
      );
      told = (told.each p within).each number inc to i a;
    }

module _ (history : List Process) (line : List Choice) where
  -- what is left where a walk has come so far
  abbrev pub left_at : ℕ → ℕ → ℕ → List Replay
  left_at p number place = still_due history line (record { p = p; place = place; number = number })

  -- what is left of the later processes
  abbrev later : ℕ → List Replay
  later p = flat_map (replays_of history line) (range_with_len (p + 1) (length history - (p + 1)))

  -- the message of a send
  abbrev pub sent_there : ℕ → ℕ → ℕ → ℕ → ℕ → List ℕ → Replay
  sent_there p number place to inc body = record {
    message = record
        { from = p; inc = inc; number = number };
    to = to;
    place = place;
    body = body;
  }

  -- an event that sends nothing is passed
  pub skip-left : (p number place : ℕ) (events : List Event) (event : Event)
      → events ≡ events_before history line p → slice_get events place ≡ Some event
      → ((rest : List Event)
      → messages_sent p number place (event ∷ rest) ≡ messages_sent p number (place + 1) rest)
      → left_at p number place ≡ left_at p number (place + 1)
  skip-left p number place events event same at passes =
      let es : List Event = events_before history line p in
      let there : drop place es ≡ event ∷ drop (place + 1) es = drop_shown es place event
      (subst (λ (xs : List Event). slice_get xs place ≡ Some event) same at) in
      ap (λ (xs : List Replay). filter (is_unreceived history line) xs ++ later p)
      (ap (messages_sent p number place) there ∙ passes (drop (place + 1) es))

  -- a send is passed, and what it sent comes next if it is not received
  pub send-left : (p number place : ℕ) (events : List Event) (to inc : ℕ) (body : List ℕ)
      (unreceived : Bool) → events ≡ events_before history line p
      → slice_get events place ≡ Some (Send to inc body)
      → is_unreceived history line (sent_there p number place to inc body) ≡ unreceived
      → left_at p number place ≡ cond unreceived (sent_there p number place to inc body
      ∷ left_at p (number + 1) (place + 1)) (left_at p (number + 1) (place + 1))
  send-left p number place events to inc body unreceived same at is =
      let es : List Event = events_before history line p in
      let there : drop place es
      ≡ Send to inc body ∷ drop (place + 1) es = drop_shown es place (Send to inc body)
      (subst (λ (xs : List Event). slice_get xs place ≡ Some (Send to inc body)) same at) in
      let rest : List Replay = filter (is_unreceived history line)
      (messages_sent p (number + 1) (place + 1) (drop (place + 1) es)) in
      ap (λ (xs : List Replay). filter (is_unreceived history line) xs ++ later p)
      (ap (messages_sent p number place) there)
      ∙ ap (λ b. cond b (sent_there p number place to inc body ∷ rest) rest ++ later p) is
      ∙ elim unreceived as
      (λ b. cond b (sent_there p number place to inc body ∷ rest) rest ++ later p
      ≡ cond b (sent_there p number place to inc body ∷ (rest ++ later p)) (rest ++ later p))
      [ true ↦ refl | false ↦ refl ]

  -- past the processes nothing is left
  pub past-left : (p number place : ℕ) → length history ≤ p → left_at p number place ≡ []
  past-left p number place past =
      let none : events_before history line p ≡ [] = ap (λ (tape : List Event). front tape
      (choice_at line p)) (tape_at-past history p past) ∙ front-empty (choice_at line p) in
      let nothing : drop place (events_before history line p)
      ≡ [] = ap (drop place) none ∙ drop_all {X = Event} place [] (omega arith) in
      let no_more : length history - (p + 1) ≡ 0 = omega (arith, past) in
      ap (λ (es : List Event). filter (is_unreceived history line) (messages_sent p number place es)
      ++ later p) nothing
      ∙ ap (λ (k : ℕ). flat_map (replays_of history line) (range_with_len (p + 1) k)) no_more

  -- after the last event of a process comes the next process
  pub next-left : (p number place : ℕ) → p < length history
      → length (events_before history line p) ≤ place → left_at p number place ≡ left_at (p + 1) 0 0
  next-left p number place within whole =
      let nothing : drop place (events_before history line p)
      ≡ [] = drop_all place (events_before history line p) whole in
      ap (λ (es : List Event). filter (is_unreceived history line) (messages_sent p number place es)
      ++ later p) nothing
      ∙ elim (cases_lt (p + 1) (length history)) [
        | inl more ↦
            let one : length history - (p + 1)
            ≡ suc (length history - (p + 1 + 1)) = omega (arith, more) in
            ap (λ (k : ℕ). flat_map (replays_of history line) (range_with_len (p + 1) k)) one
        | inr end ↦
            let no_more : length history - (p + 1) ≡ 0 = omega (arith, end) in
            ap (λ (k : ℕ). flat_map (replays_of history line) (range_with_len (p + 1) k)) no_more ∙
            sym (past-left (p + 1) 0 0 end)
      ]

  -- at the start all is left
  pub start-left : left_at 0 0 0 ≡ replays_due history line
  start-left = elim (cases_lt 0 (length history)) [
    | inl some ↦
        let one : length history ≡ suc (length history - 1) = omega (arith, some) in
        sym (ap (λ (k : ℕ). flat_map (replays_of history line) (range_with_len 0 k)) one)
    | inr none ↦
        let zero_long : length history ≡ 0 = omega (arith, none) in
        past-left 0 0 0 none ∙ sym
        (ap (λ (k : ℕ). flat_map (replays_of history line) (range_with_len 0 k)) zero_long)
  ]

  -- no more messages than events
  few-sent : (p number place : ℕ) (es : List Event)
      → length (messages_sent p number place es) ≤ length es
  few-sent p number place [] = omega arith
  few-sent p number place (Send to inc body ∷ es) =
      omega (arith, few-sent p (number + 1) (place + 1) es)
  few-sent p number place (Recv message ∷ es) = omega (arith, few-sent p number (place + 1) es)
  few-sent p number place (Check state round ∷ es) = omega (arith, few-sent p number (place + 1) es)
  few-sent p number place (Mark from round ∷ es) = omega (arith, few-sent p number (place + 1) es)

few-filtered : {A : Type 0} (keeps : A → Bool) (xs : List A) → length (filter keeps xs) ≤ length xs
few-filtered keeps [] = omega arith
few-filtered keeps (x ∷ xs) =
    elim (keeps x) as
    (λ b. length (cond b (x ∷ filter keeps xs) (filter keeps xs)) ≤ length (x ∷ xs)) [
      | true ↦
          omega (arith, few-filtered keeps xs)
      | false ↦ omega (arith, few-filtered keeps xs)
    ]

few-flat : {A : Type 0} (f : ℕ → List A) (most k n : ℕ) → ((p : ℕ) → length (f p) ≤ most)
    → length (flat_map f (range_with_len k n)) ≤ n * most
few-flat f most k zero each = omega arith
few-flat {A} f most k (suc n) each =
    let split : length (f k ++ flat_map f (range_with_len (k + 1) n))
    ≡ length (f k) + length (flat_map f (range_with_len (k + 1) n)) =
    length-append (f k) (flat_map f (range_with_len (k + 1) n)) in
    let more : suc n * most ≡ most + n * most = grind arith in
    omega (arith, split, more, each k, few-flat f most (k + 1) n each)

-- no more are due than there can be events
pub few-due : (history : List Process) (line : List Choice) → IsHistory history
    → length (replays_due history line) ≤ length history * MOST_EVENTS
few-due history line is_history =
    few-flat (replays_of history line) MOST_EVENTS 0 (length history) each
  where
    few-events : (p : ℕ) → length (events_before history line p) ≤ MOST_EVENTS
    few-events p = elim (cases_lt p (length history)) [
      | inl within ↦ few-front (tape_at history p) (choice_at line p)
          (is_history.processes p _ within).tape.few
      | inr past ↦ subst (λ (es : List Event). length es ≤ MOST_EVENTS)
          (sym (ap (λ (tape : List Event). front tape (choice_at line p))
          (tape_at-past history p past) ∙ front-empty (choice_at line p))) (omega arith)
    ]
      where
        few-take : {A : Type 0} (n most : ℕ) (xs : List A) → length xs ≤ most
            → length (take n xs) ≤ most
        few-take zero most xs few = omega arith
        few-take (suc n) most [] few = omega arith
        few-take (suc n) most (x ∷ xs) few =
            omega (arith, few, few-take n (length xs) xs (omega arith))

        few-front : (tape : List Event) (choice : Choice) → length tape ≤ MOST_EVENTS
            → length (front tape choice) ≤ MOST_EVENTS
        few-front tape choice few = few-take _ MOST_EVENTS tape few

    each : (p : ℕ) → length (replays_of history line p) ≤ MOST_EVENTS
    each p = omega (
      arith,
      few-filtered (is_unreceived history line) (messages_sent p 0 0 (events_before
          history line p)),
      few-sent history line p 0 0 (events_before history line p),
      few-events p,
    )
