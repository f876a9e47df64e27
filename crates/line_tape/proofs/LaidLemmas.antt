-- What is kept of events, as they come and go.
use Rattle.std.proofs.Common.{◌≡◌, ℕ, suc, true, false, cond, ◌+◌, ◌*◌, ◌≤◌, List, [], ◌∷◌, ◌++◌}
use Rattle.std.proofs.Common.{length, take, drop, map, Option, Some, None, is_some, refl, sym, ap}
use Rattle.std.proofs.Common.{◌∙◌, subst, arith}
use Rattle.std.specs.List.{All, filter_map}
use Rattle.std.specs.Prelude.{unwrap_or}
use Rattle.std.proofs.lemmas.List.{append-nil, drop-append-le, drop-map, drop_at}
use Rattle.std.proofs.lemmas.List.{get_or_append_left, get_or_push, length-append, length-drop}
use Rattle.std.proofs.lemmas.List.{length-take-le, length_push, map-append, take-append-drop}
use Rattle.std.proofs.lemmas.List.{take-append-le, take-map, take_all}
use Rattle.std.proofs.lemmas.List.Elements.{All-nil, All-cons, All-head, All-tail}
use Rattle.line_names.specs.declared.limits.TheConstants.{MOST_BODY}
use Rattle.line_names.specs.declared.messages.MsgName.{MsgName}
use Rattle.line_tape.specs.declared.events.Event.{Event}
use Rattle.line_tape.specs.declared.events.Event.TheVariants.{Send, Recv, Check, Mark}
use Rattle.line_tape.specs.declared.logs.KeptEvent.{KeptEvent}
use Rattle.line_tape.specs.declared.logs.KeptEvent.TheVariants.{Send as KeptSend, Recv as KeptRecv}
use Rattle.line_tape.specs.declared.logs.KeptEvent.TheVariants.{Check as KeptCheck}
use Rattle.line_tape.specs.declared.logs.KeptEvent.TheVariants.{LargeCheck as KeptLargeCheck}
use Rattle.line_tape.specs.declared.logs.KeptEvent.TheVariants.{Mark as KeptMark}
use Rattle.line_tape.specs.Kept.{IsSettled}
use Rattle.line_tape.specs.Laid.{IsKeptWithin, IsLaid, event_from_kept, first_byte, first_state}
use Rattle.line_tape.specs.Laid.{restarted_kept}
use Rattle.line_tape.specs.Restart.{restarted_event}

-- how far events reach
pub record Reaches (events : List KeptEvent) (b s B S : ℕ) : Type 0 where
  pub bytes : b ≤ B
  pub few : B ≤ b + MOST_BODY * length events
  pub states : s ≤ S
  pub fewer : S ≤ s + length events
  pub fit : All (IsKeptWithin B S) events

pub laid-reaches : (events : List KeptEvent) (b s B S : ℕ) → IsLaid events b s B S
    → Reaches events b s B S
laid-reaches [] b s B S laid = record {
  bytes = omega (arith, laid.0);
  few = omega (arith, laid.0);
  states = omega (arith, laid.1);
  fewer = omega (arith, laid.1);
  fit = All-nil (IsKeptWithin B S);
}
laid-reaches (KeptSend to start inc len ∷ rest) b s B S laid =
    let far : Reaches rest (b + len) s B S = laid-reaches rest (b + len) s B S laid.2 in
    record {
      bytes = omega (arith, far.bytes);
      few = omega (arith, far.few, laid.1);
      states = far.states;
      fewer = omega (arith, far.fewer);
      fit = All-cons (IsKeptWithin B S) (KeptSend to start inc len) rest
          (omega (arith, laid.0, far.bytes)) far.fit;
    }
laid-reaches (KeptRecv message ∷ rest) b s B S laid =
    let far : Reaches rest b s B S = laid-reaches rest b s B S laid in
    record {
      bytes = far.bytes;
      few = omega (arith, far.few);
      states = far.states;
      fewer = omega (arith, far.fewer);
      fit = All-cons (IsKeptWithin B S) (KeptRecv message) rest _ far.fit;
    }
laid-reaches (KeptLargeCheck before round ∷ rest) b s B S laid =
    let far : Reaches rest b (suc s) B S = laid-reaches rest b (suc s) B S laid.1 in
    record {
      bytes = far.bytes;
      few = omega (arith, far.few);
      states = omega (arith, far.states);
      fewer = omega (arith, far.fewer);
      fit = All-cons (IsKeptWithin B S) (KeptLargeCheck before round) rest
          (omega (arith, laid.0, far.states)) far.fit;
    }
laid-reaches (KeptCheck start round len of_round ∷ rest) b s B S laid =
    let far : Reaches rest (b + len) s B S = laid-reaches rest (b + len) s B S laid.2 in
    record {
      bytes = omega (arith, far.bytes);
      few = omega (arith, far.few, laid.1);
      states = far.states;
      fewer = omega (arith, far.fewer);
      fit = All-cons (IsKeptWithin B S) (KeptCheck start round len of_round) rest
          (omega (arith, laid.0, far.bytes)) far.fit;
    }
laid-reaches (KeptMark from round ∷ rest) b s B S laid =
    let far : Reaches rest b s B S = laid-reaches rest b s B S laid in
    record {
      bytes = far.bytes;
      few = omega (arith, far.few);
      states = far.states;
      fewer = omega (arith, far.fewer);
      fit = All-cons (IsKeptWithin B S) (KeptMark from round) rest _ far.fit;
    }

-- events behind others
pub laid-append : (events more : List KeptEvent) (b s B S B' S' : ℕ) → IsLaid events b s B S
    → IsLaid more B S B' S' → IsLaid (events ++ more) b s B' S'
laid-append [] more b s B S B' S' laid next =
    subst (λ k. IsLaid more k s B' S') (sym laid.0)
    (subst (λ k. IsLaid more B k B' S') (sym laid.1) next)
laid-append (KeptSend to start inc len ∷ rest) more b s B S B' S' laid next =
    (laid.0, laid.1, laid-append rest more (b + len) s B S B' S' laid.2 next)
laid-append (KeptRecv message ∷ rest) more b s B S B' S' laid next =
    laid-append rest more b s B S B' S' laid next
laid-append (KeptLargeCheck before round ∷ rest) more b s B S B' S' laid next =
    (laid.0, laid-append rest more b (suc s) B S B' S' laid.1 next)
laid-append (KeptCheck start round len of_round ∷ rest) more b s B S B' S' laid next =
    (laid.0, laid.1, laid-append rest more (b + len) s B S B' S' laid.2 next)
laid-append (KeptMark from round ∷ rest) more b s B S B' S' laid next =
    laid-append rest more b s B S B' S' laid next

-- how far the first events reach, and the others from there on
pub record Parted (events more : List KeptEvent) (b s B S : ℕ) : Type 0 where
  pub byte : ℕ
  pub state : ℕ
  pub first : IsLaid events b s byte state
  pub others : IsLaid more byte state B S

pub laid-parts : (events more : List KeptEvent) (b s B S : ℕ) → IsLaid (events ++ more) b s B S
    → Parted events more b s B S
laid-parts [] more b s B S laid =
    record { byte = b; state = s; first = (refl, refl); others = laid }
laid-parts (KeptSend to start inc len ∷ rest) more b s B S laid =
    let parts : Parted rest more (b + len) s B S = laid-parts rest more (b + len) s B S laid.2 in
    record {
      byte = parts.byte;
      state = parts.state;
      first =
          (laid.0, laid.1, parts.first);
      others = parts.others;
    }
laid-parts (KeptRecv message ∷ rest) more b s B S laid =
    let parts : Parted rest more b s B S = laid-parts rest more b s B S laid in
    record { byte = parts.byte; state = parts.state; first = parts.first; others = parts.others }
laid-parts (KeptLargeCheck before round ∷ rest) more b s B S laid =
    let parts : Parted rest more b (suc s) B S = laid-parts rest more b (suc s) B S laid.1 in
    record {
      byte = parts.byte;
      state = parts.state;
      first =
          (laid.0, parts.first);
      others = parts.others;
    }
laid-parts (KeptCheck start round len of_round ∷ rest) more b s B S laid =
    let parts : Parted rest more (b + len) s B S = laid-parts rest more (b + len) s B S laid.2 in
    record {
      byte = parts.byte;
      state = parts.state;
      first =
          (laid.0, laid.1, parts.first);
      others = parts.others;
    }
laid-parts (KeptMark from round ∷ rest) more b s B S laid =
    let parts : Parted rest more b s B S = laid-parts rest more b s B S laid in
    record { byte = parts.byte; state = parts.state; first = parts.first; others = parts.others }

module _ (bodies more : List ℕ) (states others : List (List ℕ)) where
  -- further bytes and states change no event
  bytes-same : (start len : ℕ) → start + len ≤ length bodies
      → take len (drop start (bodies ++ more)) ≡ take len (drop start bodies)
  bytes-same start len fits =
      let dropped : drop start (bodies ++ more)
      ≡ drop start bodies ++ more = drop-append-le start bodies more (omega (arith, fits)) in
      ap (take len) dropped ∙ take-append-le len (drop start bodies) more
      (omega (arith, fits, length-drop start bodies))

  event-same : (event : KeptEvent) → IsKeptWithin (length bodies) (length states) event
      → event_from_kept (bodies ++ more) (states ++ others) event
      ≡ event_from_kept bodies states event
  event-same (KeptSend to start inc len) fits = ap (Send to inc) (bytes-same start len fits)
  event-same (KeptRecv message) fits = refl
  event-same (KeptLargeCheck before round) fits =
      ap (λ (state : List ℕ). Check state round) (get_or_append_left states others [] before fits)
  event-same (KeptCheck start round len of_round) fits =
      ap (λ (state : List ℕ). Check state (cond of_round (Some round) None))
      (bytes-same start len fits)
  event-same (KeptMark from round) fits = refl

  pub events-same : (events : List KeptEvent)
      → All (IsKeptWithin (length bodies) (length states)) events → map (event_from_kept
      (bodies ++ more) (states ++ others)) events ≡ map (event_from_kept bodies states) events
  events-same [] fits = refl
  events-same (event ∷ rest) fits =
      ap (λ (e : Event). e ∷ map (event_from_kept (bodies ++ more) (states ++ others)) rest)
      (event-same event
      (All-head (IsKeptWithin (length bodies) (length states)) event rest fits))
      ∙ ap (λ (es : List Event). event_from_kept bodies states event ∷ es) (events-same rest
      (All-tail (IsKeptWithin (length bodies) (length states)) event rest fits))

-- the first bytes and states tell the events that stand among them
pub events-first : (bodies : List ℕ) (states : List (List ℕ)) (B S : ℕ) (events : List KeptEvent)
    → B ≤ length bodies → S ≤ length states → All (IsKeptWithin B S) events → map (event_from_kept
    (take B bodies) (take S states)) events ≡ map (event_from_kept bodies states) events
events-first bodies states B S events b s fits =
    let bytes : B ≡ length (take B bodies) = sym (length-take-le B bodies b) in
    let count : S ≡ length (take S states) = sym (length-take-le S states s) in
    let inside : All (IsKeptWithin (length (take B bodies)) (length (take S states))) events = subst
    (λ k. All (IsKeptWithin k (length (take S states))) events) bytes
    (subst (λ k. All (IsKeptWithin B k) events) count fits) in
    sym (events-same (take B bodies) (drop B bodies) (take S states) (drop S states) events inside)
    ∙ ap (λ (xs : List ℕ). map (event_from_kept xs (take S states ++ drop S states)) events)
    (take-append-drop B bodies)
    ∙ ap (λ (xs : List (List ℕ)). map (event_from_kept bodies xs) events)
    (take-append-drop S states)

-- the bytes that come next
bytes-next : (bodies bytes : List ℕ)
    → take (length bytes) (drop (length bodies) (bodies ++ bytes)) ≡ bytes
bytes-next bodies bytes = ap (take (length bytes))
    (drop_at bodies bytes (length bodies) refl) ∙ take_all (length bytes) bytes (omega arith)

-- what a restart leaves of the events
pub events-restarted : (bodies : List ℕ) (states : List (List ℕ)) (events : List KeptEvent)
    → map (event_from_kept bodies states) (filter_map restarted_kept events)
    ≡ filter_map restarted_event (map (event_from_kept bodies states) events)
events-restarted bodies states [] = refl
events-restarted bodies states (KeptSend to start inc len ∷ rest) = ap
    (λ (es : List Event). event_from_kept bodies states (KeptSend to start inc len) ∷ es)
    (events-restarted bodies states rest)
events-restarted bodies states (KeptRecv message ∷ rest) =
    ap (λ (es : List Event). Recv message ∷ es) (events-restarted bodies states rest)
events-restarted bodies states (KeptLargeCheck before round ∷ rest) = ap
    (λ (es : List Event). event_from_kept bodies states (KeptLargeCheck before None) ∷ es)
    (events-restarted bodies states rest)
events-restarted bodies states (KeptCheck start round len of_round ∷ rest) = ap
    (λ (es : List Event). event_from_kept bodies states (KeptCheck start round len false) ∷ es)
    (events-restarted bodies states rest)
events-restarted bodies states (KeptMark from round ∷ rest) = events-restarted bodies states rest

pub laid-restarted : (events : List KeptEvent) (b s B S : ℕ) → IsLaid events b s B S
    → IsLaid (filter_map restarted_kept events) b s B S
laid-restarted [] b s B S laid = laid
laid-restarted (KeptSend to start inc len ∷ rest) b s B S laid =
    (laid.0, laid.1, laid-restarted rest (b + len) s B S laid.2)
laid-restarted (KeptRecv message ∷ rest) b s B S laid = laid-restarted rest b s B S laid
laid-restarted (KeptLargeCheck before round ∷ rest) b s B S laid =
    (laid.0, laid-restarted rest b (suc s) B S laid.1)
laid-restarted (KeptCheck start round len of_round ∷ rest) b s B S laid =
    (laid.0, laid.1, laid-restarted rest (b + len) s B S laid.2)
laid-restarted (KeptMark from round ∷ rest) b s B S laid = laid-restarted rest b s B S laid

-- what is kept of an event that is settled is settled
settled-one : (bodies : List ℕ) (states : List (List ℕ)) (event : KeptEvent)
    → IsSettled (event_from_kept bodies states event) → restarted_kept event ≡ Some event
settled-one bodies states (KeptSend to start inc len) settled = refl
settled-one bodies states (KeptRecv message) settled = refl
settled-one bodies states (KeptLargeCheck before round) settled =
    let none : None ≡ round = cc settled in
    ap (λ r. Some (KeptLargeCheck before r)) none
settled-one bodies states (KeptCheck start round len true) settled = absurd (cc settled)
settled-one bodies states (KeptCheck start round len false) settled = refl
settled-one bodies states (KeptMark from round) settled = absurd (cc settled)

settled-each : (bodies : List ℕ) (states : List (List ℕ)) (events : List KeptEvent)
    → All IsSettled (map (event_from_kept bodies states) events)
    → All (λ event. restarted_kept event ≡ Some event) events
settled-each bodies states [] settled = All-nil (λ event. restarted_kept event ≡ Some event)
settled-each bodies states (event ∷ rest) settled =
    All-cons (λ event. restarted_kept event ≡ Some event) event rest
    (settled-one bodies states event
    (All-head IsSettled (event_from_kept bodies states event)
    (map (event_from_kept bodies states) rest) settled))
    (settled-each bodies states rest (All-tail IsSettled (event_from_kept bodies states event)
    (map (event_from_kept bodies states) rest) settled))

pub settled-kept : (bodies : List ℕ) (states : List (List ℕ)) (events : List KeptEvent) (n : ℕ)
    → All IsSettled (take n (map (event_from_kept bodies states) events))
    → All (λ event. restarted_kept event ≡ Some event) (take n events)
settled-kept bodies states events n settled =
    settled-each bodies states (take n events)
    (subst (All IsSettled) (take-map (event_from_kept bodies states) n events) settled)

-- the bytes and the states of the events are there
pub laid_fit : (events : List KeptEvent) (B S : ℕ) → IsLaid events 0 0 B S
    → All (IsKeptWithin B S) events
laid_fit events B S laid = (laid-reaches events 0 0 B S laid).fit

-- the first so many events, and those behind them
pub events_of_first : (bodies : List ℕ) (states : List (List ℕ)) (events : List KeptEvent) (n : ℕ)
    → map (event_from_kept bodies states) (take n events)
    ≡ take n (map (event_from_kept bodies states) events)
events_of_first bodies states events n = sym (take-map (event_from_kept bodies states) n events)

pub events_behind : (bodies : List ℕ) (states : List (List ℕ)) (events : List KeptEvent) (n : ℕ)
    → map (event_from_kept bodies states) (drop n events)
    ≡ drop n (map (event_from_kept bodies states) events)
events_behind bodies states events n = sym (drop-map (event_from_kept bodies states) n events)

-- the bytes of events that are laid begin where their first body stands, or end where they begin
laid-byte : (events : List KeptEvent) (b s B S : ℕ) → IsLaid events b s B S
    → first_byte events B ≡ b
laid-byte [] b s B S laid = sym laid.0
laid-byte (KeptSend to start inc len ∷ rest) b s B S laid = laid.0
laid-byte (KeptRecv message ∷ rest) b s B S laid = laid-byte rest b s B S laid
laid-byte (KeptLargeCheck before round ∷ rest) b s B S laid = laid-byte rest b (suc s) B S laid.1
laid-byte (KeptCheck start round len of_round ∷ rest) b s B S laid = laid.0
laid-byte (KeptMark from round ∷ rest) b s B S laid = laid-byte rest b s B S laid

-- and so do their states
laid-state : (events : List KeptEvent) (b s B S : ℕ) → IsLaid events b s B S
    → first_state events S ≡ s
laid-state [] b s B S laid = sym laid.1
laid-state (KeptSend to start inc len ∷ rest) b s B S laid = laid-state rest (b + len) s B S laid.2
laid-state (KeptRecv message ∷ rest) b s B S laid = laid-state rest b s B S laid
laid-state (KeptLargeCheck before round ∷ rest) b s B S laid = laid.0
laid-state (KeptCheck start round len of_round ∷ rest) b s B S laid =
    laid-state rest (b + len) s B S laid.2
laid-state (KeptMark from round ∷ rest) b s B S laid = laid-state rest b s B S laid

-- what the log is, where it has these events
pub record IsLog (events : List KeptEvent) (bodies : List ℕ) (states : List (List ℕ))
    (told : List Event) : Type 0 where
  pub laid : IsLaid events 0 0 (length bodies) (length states)
  pub shows : map (event_from_kept bodies states) events ≡ told

module _ (events : List KeptEvent) (bodies : List ℕ) (states : List (List ℕ))
    (laid : IsLaid events 0 0 (length bodies) (length states)) where
  abbrev told : List Event
  told = map (event_from_kept bodies states) events

  -- one event more, whose bytes and state come next
  added : (event : KeptEvent) (body : List ℕ) (more : List (List ℕ))
      → IsLaid (event ∷ []) (length bodies) (length states) (length (bodies ++ body))
      (length (states ++ more)) → IsLog (events ++ event ∷ []) (bodies ++ body) (states ++ more)
      (told ++ event_from_kept (bodies ++ body) (states ++ more) event ∷ [])
  added event body more next = record {
    laid = laid-append events (event ∷ []) 0 0 (length bodies) (length states)
        (length (bodies ++ body)) (length (states ++ more)) laid next;
    shows = map-append (event_from_kept (bodies ++ body) (states ++ more)) events (event ∷ [])
        ∙ ap (λ (es : List Event). es
        ++ event_from_kept (bodies ++ body) (states ++ more) event ∷ []) (events-same bodies
        body states more events (laid_fit events (length bodies) (length states) laid));
  }

  -- bytes that come next, and the event that has them
  bytes-added : (event : KeptEvent) (body : List ℕ) (shown : Event)
      → IsLaid (event ∷ []) (length bodies) (length states) (length (bodies ++ body))
      (length states) → event_from_kept (bodies ++ body) states event ≡ shown
      → IsLog (events ++ event ∷ []) (bodies ++ body) states (told ++ shown ∷ [])
  bytes-added event body shown next is =
      let log : IsLog (events ++ event ∷ []) (bodies ++ body) (states ++ [])
      (told ++ event_from_kept (bodies ++ body) (states ++ []) event ∷ []) = added event body []
      (subst (λ k. IsLaid (event ∷ []) (length bodies) (length states) (length (bodies ++ body))
      k) (sym (ap (λ (xs : List (List ℕ)). length xs) (append-nil states))) next) in
      subst (λ (e : Event). IsLog (events ++ event ∷ []) (bodies ++ body) states (told ++ e ∷ []))
      is
      (subst (λ (xs : List (List ℕ)). IsLog (events ++ event ∷ []) (bodies ++ body) xs
      (told ++ event_from_kept (bodies ++ body) xs event ∷ [])) (append-nil states) log)

  pub send-added : (to inc : ℕ) (body : List ℕ) → length body ≤ MOST_BODY
      → IsLog (events ++ KeptSend to (length bodies) inc (length body) ∷ []) (bodies ++ body) states
      (told ++ Send to inc body ∷ [])
  send-added to inc body short =
      bytes-added (KeptSend to (length bodies) inc (length body)) body (Send to inc body)
      (refl, short, (sym (length-append bodies body), refl))
      (ap (Send to inc) (bytes-next bodies body))

  pub check-added : (state : List ℕ) (round : Option ℕ) → length state ≤ MOST_BODY
      → IsLog (events ++ KeptCheck (length bodies) (unwrap_or round 0) (length state)
      (is_some round) ∷ []) (bodies ++ state) states (told ++ Check state round ∷ [])
  check-added state (Some round) small =
      bytes-added (KeptCheck (length bodies) round (length state) true) state
      (Check state (Some round)) (refl, small, (sym (length-append bodies state), refl))
      (ap (λ (bytes : List ℕ). Check bytes (Some round)) (bytes-next bodies state))
  check-added state None small =
      bytes-added (KeptCheck (length bodies) 0 (length state) false) state (Check state None)
      (refl, small, (sym (length-append bodies state), refl))
      (ap (λ (bytes : List ℕ). Check bytes None) (bytes-next bodies state))

  pub recv-added : (message : MsgName)
      → IsLog (events ++ KeptRecv message ∷ []) bodies states (told ++ Recv message ∷ [])
  recv-added message = record {
    laid = laid-append events (KeptRecv message ∷ []) 0 0 (length bodies) (length states)
        (length bodies) (length states) laid (refl, refl);
    shows = map-append (event_from_kept bodies states) events (KeptRecv message ∷ []);
  }

  pub mark-added : (from round : ℕ)
      → IsLog (events ++ KeptMark from round ∷ []) bodies states (told ++ Mark from round ∷ [])
  mark-added from round = record {
    laid = laid-append events (KeptMark from round ∷ []) 0 0 (length bodies) (length states)
        (length bodies) (length states) laid (refl, refl);
    shows = map-append (event_from_kept bodies states) events (KeptMark from round ∷ []);
  }

  pub large-added : (state : List ℕ) (round : Option ℕ) → IsLog (events ++ KeptLargeCheck
      (length states) round ∷ []) bodies (states ++ state ∷ []) (told ++ Check state round ∷ [])
  large-added state round =
      let event : KeptEvent = KeptLargeCheck (length states) round in
      let next : IsLog (events ++ event ∷ []) (bodies ++ []) (states ++ state ∷ [])
      (told ++ event_from_kept (bodies ++ []) (states ++ state ∷ []) event ∷ []) = added event
      [] (state ∷ []) (
        refl,
        (
          sym (ap (λ (xs : List ℕ). length xs) (append-nil bodies)),
          omega
              (arith, length_push states state),
        ),
      ) in
      subst (λ (e : Event). IsLog (events ++ event ∷ []) bodies (states ++ state ∷ [])
      (told ++ e ∷ []))
      (ap (λ (s : List ℕ). Check s round) (get_or_push states state [] (length states) refl))
      (subst (λ (xs : List ℕ). IsLog (events ++ event ∷ []) xs (states ++ state ∷ [])
      (told ++ event_from_kept xs (states ++ state ∷ []) event ∷ [])) (append-nil bodies) next)

  -- the large states of the last events are not before the first of these
  pub first-state-within : (first more : List KeptEvent) → events ≡ first ++ more
      → first_state more (length states) ≤ length states
  first-state-within first more is =
      let parts : Parted first more 0 0 (length bodies) (length states) = laid-parts first more 0 0
      (length bodies) (length states)
      (subst (λ es. IsLaid es 0 0 (length bodies) (length states)) is laid) in
      let far : Reaches more parts.byte parts.state (length bodies) (length states) = laid-reaches
      more parts.byte parts.state (length bodies) (length states) parts.others in
      omega (
        arith,
        laid-state more parts.byte parts.state (length bodies)
            (length states) parts.others,
        far.states,
      )

  -- the first events, where those behind them go with their bytes and states
  pub more-gone : (first more : List KeptEvent) → events ≡ first ++ more
      → IsLog first (take (first_byte more (length bodies)) bodies)
      (take (first_state more (length states)) states) (map (event_from_kept bodies states) first)
  more-gone first more is =
      let parts : Parted first more 0 0 (length bodies) (length states) = laid-parts first more 0 0
      (length bodies) (length states)
      (subst (λ es. IsLaid es 0 0 (length bodies) (length states)) is laid) in
      let far : Reaches more parts.byte parts.state (length bodies) (length states) = laid-reaches
      more parts.byte parts.state (length bodies) (length states) parts.others in
      let byte : first_byte more (length bodies) ≡ parts.byte = laid-byte more parts.byte
      parts.state (length bodies) (length states) parts.others in
      let state : first_state more (length states) ≡ parts.state = laid-state more parts.byte
      parts.state (length bodies) (length states) parts.others in
      let b : ℕ = first_byte more (length bodies) in
      let s : ℕ = first_state more (length states) in
      let low : b ≤ length bodies = omega (arith, byte, far.bytes) in
      let few : s ≤ length states = first-state-within first more is in
      let before : IsLaid first 0 0 b s = subst (λ k. IsLaid first 0 0 b k) (sym state)
      (subst (λ k. IsLaid first 0 0 k parts.state) (sym byte) parts.first) in
      record {
        laid = subst (λ k. IsLaid first 0 0 (length (take b bodies)) k)
            (sym (length-take-le s states few))
            (subst (λ k. IsLaid first 0 0 k s) (sym (length-take-le b bodies low)) before);
        shows = events-first bodies states b s first low few (laid_fit first b s before);
      }
