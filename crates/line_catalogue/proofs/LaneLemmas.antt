-- In a history that agrees the numbers of messages decide what is sent before a line.
use Rattle.std.proofs.Common.{◌≡◌, ◌↔◌, ℕ, zero, suc, ◌+◌, ◌<◌, ◌≤◌, List, length, take, drop}
use Rattle.std.proofs.Common.{get_or, inl, inr, refl, sym, ap, ◌∙◌, subst, arith}
use Rattle.std.specs.List.{Contains}
use Rattle.std.proofs.lemmas.Bool.{cases_lt}
use Rattle.std.proofs.lemmas.List.{take-append-drop, get_or_past}
use Rattle.std.proofs.lemmas.List.Elements.{All-contains, Contains-append_left}
use Rattle.std.proofs.lemmas.Option.{slice_get_within, slice_get-get_or, get_or_from_slice_get}
use Rattle.line_names.specs.declared.choices.Choice.{Choice}
use Rattle.line_names.specs.declared.messages.MsgName.{MsgName}
use Rattle.line_names.specs.Lines.{choice_at}
use Rattle.line_tape.specs.declared.events.Event.{Event}
use Rattle.line_tape.specs.declared.events.Event.TheVariants.{Recv}
use Rattle.line_tape.specs.Event.{incarnations_sent, NamesBelow}
use Rattle.line_tape.specs.Front.{place, front}
use Rattle.line_tape.specs.History.{Process, fresh, tape_at, incarnation_at, IsHistory}
use Rattle.line_tape.specs.Line.{IsSentBefore, IsOrphanAmong, AreSentBefore}
use Rattle.line_tape.proofs.CutLemmas.{contains_nothing, sends_take}
use Rattle.line_tape.proofs.LineLemmas.{tape_at-past}
use Rattle.line_tape.proofs.RowLemmas.{sent_at, sends_le}
use Rattle.line_vectors.specs.declared.limits.TheConstants.{LAST_NUMBER}
use Rattle.line_vectors.specs.Reach.{reach_from, reach_before, sent_count, sents_of, IsReceivedFrom}
use Rattle.line_vectors.specs.Vectors.{Fits}
use Rattle.line_vectors.proofs.ReachLemmas.{reach-above, reach-received, reach-at, length-reach}
use Rattle.line_vectors.proofs.ReachLemmas.{sents-at}
use Rattle.line_catalogue.specs.Agreement.{NameAgrees, EventAgrees, Agrees, name_of_number}

-- what stands in a front stands on the tape
pub on_tape : (tape : List Event) (choice : Choice) (event : Event)
    → Contains (front tape choice) event → Contains tape event
on_tape tape choice event among =
    let n : ℕ = place tape choice in
    subst (λ (es : List Event). Contains es event) (take-append-drop n tape)
    (Contains-append_left (take n tape) (drop n tape) event among)

-- the name of a message that is received agrees
pub agrees_at : (history : List Process) (q : ℕ) (message : MsgName) → Agrees history
    → Contains (tape_at history q) (Recv message) → NameAgrees history message
agrees_at history q message agrees received =
    All-contains (EventAgrees history) (tape_at history q) (Recv message) (agrees.each q) received

-- a name that agrees is sent before a line exactly where its number is below the sends there
number-decides : (history : List Process) (line : List Choice) (message : MsgName)
    → NameAgrees history message
    → IsSentBefore history line message ↔ (message.number < sent_count history line message.from)
number-decides history line message agrees = (sent-below, below-sent agrees)
  where
    tape : List Event
    tape = tape_at history message.from

    n : ℕ
    n = place tape (choice_at line message.from)

    sent-below : IsSentBefore history line message
        → message.number < sent_count history line message.from
    sent-below sent =
        slice_get_within (incarnations_sent (take n tape)) message.number message.inc sent

    below-sent : NameAgrees history message → message.number < sent_count history line message.from
        → IsSentBefore history line message
    below-sent (inl held) below =
        let within : message.number < length (incarnations_sent tape) = slice_get_within
        (incarnations_sent tape) message.number message.inc held in
        sent_at tape n message.number message.inc below message.inc ∙ sym
        (slice_get-get_or (incarnations_sent tape) message.number message.inc within) ∙ held
    below-sent (inr (past, now)) below = absurd (omega (arith, below, past, sends_take tape n))

pub numbers-decide : (history : List Process) (line : List Choice) (q : ℕ) (message : MsgName)
    → Agrees history → Contains (tape_at history q) (Recv message)
    → IsSentBefore history line message ↔ (message.number < sent_count history line message.from)
numbers-decide history line q message agrees received =
    number-decides history line message (agrees_at history q message agrees received)

-- all that is received in a front is sent before the line exactly where no lane is over the sends
lanes-decide : (history : List Process) (line : List Choice) (q : ℕ) (choice : Choice)
    → Agrees history
    → AreSentBefore history line (front (tape_at history q) choice)
    ↔ ((p : ℕ) → reach_from (front (tape_at history q) choice) p ≤ sent_count history line p)
lanes-decide history line q choice agrees = (down, up)
  where
    events : List Event
    events = front (tape_at history q) choice

    decided : (message : MsgName) → Contains events (Recv message) → IsSentBefore history line
        message ↔ (message.number < sent_count history line message.from)
    decided message among = numbers-decide history line q message agrees
        (on_tape (tape_at history q) choice (Recv message) among)

    bounded : (p : ℕ) (number : ℕ) → IsReceivedFrom events p number
        → AreSentBefore history line events → number < sent_count history line p
    bounded p number is sent =
        let below : is.message.number < sent_count history line is.message.from =
        (decided is.message is.received).0 (sent is.message is.received) in
        omega (arith, below, is.number_is, ap (sent_count history line) is.from_is)

    down : AreSentBefore history line events → (p : ℕ)
        → reach_from events p ≤ sent_count history line p
    down sent p = lane (reach_from events p) refl
      where
        lane : (k : ℕ) → reach_from events p ≡ k → reach_from events p ≤ sent_count history line p
        lane zero e = omega (arith, e)
        lane (suc k) e =
            omega (arith, e, bounded p k (reach-received events p k (omega (arith, e))) sent)

    up : ((p : ℕ) → reach_from events p ≤ sent_count history line p)
        → AreSentBefore history line events
    up below message among = (decided message among).1
        (omega (arith, reach-above events message.from message among refl, below message.from))

-- nothing is received from a process that there isn't
lane-past : (history : List Process) (q : ℕ) (choice : Choice) (p : ℕ) → IsHistory history
    → length history ≤ p → reach_from (front (tape_at history q) choice) p ≡ 0
lane-past history q choice p is past = lane (reach_from events p) refl
  where
    events : List Event
    events = front (tape_at history q) choice

    lane : (k : ℕ) → reach_from events p ≡ k → reach_from events p ≡ 0
    lane zero e = e
    lane (suc k) e =
        let from : IsReceivedFrom events p k = reach-received events p k (omega (arith, e)) in
        let received : Contains (tape_at history q) (Recv from.message) = on_tape
        (tape_at history q) choice (Recv from.message) from.received in
        elim (cases_lt q (length history)) [
          | inl within ↦
              let below : NamesBelow (length history) (Recv from.message) = All-contains
              (NamesBelow (length history)) (tape_at history q) (Recv from.message)
              (is.processes q fresh within).named received in
              absurd (omega (arith, below, from.from_is))
          | inr beyond ↦ absurd (contains_nothing (Recv from.message) (subst (λ (es : List Event).
              Contains es (Recv from.message)) (tape_at-past history q beyond) received))
        ]

-- no line has as many sends as a number can be great
pub sent-few : (history : List Process) (line : List Choice) (p : ℕ) → IsHistory history
    → p < length history → sent_count history line p < LAST_NUMBER
sent-few history line p is within =
    let tape : List Event = tape_at history p in
    omega (
      arith,
      sends_take tape (place tape (choice_at line p)),
      sends_le tape,
      (is.processes p fresh within).tape.few,
    )

-- a vector fits the sends before a line exactly where all that it tells of is sent there
pub fits-decide : (history : List Process) (line : List Choice) (q : ℕ) (choice : Choice)
    → IsHistory history → Agrees history
    → Fits (reach_before history q choice) (sents_of history line)
    ↔ AreSentBefore history line (front (tape_at history q) choice)
fits-decide history line q choice is agrees =
    let n : ℕ = length history in
    let events : List Event = front (tape_at history q) choice in
    let all = lanes-decide history line q choice agrees in (
      λ fits. all.1 (λ p. elim (cases_lt p n) [
        | inl within ↦ omega (
          arith,
          reach-at n events p 0 within,
          sents-at history line p 0 within,
          fits p (omega (arith, length-reach n events)),
          sent-few history line p is within,
        )
        | inr past ↦ omega (arith, lane-past history q choice p is past)
      ]),
      λ sent p h.
          let within : p < n = omega (arith, length-reach n events) in
          omega (
            arith,
            reach-at n events p 0 within,
            sents-at history line p 0 within,
            all.0 sent
                p,
          ),
    )

-- a name that agrees is the name of its number
pub agreed-name : (history : List Process) (message : MsgName) → NameAgrees history message
    → message ≡ name_of_number history message.from message.number
agreed-name history message agrees = ap (λ inc. let name : MsgName = record
    { from = message.from; inc = inc; number = message.number } in name) (inc-is agrees)
  where
    inc-is : NameAgrees history message → message.inc ≡ get_or (incarnations_sent
        (tape_at history message.from)) message.number (incarnation_at history message.from)
    inc-is (inl held) = sym (get_or_from_slice_get (incarnations_sent (tape_at history
        message.from)) message.number message.inc (incarnation_at history message.from) held)
    inc-is (inr (past, now)) = now ∙ sym (get_or_past (incarnations_sent
        (tape_at history message.from)) message.number (incarnation_at history message.from) past)

-- a lane over the sends names an orphan
pub beyond-names : (history : List Process) (line : List Choice) (q : ℕ) (choice : Choice)
    (p number : ℕ) → Agrees history → reach_from (front (tape_at history q) choice) p ≡ number + 1
    → sent_count history line p ≤ number
    → IsOrphanAmong history line (front (tape_at history q) choice)
    (name_of_number history p number)
beyond-names history line q choice p number agrees lane beyond =
    let events : List Event = front (tape_at history q) choice in
    let from : IsReceivedFrom events p number = reach-received events p number lane in
    let m : MsgName = from.message in
    let agreed : NameAgrees history m = agrees_at history q m agrees
    (on_tape (tape_at history q) choice (Recv m) from.received) in
    let is : m ≡ name_of_number history p number = agreed-name history m agreed ∙ ap
    (λ k. name_of_number history k m.number) from.from_is ∙ ap
    (name_of_number history p) from.number_is in
    let unsent : IsSentBefore history line m
    → ⊥ = λ sent. absurd (omega (
      arith,
      (number-decides history line m agreed).0 sent,
      from.number_is,
      beyond,
      ap (sent_count history line) from.from_is,
    )) in
    subst (IsOrphanAmong history line events) is
    (record { received = from.received; unsent = unsent })
