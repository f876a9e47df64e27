-- The rule of colours is kept, and it makes the line of each completed round consistent.
use Rattle.std.proofs.Common.{◌≡◌, ℕ, zero, suc, ◌<◌, ◌≤◌, true, List, [], ◌∷◌, ◌++◌, length, take}
use Rattle.std.proofs.Common.{replicate, Some, None, refl, sym, ap, ◌∙◌, subst, arith, inl, inr}
use Rattle.std.specs.List.{filter_map, before_first, slice_get, Contains}
use Rattle.std.proofs.lemmas.List.{append_assoc, append-nil, take-append-le, take_at}
use Rattle.std.proofs.lemmas.List.Elements.{filter_map-append, Contains-append_left}
use Rattle.std.proofs.lemmas.List.Elements.{Contains-push_cases}
use Rattle.std.proofs.lemmas.Bool.{cases_eq, cases_lt}
use Rattle.line_names.specs.declared.choices.Choice.{Choice}
use Rattle.line_names.specs.declared.choices.Choice.TheVariants.{Check as AtCheck}
use Rattle.line_names.specs.declared.messages.MsgName.{MsgName}
use Rattle.line_tape.specs.declared.events.Event.{Event}
use Rattle.line_tape.specs.declared.events.Event.TheVariants.{Send, Recv, Check, Mark}
use Rattle.line_tape.specs.Colours.{colour, colour_at, send_place, message_colour, ColoursRise}
use Rattle.line_tape.specs.Colours.{AreColoured, IsNextColoured, is_completed_unordered}
use Rattle.line_tape.specs.Colours.{channel_unordered}
use Rattle.line_tape.specs.Event.{incarnation_of, incarnations_sent, Holds}
use Rattle.line_tape.specs.Fit.{IsFitUnordered, IsNextUnordered}
use Rattle.line_tape.specs.Front.{front}
use Rattle.line_tape.specs.History.{Process, fresh, tape_at, with_event}
use Rattle.line_tape.specs.Line.{events_before, IsConsistent}
use Rattle.line_tape.specs.Restart.{restarted_history, restarted_event}
use Rattle.line_tape.specs.Rounds.{is_check_of, has_check_of, check_index, after_check, is_checked}
use Rattle.line_tape.specs.Rounds.{checks_of, round_line, IsSnapshot}
use Rattle.line_laws.proofs.ColourLemmas.{colour-append, colour-take, colour-last}
use Rattle.line_laws.proofs.ColourLemmas.{before_later_send, message_colour_event}
use Rattle.line_laws.proofs.ColourLemmas.{message_colour_below, colour_restarted}
use Rattle.line_tape.proofs.ListLemmas.{slice_get_front, slice_get_push, contains_at}
use Rattle.line_laws.proofs.CopyLemmas.{next_received}
use Rattle.line_tape.proofs.FrontLemmas.{slice_get-append_left}
use Rattle.line_tape.proofs.LineLemmas.{IsConsistent-below}
use Rattle.line_tape.proofs.StayLemmas.{tape_restarted}
use Rattle.line_tape.proofs.EventLemmas.{tape_same, tape_other, tape_start}
use Rattle.line_laws.proofs.RoundLemmas.{split_first, check_is, front_of_check}
use Rattle.line_laws.proofs.RoundLines.{checked_has, round_choice, round_is_line}
use Rattle.line_laws.proofs.SpentLemmas.{spent_within}

-- what a list contains stands at a place of it
pub place_of : {X : Type 0} (xs : List X) (x : X) → Contains xs x
    → (i : ℕ) × (i < length xs) × (slice_get xs i ≡ Some x)
place_of [] x (k, l, e) = absurd (omega arith)
place_of (y ∷ xs) x (zero, l, e) = (0, omega arith, ap Some e)
place_of (y ∷ xs) x (suc k, l, e) =
    let ih = place_of xs x (k, omega arith, e) in (suc ih.0, omega (arith, ih.1), ih.2)

pub slice_get_between : {X : Type 0} (xs : List X) (x : X) (ys : List X)
    → slice_get (xs ++ x ∷ ys) (length xs) ≡ Some x
slice_get_between [] x ys = refl
slice_get_between (z ∷ xs) x ys = slice_get_between xs x ys

-- a check of a round adds no send
pub no_send : (tape : List Event) (state : List ℕ) (r : ℕ)
    → incarnations_sent (tape ++ Check state (Some r) ∷ []) ≡ incarnations_sent tape
no_send tape state r = filter_map-append incarnation_of tape
    (Check state (Some r) ∷ []) ∙ append-nil (incarnations_sent tape)

-- a tape, split at its check of a round
pub record IsSplit (tape before : List Event) (r : ℕ) : Type 0 where
  pub state : List ℕ
  pub after : List Event
  pub is : tape ≡ before ++ (Check state (Some r) ∷ after)
  pub front_is : front tape (AtCheck (check_index r tape)) ≡ before ++ Check state (Some r) ∷ []

pub split_at_check : (tape : List Event) (r : ℕ) → has_check_of r tape ≡ true
    → IsSplit tape (before_first (is_check_of r) tape) r
split_at_check tape r t =
    let before : List Event = before_first (is_check_of r) tape in
    let s = split_first (is_check_of r) tape t in
    let c = check_is r s.0 s.1 in
    let split : tape ≡ before ++ (Check c.0 (Some r) ∷ after_check r tape) = s.2 ∙ ap
    (λ (v : Event). before ++ (v ∷ after_check r tape)) c.1 in
    record {
      state = c.0;
      after = after_check r tape;
      is = split;
      front_is = front_of_check tape
          before (after_check r tape) c.0 r split;
    }

-- before a tape's check of a round its colour is smaller
pub colour_before : (tape before : List Event) (r : ℕ) → ColoursRise tape → IsSplit tape before r
    → colour before < r
colour_before tape before r rise s =
    let at : slice_get tape (length before)
    ≡ Some (Check s.state (Some r)) = ap (λ (v : List Event). slice_get v (length before)) s.is
    ∙ slice_get_between before (Check s.state (Some r)) s.after in
    let whole : take (length before) tape ≡ before = ap (take (length before)) s.is ∙ take_at before
    (Check s.state (Some r) ∷ s.after) (length before) refl in
    subst (λ (v : List Event). colour v < r) whole (rise (length before) s.state r at)

-- a message that is received before its receiver's check of a round has a smaller colour
pub colour_received : (history : List Process) (q : ℕ) (before : List Event) (r : ℕ) (m : MsgName)
    → AreColoured history → IsSplit (tape_at history q) before r → Contains before (Recv m)
    → message_colour history m < r
colour_received history q before r m coloured s seen =
    let tape : List Event = tape_at history q in
    let at = place_of before (Recv m) seen in
    let on_tape : slice_get tape at.0 ≡ Some (Recv m) = ap (λ (v : List Event). slice_get v at.0)
    s.is ∙ slice_get-append_left before (Check s.state (Some r) ∷ s.after) at.0 (Recv m) at.2 in
    let same : take at.0 tape ≡ take at.0 before = ap (take at.0) s.is ∙ take-append-le at.0 before
    (Check s.state (Some r) ∷ s.after) (omega (arith, at.1)) in
    let there : message_colour history m ≤ colour (take at.0 before) = subst (λ (v : List Event).
    message_colour history m ≤ colour v) same (coloured.received q at.0 m on_tape) in
    omega (arith, there, colour-take at.0 before, colour_before tape before r (coloured.rise q) s)

-- a message of a smaller colour than a round is sent before its sender's check of it
pub sent_before_check : (history : List Process) (before : List Event) (r : ℕ) (m : MsgName)
    → IsSplit (tape_at history m.from) before r → Holds (tape_at history m.from) m.inc m.number
    → message_colour history m < r → Holds before m.inc m.number
sent_before_check history before r m s held smaller =
    let tape : List Event = tape_at history m.from in
    let head : List Event = before ++ Check s.state (Some r) ∷ [] in
    let split : tape ≡ head
    ++ s.after = s.is ∙ sym (append_assoc before (Check s.state (Some r) ∷ []) s.after) in
    let incs : incarnations_sent tape ≡ incarnations_sent before ++ incarnations_sent s.after =
    ap incarnations_sent split ∙ filter_map-append incarnation_of head s.after ∙ ap
    (λ (v : List ℕ). v ++ incarnations_sent s.after) (no_send before s.state r) in
    elim (cases_lt m.number (length (incarnations_sent before))) [
      | inl within ↦ slice_get_front (incarnations_sent before) (incarnations_sent s.after) m.number
          m.inc within (ap (λ (v : List ℕ). slice_get v m.number) (sym incs) ∙ held)
      | inr later ↦
          let count : length (incarnations_sent head)
          ≡ length (incarnations_sent before) = ap length (no_send before s.state r) in
          let z = before_later_send head s.after m.number (omega (arith, later, count)) in
          let colour_is : message_colour history m ≡ colour (head ++ z.0) = ap
          (λ (v : List Event). colour_at v (send_place v m.number)) split ∙ ap colour z.1 in
          let least : r ≤ colour head = colour-last before s.state r in
          let more : colour head ≤ colour (head ++ z.0) = colour-append head z.0 in
          absurd (omega (arith, smaller, colour_is, more, least))
    ]

-- the line of a completed round of colours is consistent
pub colour_consistent : (history : List Process) (r : ℕ) → IsFitUnordered history → AreColoured
    history → is_checked history r ≡ true → IsConsistent history (round_line history r)
colour_consistent history r fit coloured done =
    IsConsistent-below history (round_line history r) (λ q lq m seen.
    let tape : List Event = tape_at history q in
    let before : List Event = before_first (is_check_of r) tape in
    let s = split_at_check tape r (checked_has history r q done lq) in
    let front_is : events_before history (round_line history r) q ≡ before ++ Check s.state (Some r)
    ∷ [] = ap (front tape) (round_choice history r q lq) ∙ s.front_is in
    let early : Contains before (Recv m) = elim (Contains-push_cases before (Check s.state (Some r))
    (Recv m) (subst (λ (es : List Event). Contains es (Recv m)) front_is seen)) [
      | inl earlier ↦ earlier
      | inr now ↦ absurd (cc)
    ] in
    let got : Contains tape (Recv m) = subst (λ (es : List Event). Contains es (Recv m)) (sym s.is)
    (Contains-append_left before (Check s.state (Some r) ∷ s.after) (Recv m) early) in
    let held : Holds (tape_at history m.from) m.inc m.number = (fit.held q m got).held in
    let lp : m.from < length history = spent_within history m (inl held) in
    let from : List Event = tape_at history m.from in
    let first : List Event = before_first (is_check_of r) from in
    let sp = split_at_check from r (checked_has history r m.from done lp) in
    let there : Holds first m.inc m.number = sent_before_check history first r m sp held
    (colour_received history q before r m coloured s early) in
    ap (λ (es : List Event). slice_get (incarnations_sent es) m.number)
    (ap (front from) (round_choice history r m.from lp) ∙ sp.front_is)
    ∙ ap (λ (v : List ℕ). slice_get v m.number) (no_send first sp.state r) ∙ there)

-- so it is a snapshot
pub colour_snapshot : (history : List Process) (r : ℕ) → IsFitUnordered history
    → AreColoured history → is_completed_unordered history r ≡ true
    → IsSnapshot history (checks_of history r) (channel_unordered history r)
colour_snapshot history r fit coloured done = record {
  line = round_is_line history r done;
  consistent = colour_consistent history r fit coloured done;
  transit = λ p q lp lq other. refl;
}

-- one event more
pub rise_push : (tape : List Event) (e : Event) → ColoursRise tape → ((state : List ℕ) (r : ℕ)
    → e ≡ Check state (Some r) → colour tape < r) → ColoursRise (tape ++ e ∷ [])
rise_push tape e rise new i state r at = elim (slice_get_push tape e (Check state (Some r)) i at) [
  | inl a ↦ subst (λ (v : List Event). colour v < r)
      (sym (take-append-le i tape (e ∷ []) (omega (arith, a.0)))) (rise i state r a.1)
  | inr b ↦ subst (λ (v : List Event). colour v < r) (sym (take_at tape (e ∷ []) i (sym b.0)))
      (new state r b.1)
]

pub next_rises : (history : List Process) (p : ℕ) (e : Event) → IsNextColoured history p e
    → (state : List ℕ) (r : ℕ) → e ≡ Check state (Some r) → colour (tape_at history p) < r
next_rises history p (Send to inc body) n state r is = absurd (cc)
next_rises history p (Recv m) n state r is = absurd (cc)
next_rises history p (Check st None) n state r is = absurd (cc)
next_rises history p (Check st (Some s)) n state r is =
    let same : s ≡ r = cc in subst (λ (v : ℕ). colour (tape_at history p) < v) same n
next_rises history p (Mark from s) n state r is = absurd (cc)

pub next_colour : (history : List Process) (p : ℕ) (e : Event) → IsNextColoured history p e
    → (m : MsgName) → e ≡ Recv m → message_colour history m ≤ colour (tape_at history p)
next_colour history p (Send to inc body) n m is = absurd (cc)
next_colour history p (Recv c) n m is = let same : c ≡ m = cc in subst
    (λ (v : MsgName). message_colour history v ≤ colour (tape_at history p)) same n
next_colour history p (Check state round) n m is = absurd (cc)
next_colour history p (Mark from round) n m is = absurd (cc)

-- by an event that may come next the rule is kept
pub coloured_event : (history : List Process) (at : ℕ) (e : Event) → IsFitUnordered history
    → AreColoured history → at < length history → IsNextUnordered history at e
    → IsNextColoured history at e → AreColoured (with_event history at e)
coloured_event history at e fit coloured h next n = record {
  rise = λ p. elim (cases_eq p at) [
    | inl same ↦ subst ColoursRise (sym (tape_same history at e p h same))
        (rise_push (tape_at history p) e (coloured.rise p)
        (subst (λ (v : ℕ). (state : List ℕ) (r : ℕ) → e ≡ Check state (Some r)
        → colour (tape_at history v) < r) (sym same) (next_rises history at e n)))
    | inr other ↦ subst ColoursRise (sym (tape_other history at e p other)) (coloured.rise p)
  ];
  received = λ q i m got. elim (cases_eq q at) [
    | inl same ↦ subst (λ (v : List Event). message_colour
        (with_event history at e) m ≤ colour_at v i) (sym (tape_same history at e q h same))
        (elim (slice_get_push (tape_at history q) e (Recv m) i (ap
        (λ (v : List Event). slice_get v i) (sym (tape_same history at e q h same)) ∙ got)) [
          | inl a ↦ subst
              (λ (v : List Event). message_colour (with_event history at e) m ≤ colour v) (sym
              (take-append-le i (tape_at history q) (e ∷ []) (omega (arith, a.0)))) (kept q i m a.1)
          | inr b ↦ subst (λ (v : List Event). message_colour (with_event history at e) m ≤ colour
              v) (sym (take_at (tape_at history q) (e ∷ []) i (sym b.0))) (new q m same b.1)
        ])
    | inr other ↦
        let tape_is = tape_other history at e q other in
        subst (λ (v : List Event). message_colour (with_event history at e) m ≤ colour_at v i)
        (sym tape_is) (kept q i m (ap (λ (v : List Event). slice_get v i) (sym tape_is) ∙ got))
  ];
}
  where
    stays : (m : MsgName) (c : ℕ) → Holds (tape_at history m.from) m.inc m.number
        → message_colour history m ≤ c → message_colour (with_event history at e) m ≤ c
    stays m c held le =
        subst (λ (v : ℕ). v ≤ c) (sym (message_colour_event history at e m h held)) le

    kept : (q i : ℕ) (m : MsgName) → slice_get (tape_at history q) i ≡ Some (Recv m)
        → message_colour (with_event history at e) m ≤ colour_at (tape_at history q) i
    kept q i m got = stays m (colour_at (tape_at history q) i) (fit.held q m
        (contains_at (tape_at history q) i (Recv m) got)).held (coloured.received q i m got)

    new : (q : ℕ) (m : MsgName) → q ≡ at → e ≡ Recv m
        → message_colour (with_event history at e) m ≤ colour (tape_at history q)
    new q m same is = stays m (colour (tape_at history q))
        (next_received history at e next m is).held (subst (λ (v : ℕ). message_colour history m ≤
        colour (tape_at history v)) (sym same) (next_colour history at e n m is))

-- a restart leaves no check of a round
pub no_round : (es : List Event) (i : ℕ) (state : List ℕ) (r : ℕ)
    → slice_get (filter_map restarted_event es) i ≡ Some (Check state (Some r)) → ⊥
no_round [] i state r e = cc
no_round (Send to inc body ∷ es) zero state r e = cc
no_round (Send to inc body ∷ es) (suc i) state r e = no_round es i state r e
no_round (Recv m ∷ es) zero state r e = cc
no_round (Recv m ∷ es) (suc i) state r e = no_round es i state r e
no_round (Check st s ∷ es) zero state r e = cc
no_round (Check st s ∷ es) (suc i) state r e = no_round es i state r e
no_round (Mark f s ∷ es) i state r e = no_round es i state r e

-- so it keeps the rule
pub coloured_restarted : (history : List Process) (line : List Choice)
    → length line ≡ length history → AreColoured (restarted_history history line)
coloured_restarted history line e = record {
  rise = λ p i state r at. absurd (no_round (events_before history line p) i state r
      (ap (λ (es : List Event). slice_get es i) (sym (tape_restarted history line p e)) ∙ at));
  received = λ q i m got. omega (
    arith,
    message_colour_below
        (restarted_history history line) m,
    colour_restarted history line m.from e,
  );
}

-- at the start it holds
pub coloured_start : (n : ℕ) → AreColoured (replicate n fresh)
coloured_start n = record {
  rise = λ p i state r at. absurd (nothing i (Check state (Some r))
      (ap (λ (es : List Event). slice_get es i) (sym (tape_start n p)) ∙ at));
  received = λ q i m got. absurd
      (nothing i (Recv m) (ap (λ (es : List Event). slice_get es i) (sym (tape_start n q)) ∙ got));
}
  where
    nothing : (i : ℕ) (e : Event) → slice_get [] i ≡ Some e → ⊥
    nothing i e is = cc
