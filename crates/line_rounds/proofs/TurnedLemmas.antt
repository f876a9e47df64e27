-- What is kept of colours follows the tapes by each event and by a restart, and says the colour of
-- each message.
use Rattle.std.proofs.Common.{◌≡◌, ℕ, ◌+◌, ◌<◌, ◌≤◌, true, false, leb, List, [], ◌∷◌, ◌++◌, length}
use Rattle.std.proofs.Common.{get_or, set, replicate, Some, None, refl, sym, ap, ◌∙◌, subst, arith}
use Rattle.std.proofs.Common.{inl, inr}
use Rattle.std.specs.Prelude.{slice_get, AllPairs}
use Rattle.std.specs.List.Sorted.{IsNonDecreasingBy, IsPartitionPoint}
use Rattle.std.proofs.lemmas.List.Elements.{All-from_get_or}
use Rattle.std.proofs.lemmas.Bool.{cases_eq, cases_lt, leb-false, leb-true}
use Rattle.std.proofs.lemmas.Option.{get_or_from_slice_get, slice_get_within}
use Rattle.std.proofs.lemmas.List.{length-set, length-replicate, get_or-replicate, get_or-set_same}
use Rattle.std.proofs.lemmas.List.{get_or-set_other}
use Rattle.line_names.specs.declared.choices.Choice.{Choice}
use Rattle.line_names.specs.declared.messages.MsgName.{MsgName}
use Rattle.line_tape.specs.declared.events.Event.{Event}
use Rattle.line_tape.specs.declared.events.Event.TheVariants.{Check}
use Rattle.line_tape.specs.Colours.{colour, message_colour, AreColoured}
use Rattle.line_tape.specs.Event.{sends, Holds}
use Rattle.line_tape.specs.History.{Process, fresh, tape_at, with_event}
use Rattle.line_tape.specs.Restart.{restarted_history}
use Rattle.line_tape.specs.Rounds.{checked_round}
use Rattle.line_tape.specs.Turns.{Turn, turns_of, colour_by}
use Rattle.line_laws.proofs.ColourLemmas.{colour-check, colour-other, colour_restarted}
use Rattle.line_laws.proofs.ColourLemmas.{rounds_ascend}
use Rattle.line_tape.proofs.EventLemmas.{tape_same, tape_other}
use Rattle.line_tape.proofs.StayLemmas.{length_restarted}
use Rattle.line_laws.proofs.TurnLemmas.{turns_idle, turns_push, turns_restarted, colour_of_message}
use Rattle.line_laws.proofs.TurnLemmas.{turn_rounds_rise, turn_sends_rise, colour_before_turns}
use Rattle.line_laws.proofs.TurnLemmas.{colour_at_turn}
use Rattle.line_rounds.specs.Kept.{ProcessTurns, no_turns, turns_at, IsTurned, AreTurned}

-- processes that have done nothing yet
pub AreTurned-fresh : (n : ℕ) → AreTurned (replicate n fresh) (replicate n no_turns)
AreTurned-fresh n = record {
  count = length-replicate n no_turns ∙ sym (length-replicate n fresh);
  each = λ q q_within.
      let within : q < n = omega (arith, q_within, length-replicate n fresh) in
      let tape : tape_at (replicate n fresh) q
      ≡ [] = ap (λ (v : Process). v.tape) (get_or-replicate n q fresh fresh within) in
      let none : turns_at (replicate n no_turns) q
      ≡ no_turns = get_or-replicate n q no_turns no_turns within in
      record {
        colour_is = ap (λ (v : ProcessTurns). v.colour) none ∙ ap colour (sym tape);
        turns_are = ap (λ (v : ProcessTurns). v.turns) none ∙ ap turns_of (sym tape);
      };
}

-- an event that is no check of a round
pub IsTurned-kept : (tape : List Event) (event : Event) (turned : ProcessTurns)
    → checked_round event ≡ None → IsTurned tape turned → IsTurned (tape ++ event ∷ []) turned
IsTurned-kept tape event turned none is = record {
  colour_is = is.colour_is ∙ sym (colour-other tape event none);
  turns_are = is.turns_are ∙ sym (turns_idle tape event none);
}

-- a check of a greater round
pub IsTurned-check : (tape : List Event) (state : List ℕ) (round count : ℕ) (turned : ProcessTurns)
    → turned.colour < round → count ≡ sends tape → IsTurned tape turned
    → IsTurned (tape ++ Check state (Some round) ∷ []) (record
    { colour = round; turns = turned.turns ++ record { round = round; sends = count } ∷ [] })
IsTurned-check tape state round count turned greater count_is is = record {
  colour_is = sym (colour-check tape state round (omega (arith, greater, is.colour_is)));
  turns_are = ap (λ (n : ℕ). turned.turns ++ record { round = round; sends = n } ∷ []) count_is
      ∙ ap (λ (ts : List Turn). ts ++ record { round = round; sends = sends tape } ∷ [])
      is.turns_are
      ∙ sym (turns_push tape state round);
}

-- an event that is no check of a round changes nothing of what is kept
pub AreTurned-kept : (history : List Process) (at : ℕ) (event : Event) (colours : List ProcessTurns)
    → at < length history → checked_round event ≡ None → AreTurned history colours
    → AreTurned (with_event history at event) colours
AreTurned-kept history at event colours within none are =
    let same_length : length (with_event history at event)
    ≡ length history = length-set history at _ in
    record {
      count = are.count ∙ sym same_length;
      each = λ q q_within.
          let q_before : q < length history = omega (arith, q_within, same_length) in
          elim (cases_eq q at) [
            | inl same ↦ subst (λ (t : List Event). IsTurned t (turns_at colours q))
                (sym (tape_same history at event q within same)) (IsTurned-kept
                (tape_at history q) event (turns_at colours q) none (are.each q q_before))
            | inr other ↦ subst (λ (t : List Event). IsTurned t (turns_at colours q))
                (sym (tape_other history at event q other)) (are.each q q_before)
          ];
    }

-- a process takes its check of a round
pub AreTurned-check : (history : List Process) (p : ℕ) (state : List ℕ) (round count : ℕ)
    (colours : List ProcessTurns) → p < length colours → (turns_at colours p).colour < round
    → AreTurned history colours
    → count ≡ sends (tape_at history p)
    → AreTurned (with_event history p (Check state (Some round)))
    (set colours p (record {
      colour = round;
      turns = (turns_at colours p).turns
          ++ record { round = round; sends = count } ∷ [];
    }))
AreTurned-check history p state round count colours within greater are count_is =
    let event : Event = Check state (Some round) in
    let turned : ProcessTurns = record {
      colour = round;
      turns = (turns_at colours p).turns
          ++ record { round = round; sends = count } ∷ [];
    } in
    let p_within : p < length history = omega (arith, within, are.count) in
    let same_length : length (with_event history p event)
    ≡ length history = length-set history p _ in
    let here : IsTurned (tape_at history p ++ event ∷ []) turned = IsTurned-check (tape_at history
    p) state round count (turns_at colours p) greater count_is (are.each p p_within) in
    record {
      count = length-set colours p turned ∙ are.count ∙ sym same_length;
      each = λ q q_within. elim (cases_eq q p) [
        | inl same ↦ subst (λ (v : ℕ). IsTurned (tape_at (with_event history p event) v)
            (turns_at (set colours p turned) v)) (sym same)
            (subst (λ (t : List Event). IsTurned t (turns_at (set colours p turned) p))
            (sym (tape_same history p event p p_within refl))
            (subst (IsTurned (tape_at history p ++ event ∷ []))
            (sym (get_or-set_same colours p turned no_turns within)) here))
        | inr other ↦ subst (λ (t : List Event). IsTurned t (turns_at (set colours p turned) q))
            (sym (tape_other history p event q other))
            (subst (IsTurned (tape_at history q)) (sym (get_or-set_other colours p q turned no_turns
            other)) (are.each q (omega (arith, q_within, same_length))))
      ];
    }

-- after a restart no check has a round
pub AreTurned-restarted : (history : List Process) (line : List Choice)
    (colours new : List ProcessTurns) → length line ≡ length history → AreTurned history colours
    → length new ≡ length colours
    → ((q : ℕ) → q < length new → turns_at new q ≡ no_turns)
    → AreTurned (restarted_history history line) new
AreTurned-restarted history line colours new length_is are count none =
    let same_length : length (restarted_history history line)
    ≡ length history = length_restarted history line length_is in
    record {
      count = count ∙ are.count ∙ sym same_length;
      each = λ q q_within.
          let here : turns_at new q
          ≡ no_turns = none q (omega (arith, q_within, same_length, are.count, count)) in
          record {
            colour_is = ap (λ (v : ProcessTurns). v.colour) here ∙ sym
                (colour_restarted history line q length_is);
            turns_are = ap (λ (v : ProcessTurns). v.turns) here ∙ sym
                (turns_restarted history line q length_is);
          };
    }

-- the colour of a message, as the turns of its sender have it
pub message_colour_is : (history : List Process) (colours : List ProcessTurns) (m : MsgName)
    (sender : ProcessTurns) (r : ℕ) → AreTurned history colours → AreColoured history
    → Holds (tape_at history m.from) m.inc m.number
    → m.from < length colours → sender ≡ turns_at colours m.from
    → (AllPairs (λ (s t : Turn). s.round < t.round) sender.turns
    → AllPairs (λ (s t : Turn). s.sends ≤ t.sends) sender.turns
    → r ≡ colour_by sender.turns m.number) → r ≡ message_colour history m
message_colour_is history colours m sender r are coloured held within sender_is found =
    let tape : List Event = tape_at history m.from in
    let turns : sender.turns ≡ turns_of tape = ap (λ (v : ProcessTurns). v.turns) sender_is ∙
    (are.each m.from (omega (arith, within, are.count))).turns_are in
    found (subst (λ (ts : List Turn). AllPairs (λ (s t : Turn). s.round < t.round) ts) (sym turns)
    (turn_rounds_rise tape (rounds_ascend tape (coloured.rise m.from))))
    (subst (λ (ts : List Turn). AllPairs (λ (s t : Turn). s.sends ≤ t.sends) ts) (sym turns)
    (turn_sends_rise tape))
    ∙ ap (λ (ts : List Turn). colour_by ts m.number) turns
    ∙ sym (colour_of_message history m held)

-- turns that come with no fewer and no fewer sends are in order by them
pub sends_in_order : (turns : List Turn) → AllPairs (λ (s t : Turn). s.sends ≤ t.sends) turns
    → IsNonDecreasingBy (λ (t : Turn). t.sends) turns
sends_in_order turns rise i j d l within = elim (cases_lt i j) [
  | inl below ↦ rise i j d below within
  | inr above ↦ let same : i ≡ j =
      omega (arith, l, above) in omega (arith, ap (λ (k : ℕ). (get_or turns k d).sends) same)
]

-- no turn has so few sends before it
pub no_turn_by : (turns : List Turn) (number count : ℕ)
    → IsPartitionPoint (λ (t : Turn). leb t.sends number ≡ true)
    (λ (t : Turn). leb t.sends number ≡ false) turns count → count ≡ 0 → 0 ≡ colour_by turns number
no_turn_by turns number count point first =
    let none : Turn = record { round = 0; sends = 0 } in
    sym (colour_before_turns turns number
    (All-from_get_or (λ (t : Turn). number < t.sends) turns none (λ j l. leb-false
    (get_or turns j none).sends number (point.1 j none (omega (arith, first)) l))))

-- the last that has
pub last_turn_by : (turns : List Turn) (number count i : ℕ) (turn : Turn) → AllPairs
    (λ (s t : Turn). s.round < t.round) turns → AllPairs (λ (s t : Turn). s.sends ≤ t.sends) turns
    → IsPartitionPoint (λ (t : Turn). leb t.sends number ≡ true) (λ (t : Turn). leb t.sends number
    ≡ false) turns count → i + 1 ≡ count → i < length turns → turn ≡ get_or turns i turn
    → turn.round ≡ colour_by turns number
last_turn_by turns number count i turn rounds rise point next within is =
    ap (λ (t : Turn). t.round) is
    ∙ sym (colour_at_turn turns i number turn within rounds rise (leb-true
    (get_or turns i turn).sends number (point.0 i turn (omega arith) (omega (arith, next))))
    (λ j above l. leb-false (get_or turns j turn).sends number
    (point.1 j turn (omega (arith, next, above)) l)))

-- the newest of all turns, if it has
pub newest_turn_by : (turns : List Turn) (number i : ℕ) (turn : Turn)
    → AllPairs (λ (s t : Turn). s.round < t.round) turns
    → AllPairs (λ (s t : Turn). s.sends ≤ t.sends) turns → slice_get turns i ≡ Some turn
    → length turns ≤ i + 1 → turn.sends ≤ number → turn.round ≡ colour_by turns number
newest_turn_by turns number i turn rounds rise at last by =
    let here : i < length turns = slice_get_within turns i turn at in
    let is : get_or turns i turn ≡ turn = get_or_from_slice_get turns i turn turn at in
    sym (colour_at_turn turns i number turn here rounds rise
    (omega (arith, by, ap (λ (t : Turn). t.sends) is))
    (λ j above within. absurd (omega (arith, above, within, last)))
    ∙ ap (λ (t : Turn). t.round) is)
