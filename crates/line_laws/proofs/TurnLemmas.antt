-- The turns of a tape say its colour, and that of each of its messages.
use Rattle.std.proofs.Common.{◌≡◌, ℕ, zero, suc, ◌+◌, ◌<◌, ◌≤◌, Bool, true, false, cond, nat_le}
use Rattle.std.proofs.Common.{List, [], ◌∷◌, ◌++◌, length, take, get_or, All, Some, None, refl, sym}
use Rattle.std.proofs.Common.{ap, ◌∙◌, subst, arith}
use Rattle.std.specs.Prelude.{max, AllPairs}
use Rattle.std.specs.List.{filter}
use Rattle.std.proofs.Math.Nat.{le-max_left, le-max_right, max-le, max-zero, max-eq_right}
use Rattle.std.proofs.lemmas.Bool.{le-leb, lt-leb}
use Rattle.std.proofs.lemmas.List.{append-nil, map-append, length-map, length_push, get_or-map}
use Rattle.std.proofs.lemmas.List.{get_or_append_left}
use Rattle.std.proofs.lemmas.List.Elements.{filter-append, All-nil, All-cons, All-head, All-tail}
use Rattle.std.proofs.lemmas.List.Elements.{All-weaker, All-from_get_or}
use Rattle.std.proofs.lemmas.List.Kept.{AllPairs-cons}
use Rattle.std.proofs.lemmas.Option.{slice_get_within}
use Rattle.line_names.specs.declared.choices.Choice.{Choice}
use Rattle.line_names.specs.declared.messages.MsgName.{MsgName}
use Rattle.line_tape.specs.declared.events.Event.{Event}
use Rattle.line_tape.specs.declared.events.Event.TheVariants.{Send, Recv, Check, Mark}
use Rattle.line_tape.specs.Colours.{greatest, colour, colour_at, send_place, message_colour}
use Rattle.line_tape.specs.Event.{incarnations_sent, sends, Holds}
use Rattle.line_tape.specs.History.{Process, tape_at}
use Rattle.line_tape.specs.Line.{events_before}
use Rattle.line_tape.specs.Restart.{restarted_history, restarted_event}
use Rattle.line_tape.specs.Rounds.{checked_round, rounds_checked}
use Rattle.line_tape.specs.Turns.{Turn, turns_from, turns_of, rounds_of, colour_by}
use Rattle.line_laws.proofs.ColourLemmas.{greatest-push}
use Rattle.line_tape.proofs.StayLemmas.{tape_restarted}
use Rattle.std.specs.List.{filter_map}

-- the turn has no more sends before it than that
abbrev is_by : ℕ → Turn → Bool
is_by number turn = nat_le turn.sends number

-- the rounds of the turns are those of the tape's checks
pub rounds_of_turns : (count : ℕ) (es : List Event)
    → rounds_of (turns_from count es) ≡ rounds_checked es
rounds_of_turns count [] = refl
rounds_of_turns count (Send to inc body ∷ es) = rounds_of_turns (suc count) es
rounds_of_turns count (Recv m ∷ es) = rounds_of_turns count es
rounds_of_turns count (Check state None ∷ es) = rounds_of_turns count es
rounds_of_turns count (Check state (Some r) ∷ es) =
    ap (λ (rs : List ℕ). r ∷ rs) (rounds_of_turns count es)
rounds_of_turns count (Mark from r ∷ es) = rounds_of_turns count es

-- so the greatest of them is its colour
pub colour_of_turns : (tape : List Event) → greatest (rounds_of (turns_of tape)) ≡ colour tape
colour_of_turns tape = ap greatest (rounds_of_turns 0 tape)

-- the turns after one more event
pub turns_grow : (count : ℕ) (es : List Event) (e : Event) → turns_from count (es ++ e ∷ [])
    ≡ turns_from count es ++ turns_from (count + sends es) (e ∷ [])
turns_grow count [] e = ap (λ n. turns_from n (e ∷ [])) (omega arith)
turns_grow count (Send to inc body ∷ es) e = turns_grow (suc count) es e ∙ ap
    (λ n. turns_from (suc count) es ++ turns_from n (e ∷ [])) (omega arith)
turns_grow count (Recv m ∷ es) e = turns_grow count es e
turns_grow count (Check state None ∷ es) e = turns_grow count es e
turns_grow count (Check state (Some r) ∷ es) e =
    ap (λ (ts : List Turn). record { round = r; sends = count } ∷ ts) (turns_grow count es e)
turns_grow count (Mark from r ∷ es) e = turns_grow count es e

no_turn : (count : ℕ) (e : Event) → checked_round e ≡ None → turns_from count (e ∷ []) ≡ []
no_turn count (Send to inc body) none = refl
no_turn count (Recv m) none = refl
no_turn count (Check state None) none = refl
no_turn count (Check state (Some r)) none = absurd (cc)
no_turn count (Mark from r) none = refl

-- the same, where it is no check of a round
pub turns_idle : (tape : List Event) (e : Event) → checked_round e ≡ None
    → turns_of (tape ++ e ∷ []) ≡ turns_of tape
turns_idle tape e none = turns_grow 0 tape e ∙ ap (λ (ts : List Turn). turns_of tape ++ ts)
    (no_turn (0 + sends tape) e none) ∙ append-nil (turns_of tape)

-- and one more, where it is
pub turns_push : (tape : List Event) (state : List ℕ) (r : ℕ) → turns_of (tape
    ++ Check state (Some r) ∷ []) ≡ turns_of tape ++ record { round = r; sends = sends tape } ∷ []
turns_push tape state r = turns_grow 0 tape (Check state (Some r)) ∙ ap
    (λ n. turns_of tape ++ record { round = r; sends = n } ∷ []) (omega arith)

-- a restart leaves none
no_turns : (count : ℕ) (es : List Event) → turns_from count (filter_map restarted_event es) ≡ []
no_turns count [] = refl
no_turns count (Send to inc body ∷ es) = no_turns (suc count) es
no_turns count (Recv m ∷ es) = no_turns count es
no_turns count (Check state r ∷ es) = no_turns count es
no_turns count (Mark from r ∷ es) = no_turns count es

pub turns_restarted : (history : List Process) (line : List Choice) (p : ℕ)
    → length line ≡ length history → turns_of (tape_at (restarted_history history line) p) ≡ []
turns_restarted history line p e =
    ap turns_of (tape_restarted history line p e) ∙ no_turns 0 (events_before history line p)

-- turns that come later have more sends before them
later_turns : (count number : ℕ) (es : List Event) → number < count
    → filter (is_by number) (turns_from count es) ≡ []
later_turns count number [] h = refl
later_turns count number (Send to inc body ∷ es) h = later_turns (suc count) number es (omega arith)
later_turns count number (Recv m ∷ es) h = later_turns count number es h
later_turns count number (Check state None ∷ es) h = later_turns count number es h
later_turns count number (Check state (Some r) ∷ es) h =
    let turn : Turn = record { round = r; sends = count } in
    let rest : List Turn = filter (is_by number) (turns_from count es) in
    ap (λ b. cond b (turn ∷ rest) rest) (lt-leb count number h) ∙ later_turns count number es h
later_turns count number (Mark from r ∷ es) h = later_turns count number es h

-- the colour at a send, by the turns
sent_colour : (count number : ℕ) (es : List Event) → number < sends es
    → colour (take (send_place es number) es) ≡ colour_by (turns_from count es) (count + number)
sent_colour count number [] h = absurd (omega arith)
sent_colour count zero (Send to inc body ∷ es) h = sym (ap (λ (ts : List Turn). greatest
    (rounds_of ts)) (later_turns (suc count) (count + 0) es (omega arith)))
sent_colour count (suc number) (Send to inc body ∷ es) h = sent_colour (suc count) number es
    (omega arith) ∙ ap (colour_by (turns_from (suc count) es)) (omega arith)
sent_colour count number (Recv m ∷ es) h = sent_colour count number es h
sent_colour count number (Check state None ∷ es) h = sent_colour count number es h
sent_colour count number (Check state (Some r) ∷ es) h =
    let turn : Turn = record { round = r; sends = count } in
    let rest : List Turn = filter (is_by (count + number)) (turns_from count es) in
    ap (max r) (sent_colour count number es h) ∙ ap (λ b. greatest
    (rounds_of (cond b (turn ∷ rest) rest))) (sym (le-leb count (count + number) (omega arith)))
sent_colour count number (Mark from r ∷ es) h = sent_colour count number es h

-- the colour of a send that the tape holds
pub colour_of_send : (tape : List Event) (inc number : ℕ) → Holds tape inc number
    → colour_at tape (send_place tape number) ≡ colour_by (turns_of tape) number
colour_of_send tape inc number held = sent_colour 0 number tape (slice_get_within
    (incarnations_sent tape) number inc held) ∙ ap (colour_by (turns_of tape)) (omega arith)

pub colour_of_message : (history : List Process) (m : MsgName)
    → Holds (tape_at history m.from) m.inc m.number
    → message_colour history m ≡ colour_by (turns_of (tape_at history m.from)) m.number
colour_of_message history m held = colour_of_send (tape_at history m.from) m.inc m.number held

-- the turns come with no fewer and no fewer sends
turns_later : (count : ℕ) (es : List Event)
    → All (λ (turn : Turn). count ≤ turn.sends) (turns_from count es)
turns_later count [] = All-nil (λ (turn : Turn). count ≤ turn.sends)
turns_later count (Send to inc body ∷ es) = All-weaker (λ (turn : Turn). suc count ≤ turn.sends)
    (λ (turn : Turn). count ≤ turn.sends) (λ turn least. omega (arith, least))
    (turns_from (suc count) es) (turns_later (suc count) es)
turns_later count (Recv m ∷ es) = turns_later count es
turns_later count (Check state None ∷ es) = turns_later count es
turns_later count (Check state (Some r) ∷ es) = All-cons (λ (turn : Turn). count ≤ turn.sends)
    (record { round = r; sends = count }) (turns_from count es) (omega arith) (turns_later count es)
turns_later count (Mark from r ∷ es) = turns_later count es

sends_rise : (count : ℕ) (es : List Event)
    → AllPairs (λ (s t : Turn). s.sends ≤ t.sends) (turns_from count es)
sends_rise count [] = λ i j d l within. absurd (omega arith)
sends_rise count (Send to inc body ∷ es) = sends_rise (suc count) es
sends_rise count (Recv m ∷ es) = sends_rise count es
sends_rise count (Check state None ∷ es) = sends_rise count es
sends_rise count (Check state (Some r) ∷ es) =
    AllPairs-cons (λ (s t : Turn). s.sends ≤ t.sends) (record { round = r; sends = count })
    (turns_from count es) (turns_later count es) (sends_rise count es)
sends_rise count (Mark from r ∷ es) = sends_rise count es

pub turn_sends_rise : (tape : List Event)
    → AllPairs (λ (s t : Turn). s.sends ≤ t.sends) (turns_of tape)
turn_sends_rise tape = sends_rise 0 tape

-- and with greater and greater rounds, where those of the checks rise
pub turn_rounds_rise : (tape : List Event) → AllPairs (λ (r s : ℕ). r < s) (rounds_checked tape)
    → AllPairs (λ (s t : Turn). s.round < t.round) (turns_of tape)
turn_rounds_rise tape rise i j d l within =
    let turns : List Turn = turns_of tape in
    let rounds : List ℕ = rounds_of turns in
    let long : length rounds ≡ length turns = length-map turns (λ (turn : Turn). turn.round) in
    let ours : AllPairs (λ (r s : ℕ). r < s) rounds = subst
    (λ (rs : List ℕ). AllPairs (λ (r s : ℕ). r < s) rs) (sym (rounds_of_turns 0 tape)) rise in
    let less : get_or rounds i 0 < get_or rounds j 0 = ours i j 0 l (omega (arith, within, long)) in
    omega (
      arith,
      less,
      get_or-map (λ (turn : Turn). turn.round) turns i d 0
          (omega arith),
      get_or-map (λ (turn : Turn). turn.round) turns j d 0 within,
    )

none_by : (number : ℕ) (turns : List Turn) → All (λ (turn : Turn). number < turn.sends) turns
    → filter (is_by number) turns ≡ []
none_by number [] later = refl
none_by number (turn ∷ turns) later =
    let rest : List Turn = filter (is_by number) turns in
    ap (λ b. cond b (turn ∷ rest) rest)
    (lt-leb turn.sends number (All-head (λ (t : Turn). number < t.sends) turn turns later)) ∙
    none_by number turns (All-tail (λ (t : Turn). number < t.sends) turn turns later)

-- no turn has so few sends before it
pub colour_before_turns : (turns : List Turn) (number : ℕ)
    → All (λ (turn : Turn). number < turn.sends) turns → colour_by turns number ≡ 0
colour_before_turns turns number later =
    ap (λ (ts : List Turn). greatest (rounds_of ts)) (none_by number turns later)

-- one is the last that has
pub colour_at_turn : (turns : List Turn) (i number : ℕ) (d : Turn) → i < length turns → AllPairs
    (λ (s t : Turn). s.round < t.round) turns → AllPairs (λ (s t : Turn). s.sends ≤ t.sends) turns
    → (get_or turns i d).sends ≤ number → ((j : ℕ) → i < j → j < length turns
    → number < (get_or turns j d).sends) → colour_by turns number ≡ (get_or turns i d).round
colour_at_turn [] i number d within rounds sends by later = absurd (omega arith)
colour_at_turn (turn ∷ turns) zero number d within rounds sends by later =
    let rest : List Turn = filter (is_by number) turns in
    let none : rest ≡ [] = none_by number turns (All-from_get_or (λ (t : Turn). number < t.sends)
    turns d (λ j l. later (suc j) (omega arith) (omega (arith, l)))) in
    ap (λ b. greatest (rounds_of (cond b (turn ∷ rest) rest))) (le-leb turn.sends number by) ∙ ap
    (λ (ts : List Turn). greatest (rounds_of (turn ∷ ts))) none ∙ max-zero turn.round
colour_at_turn (turn ∷ turns) (suc i) number d within rounds sends by later =
    let rest : List Turn = filter (is_by number) turns in
    let before : turn.sends ≤ (get_or turns i d).sends = sends zero (suc i) d
    (omega arith) within in
    let less : turn.round < (get_or turns i d).round = rounds zero (suc i) d (omega arith) within in
    let ih : colour_by turns number
    ≡ (get_or turns i d).round = colour_at_turn turns i number d (omega arith)
    (λ k j e l w. rounds (suc k) (suc j) e (omega (arith, l)) (omega (arith, w)))
    (λ k j e l w. sends (suc k) (suc j) e (omega (arith, l)) (omega (arith, w)))
    by (λ j l w. later (suc j) (omega (arith, l)) (omega (arith, w))) in
    ap (λ b. greatest (rounds_of (cond b (turn ∷ rest) rest))) (le-leb turn.sends number
    (omega (arith, before))) ∙ ap (max turn.round) ih ∙ max-eq_right (omega (arith, less))

-- the rounds of the turns that are early enough are no greater than all of them
some_rounds : (number : ℕ) (turns : List Turn) → colour_by turns number ≤ greatest (rounds_of turns)
some_rounds number [] = omega arith
some_rounds number (turn ∷ turns) =
    let rest : List Turn = filter (is_by number) turns in
    let ih : greatest (rounds_of rest) ≤ greatest (rounds_of turns) = some_rounds number turns in
    elim (is_by number turn) as (λ b. greatest
    (rounds_of (cond b (turn ∷ rest) rest)) ≤ max turn.round (greatest (rounds_of turns))) [
      | true ↦ max-le (le-max_left turn.round (greatest (rounds_of turns)))
          (omega (arith, ih, le-max_right turn.round (greatest (rounds_of turns))))
      | false ↦ omega (arith, ih, le-max_right turn.round (greatest (rounds_of turns)))
    ]

-- one more turn, of a round that is no smaller
pub colour_by_push : (turns : List Turn) (turn : Turn) (number : ℕ)
    → greatest (rounds_of turns) ≤ turn.round → colour_by (turns ++ turn ∷ []) number
    ≡ cond (nat_le turn.sends number) turn.round (colour_by turns number)
colour_by_push turns turn number most =
    let rest : List Turn = filter (is_by number) turns in
    ap (λ (ts : List Turn). greatest (rounds_of ts))
    (filter-append (is_by number) turns (turn ∷ []))
    ∙ elim (is_by number turn) as (λ b. greatest (rounds_of (rest ++ cond b (turn ∷ []) []))
    ≡ cond b turn.round (colour_by turns number)) [
      | true ↦ ap greatest (map-append (λ (t : Turn). t.round) rest (turn ∷ [])) ∙ greatest-push
          (rounds_of rest) turn.round (omega (arith, some_rounds number turns, most))
      | false ↦ ap (λ (ts : List Turn). greatest (rounds_of ts)) (append-nil rest)
    ]

-- and it is then the greatest
pub greatest_turn_last : (turns : List Turn) (turn : Turn) → greatest (rounds_of turns) ≤ turn.round
    → greatest (rounds_of (turns ++ turn ∷ [])) ≡ turn.round
greatest_turn_last turns turn most = ap greatest (map-append (λ (t : Turn). t.round) turns
    (turn ∷ [])) ∙ greatest-push (rounds_of turns) turn.round most

-- as where they rise
pub greatest_is_last : (turns : List Turn) (turn : Turn) → AllPairs (λ (s t : Turn). s.round <
    t.round) (turns ++ turn ∷ []) → greatest (rounds_of (turns ++ turn ∷ [])) ≡ turn.round
greatest_is_last turns turn rise = greatest_turn_last turns turn (all_below turns (λ k l.
    let less : (get_or (turns ++ turn ∷ []) k turn).round < (get_or (turns ++ turn ∷ []) (length
    turns) turn).round = rise k (length turns) turn l (omega (arith, length_push turns turn)) in
    omega (
      arith,
      less,
      ap (λ (t : Turn). t.round) (get_or_append_left turns (turn ∷ []) turn k l),
      ap (λ (t : Turn). t.round) (get_or_last turns turn),
    )))
  where
    all_below : (ts : List Turn) → ((k : ℕ) → k < length ts → (get_or ts k turn).round < turn.round)
        → greatest (rounds_of ts) ≤ turn.round
    all_below [] h = omega arith
    all_below (t ∷ ts) h = max-le (omega (arith, h zero (omega arith)))
        (all_below ts (λ k l. h (suc k) (omega (arith, l))))

    get_or_last : (ts : List Turn) (t : Turn) → get_or (ts ++ t ∷ []) (length ts) turn ≡ t
    get_or_last [] t = refl
    get_or_last (s ∷ ts) t = get_or_last ts t
