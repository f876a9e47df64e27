-- Who follows a right answer has what a restart at its line leaves.
use Rattle.std.proofs.Common.{◌≡◌, ℕ, zero, suc, ◌+◌, ◌<◌, ◌≤◌, Bool, true, false, cond, List, []}
use Rattle.std.proofs.Common.{◌∷◌, ◌++◌, length, get_or, take, drop, map, Some, refl, sym, ap, ◌∙◌}
use Rattle.std.proofs.Common.{subst, arith, All}
use Rattle.std.specs.Prelude.{filter}
use Rattle.std.specs.List.{flat_map, filter_map, range_with_len, slice_get}
use Rattle.std.proofs.lemmas.List.{take-append-drop, get_or_append_left}
use Rattle.std.proofs.lemmas.List.Elements.{All-nil, All-cons, All-filter, filter_map-append}
use Rattle.std.proofs.lemmas.List.FromFn.{fill_by_all}
use Rattle.std.proofs.lemmas.Option.{slice_get_within, get_or_from_slice_get, same_Some}
use Rattle.line_laws.proofs.LetterLemmas.{drop_next, All-flat_map}
use Rattle.line_names.specs.declared.choices.Choice.{Choice}
use Rattle.line_names.specs.declared.messages.MsgName.{MsgName}
use Rattle.line_names.specs.Lines.{choice_at}
use Rattle.line_tape.specs.declared.events.Event.{Event}
use Rattle.line_tape.specs.declared.events.Event.TheVariants.{Send, Recv, Check, Mark}
use Rattle.line_tape.specs.Event.{checks, state_of, stored_state}
use Rattle.line_tape.specs.Front.{check_place, place, front, HasChoice}
use Rattle.line_tape.specs.History.{Process, tape_at, incarnation_at}
use Rattle.line_tape.specs.Line.{events_before}
use Rattle.line_tape.specs.Restart.{restarted_event, restarted_history, restarted_incarnation}
use Rattle.line_tape.specs.Transit.{Letter, letters, is_open_letter, open_letters, in_transit}
use Rattle.line_tape.specs.Views.{MarksView}
use Rattle.line_tape.proofs.RowLemmas.{checks_front}
use Rattle.line_tape.proofs.StayLemmas.{tape_restarted, length_restarted}
use Rattle.line_check.specs.declared.answers.Replay.{Replay}
use Rattle.line_check.specs.declared.answers.Start.{Start}
use Rattle.line_check.specs.Answers.{WholeAnswer, IsRightAnswer, messages_sent, is_unreceived}
use Rattle.line_check.specs.Answers.{replays_of, replays_due, start_due, starts_due, state_at}
use Rattle.line_check.specs.Followed.{LeavesARestart}
use Rattle.line_check.proofs.StartLemmas.{many-starts, start-due}

-- ---- incarnations

restarted_at : (history : List Process) (line : List Choice) (p : ℕ) → length line ≡ length history
    → p < length history
    → incarnation_at (restarted_history history line) p
    ≡ restarted_incarnation (choice_at line p) (incarnation_at history p)
restarted_at [] line p e within = absurd (omega arith)
restarted_at (process ∷ rest) [] p e within = absurd (omega arith)
restarted_at (process ∷ rest) (choice ∷ line) zero e within = refl
restarted_at (process ∷ rest) (choice ∷ line) (suc p) e within =
    restarted_at rest line p (omega arith) (omega arith)

mapped : {A B C : Type 0} (g : B → C) (f : A → B) (xs : List A)
    → map g (map f xs) ≡ map (λ x. g (f x)) xs
mapped g f [] = refl
mapped {A} {B} {C} g f (x ∷ xs) = ap (λ (ys : List C). g (f x) ∷ ys) (mapped g f xs)

mapped-at : {A B : Type 0} (g : A → B) (xs : List A) (k : ℕ) (d : A)
    → get_or (map g xs) k (g d) ≡ g (get_or xs k d)
mapped-at g [] k d = refl
mapped-at g (x ∷ xs) zero d = refl
mapped-at g (x ∷ xs) (suc k) d = mapped-at g xs k d

mapped-long : {A B : Type 0} (g : A → B) (xs : List A) → length (map g xs) ≡ length xs
mapped-long g [] = refl
mapped-long g (x ∷ xs) = ap suc (mapped-long g xs)

incarnations_restarted : (history : List Process) (line : List Choice)
    → length line ≡ length history
    → map (λ (start : Start). start.inc) (starts_due history line)
    ≡ map (λ (process : Process). process.incarnation) (restarted_history history line)
incarnations_restarted history line e =
    let inc : Process → ℕ = λ process. process.incarnation in
    let after : List Process = restarted_history history line in
    let f : ℕ → ℕ = λ p. restarted_incarnation (choice_at line p) (incarnation_at history p) in
    let long : length (map inc after)
    ≡ length history = mapped-long inc after ∙ length_restarted history line e in
    mapped (λ (start : Start). start.inc) (start_due history line)
    (range_with_len 0 (length history))
    ∙ sym (fill_by_all f (map inc after) (length history) 0 long (λ p within. mapped-at inc after p
    (record { incarnation = 0; tape = [] }) ∙ restarted_at history line p e within))

-- ---- states

checks_left : (es : List Event) → checks (filter_map restarted_event es) ≡ checks es
checks_left [] = refl
checks_left (Send to inc body ∷ es) = checks_left es
checks_left (Recv message ∷ es) = checks_left es
checks_left (Check state round ∷ es) = ap suc (checks_left es)
checks_left (Mark from round ∷ es) = checks_left es

states_left : (es : List Event)
    → filter_map state_of (filter_map restarted_event es) ≡ filter_map state_of es
states_left [] = refl
states_left (Send to inc body ∷ es) = states_left es
states_left (Recv message ∷ es) = states_left es
states_left (Check state round ∷ es) = ap (λ (ss : List (List ℕ)). state ∷ ss) (states_left es)
states_left (Mark from round ∷ es) = states_left es

states_many : (es : List Event) → length (filter_map state_of es) ≡ checks es
states_many [] = refl
states_many (Send to inc body ∷ es) = states_many es
states_many (Recv message ∷ es) = states_many es
states_many (Check state round ∷ es) = ap suc (states_many es)
states_many (Mark from round ∷ es) = states_many es

stored_left : (es : List Event) (c : ℕ)
    → stored_state (filter_map restarted_event es) c ≡ stored_state es c
stored_left es zero = refl
stored_left es (suc c) = ap (λ (ss : List (List ℕ)). get_or ss c []) (states_left es)

stored_front : (tape : List Event) (c : ℕ) → c ≤ checks tape
    → stored_state (take (check_place tape c) tape) c ≡ stored_state tape c
stored_front tape zero there = refl
stored_front tape (suc c) there =
    let n : ℕ = check_place tape (suc c) in
    let parts : filter_map state_of tape
    ≡ filter_map state_of (take n tape)
    ++ filter_map state_of (drop n tape) = ap (filter_map state_of)
    (sym (take-append-drop n tape)) ∙ filter_map-append state_of (take n tape) (drop n tape) in
    let within : c < length (filter_map state_of (take n tape)) = omega
    (arith, states_many (take n tape), checks_front tape (suc c) there) in
    sym (ap (λ (ss : List (List ℕ)). get_or ss c []) parts ∙ get_or_append_left
    (filter_map state_of (take n tape)) (filter_map state_of (drop n tape)) [] c within)

-- ---- messages

module _ (history : List Process) (line : List Choice) where
  names_of : (p number place : ℕ) (es : List Event)
      → map (λ (replay : Replay). replay.message)
      (filter (is_unreceived history line) (messages_sent p number place es)) ≡ map (λ (letter :
      Letter). letter.message) (filter (is_open_letter history line) (letters p number es))
  names_of p number place [] = refl
  names_of p number place (Send to inc body ∷ es) =
      let message : MsgName = record { from = p; inc = inc; number = number } in
      let replay : Replay = record { message = message; to = to; place = place; body = body } in
      let later : List Replay = filter (is_unreceived history line)
      (messages_sent p (number + 1) (place + 1) es) in
      let behind : List Letter = filter (is_open_letter history line) (letters p (suc number) es) in
      let one : number + 1 ≡ suc number = omega arith in
      let ih : map (λ (replay : Replay). replay.message) later
      ≡ map (λ (letter : Letter). letter.message) behind
      = names_of p (number + 1) (place + 1) es ∙ ap (λ (k : ℕ). map (λ (letter : Letter).
      letter.message) (filter (is_open_letter history line) (letters p k es))) one in
      elim (is_unreceived history line replay) as
      (λ b. map (λ (replay : Replay). replay.message) (cond b (replay ∷ later) later)
      ≡ map (λ (letter : Letter). letter.message)
      (cond b (record { message = message; to = to } ∷ behind) behind)) [
        | true ↦ ap (λ (ms : List MsgName). message ∷ ms) ih
        | false ↦ ih
      ]
  names_of p number place (Recv message ∷ es) = names_of p number (place + 1) es
  names_of p number place (Check state round ∷ es) = names_of p number (place + 1) es
  names_of p number place (Mark from round ∷ es) = names_of p number (place + 1) es

  names_all : (ps : List ℕ)
      → map (λ (replay : Replay). replay.message) (flat_map (replays_of history line) ps) ≡ flat_map
      (λ p. map (λ (letter : Letter). letter.message) (open_letters history line p)) ps
  names_all [] = refl
  names_all (p ∷ ps) =
      let name : Replay → MsgName = λ replay. replay.message in
      let own : List MsgName = map (λ (letter : Letter). letter.message)
      (open_letters history line p) in
      appended name (replays_of history line p) (flat_map (replays_of history line) ps)
      ∙ ap (λ (ms : List MsgName). ms ++ map name (flat_map (replays_of history line) ps))
      (names_of p 0 0 (events_before history line p))
      ∙ ap (λ (ms : List MsgName). own ++ ms) (names_all ps)
    where
      appended : {A B : Type 0} (g : A → B) (xs ys : List A)
          → map g (xs ++ ys) ≡ map g xs ++ map g ys
      appended g [] ys = refl
      appended {A} {B} g (x ∷ xs) ys = ap (λ (zs : List B). g x ∷ zs) (appended g xs ys)

  pub names_due : map (λ (replay : Replay). replay.message) (replays_due history line)
      ≡ in_transit history line
  names_due = names_all (range_with_len 0 (length history))

  -- the message is as its sender's tape has it
  abbrev IsSentThere : Replay → Type 0
  IsSentThere replay = slice_get (tape_at history replay.message.from) replay.place
      ≡ Some (Send replay.to replay.message.inc replay.body)

  sent_there : (p number place : ℕ) (es more : List Event) → drop place (tape_at history p)
      ≡ es ++ more → All IsSentThere (messages_sent p number place es)
  sent_there p number place [] more at = All-nil IsSentThere
  sent_there p number place (Send to inc body ∷ es) more at =
      let here = drop_next (tape_at history p) place (Send to inc body) (es ++ more) at in
      let one : suc place ≡ place + 1 = omega arith in
      All-cons IsSentThere _ (messages_sent p (number + 1) (place + 1) es) here.0
      (sent_there p (number + 1) (place + 1) es more
      (ap (λ (k : ℕ). drop k (tape_at history p)) (sym one) ∙ here.1))
  sent_there p number place (Recv message ∷ es) more at =
      let one : suc place ≡ place + 1 = omega arith in
      sent_there p number (place + 1) es more (ap (λ (k : ℕ). drop k (tape_at history p))
      (sym one) ∙ (drop_next (tape_at history p) place (Recv message) (es ++ more) at).1)
  sent_there p number place (Check state round ∷ es) more at =
      let one : suc place ≡ place + 1 = omega arith in
      sent_there p number (place + 1) es more (ap (λ (k : ℕ). drop k (tape_at history p))
      (sym one) ∙ (drop_next (tape_at history p) place (Check state round) (es ++ more) at).1)
  sent_there p number place (Mark from round ∷ es) more at =
      let one : suc place ≡ place + 1 = omega arith in
      sent_there p number (place + 1) es more (ap (λ (k : ℕ). drop k (tape_at history p))
      (sym one) ∙ (drop_next (tape_at history p) place (Mark from round) (es ++ more) at).1)

  all_sent_there : All IsSentThere (replays_due history line)
  all_sent_there =
      All-flat_map IsSentThere (replays_of history line) (range_with_len 0 (length history)) (λ p.
      let n : ℕ = place (tape_at history p) (choice_at line p) in
      All-filter (is_unreceived history line) IsSentThere
      (messages_sent p 0 0 (events_before history line p))
      (sent_there p 0 0 (events_before history line p) (drop n (tape_at history p))
      (sym (take-append-drop n (tape_at history p)))))

pub leaves_a_restart : (history : List Process) (marks : MarksView) (failed : List Bool) (answer :
    WholeAnswer) → IsRightAnswer history marks failed answer → LeavesARestart history answer
leaves_a_restart history marks failed answer right =
    let line : List Choice = answer.line in
    let e : length line ≡ length history = right.shape.choices.length_is in
    record {
      incarnations = ap (map (λ (start : Start). start.inc)) right.starts_are ∙
          incarnations_restarted history line e;
      states = λ p c start at choice.
          let here : slice_get (starts_due history line) p
          ≡ Some start = sym (ap (λ (ss : List Start). slice_get ss p) right.starts_are) ∙ at in
          let within : p < length history = omega (
            arith,
            slice_get_within
                (starts_due history line) p start here,
            many-starts history line,
          ) in
          let same : start ≡ start_due history line p = same_Some _ _
          (sym here ∙ start-due history line p within) in
          let tape : List Event = tape_at history p in
          let there : c ≤ checks tape = subst (HasChoice tape) choice
          (right.shape.choices.exist p) in
          let cut : tape_at (restarted_history history line) p
          ≡ filter_map restarted_event
          (take (check_place tape c) tape) = tape_restarted history line p e ∙ ap
          (λ (chosen : Choice). filter_map restarted_event (front tape chosen)) choice in (
            ap checks cut ∙ checks_left
                (take (check_place tape c) tape) ∙ checks_front tape c there,
            ap (λ (s : Start). s.state) same ∙ ap (state_at tape) choice
                ∙ ap Some (sym (ap (λ (es : List Event). stored_state es c) cut ∙ stored_left
                (take (check_place tape c) tape) c ∙ stored_front tape c there)),
          );
      messages =
          ap (map (λ (replay : Replay). replay.message)) right.replays_are ∙ names_due history line;
      sends = λ k replay at.
          let here : slice_get (replays_due history line) k ≡ Some replay = sym
          (ap (λ (rs : List Replay). slice_get rs k) right.replays_are) ∙ at in
          subst (IsSentThere history line)
          (get_or_from_slice_get (replays_due history line) k replay replay here)
          (all_sent_there history line k replay
          (slice_get_within (replays_due history line) k replay here));
    }
