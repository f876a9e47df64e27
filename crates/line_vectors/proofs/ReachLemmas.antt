-- What events receive, lane by lane and as a vector.
use Rattle.std.proofs.Common.{◌≡◌, ℕ, ◌+◌, ◌<◌, cond, max, min, List, [], ◌∷◌, ◌++◌, length, get_or}
use Rattle.std.proofs.Common.{set, inl, inr, refl, sym, ap, ◌∙◌, arith}
use Rattle.std.specs.List.{Contains, filter_map, range_with_len}
use Rattle.std.specs.Prelude.{IsTrue, replicate}
use Rattle.std.proofs.lemmas.Bool.{cases_eq, eq-eqb, ne_eqb}
use Rattle.std.proofs.lemmas.List.{ext_get_or, get_or-set_same, get_or-set_other, get_or-replicate}
use Rattle.std.proofs.lemmas.List.{length-map, length-replicate, length-set, take_all}
use Rattle.std.proofs.lemmas.List.FromFn.{get_or-map-range_with_len, length-range_with_len}
use Rattle.std.proofs.lemmas.List.Elements.{Contains-append_left, Contains-append_right}
use Rattle.std.proofs.lemmas.List.Elements.{Contains-push}
use Rattle.line_names.specs.declared.choices.Choice.{Choice}
use Rattle.line_names.specs.declared.choices.Choice.TheVariants.{Check as AtCheck, Now}
use Rattle.line_names.specs.declared.messages.MsgName.{MsgName}
use Rattle.line_names.specs.Lines.{choice_at}
use Rattle.line_tape.specs.declared.events.Event.{Event}
use Rattle.line_tape.specs.declared.events.Event.TheVariants.{Send, Recv, Check, Mark}
use Rattle.line_tape.specs.Front.{front}
use Rattle.line_tape.specs.History.{Process, tape_at}
use Rattle.line_tape.specs.Line.{events_before}
use Rattle.line_tape.specs.Restart.{restarted_history, restarted_event, is_kept}
use Rattle.line_tape.proofs.CutLemmas.{cons_cases, contains_nothing}
use Rattle.line_tape.proofs.StayLemmas.{tape_restarted, length_restarted, front_restarted}
use Rattle.line_tape.proofs.StayLemmas.{front_kept}
use Rattle.line_vectors.specs.declared.limits.TheConstants.{LAST_NUMBER}
use Rattle.line_vectors.specs.Reach.{number_past, reach_of_event, reach_from, IsReceivedFrom}
use Rattle.line_vectors.specs.Reach.{IsReach, nearest, kept_lane, reach_of, reach_before}
use Rattle.line_vectors.specs.Reach.{sent_count, sents_of}
use Rattle.line_vectors.specs.Vectors.{lanes_with_message}

-- what a message says of its own sender
number-own : (message : MsgName) (p : ℕ) → message.from ≡ p
    → number_past p message ≡ message.number + 1
number-own message p e = ap (λ b. cond b (message.number + 1) 0) (eq-eqb message.from p e)

-- and of any other process
number-other : (message : MsgName) (p : ℕ) → (message.from ≡ p → ⊥) → number_past p message ≡ 0
number-other message p apart = ap (λ b. cond b (message.number + 1) 0) (ne_eqb message.from p apart)

-- what is received is below the lane
pub reach-above : (events : List Event) (p : ℕ) (message : MsgName) → Contains events (Recv message)
    → message.from ≡ p → message.number < reach_from events p
reach-above [] p message among e = absurd (contains_nothing (Recv message) among)
reach-above (event ∷ rest) p message among e = elim (cons_cases event rest (Recv message) among) [
  | inl here ↦ omega (arith, ap (reach_of_event p) here ∙ number-own message p e)
  | inr there ↦ omega (arith, reach-above rest p message there e)
]

-- what later events receive
later : (event : Event) (rest : List Event) (p number : ℕ) → IsReceivedFrom rest p number
    → IsReceivedFrom (event ∷ rest) p number
later event rest p number is = record {
  message = is.message;
  received = Contains-append_right (event ∷ []) rest
      (Recv is.message) is.received;
  from_is = is.from_is;
  number_is = is.number_is;
}

-- a lane that is not 0 is received
pub reach-received : (events : List Event) (p number : ℕ) → reach_from events p ≡ number + 1
    → IsReceivedFrom events p number
reach-received [] p number e = absurd (omega (arith, e))
reach-received (Send to inc body ∷ rest) p number e =
    later (Send to inc body) rest p number (reach-received rest p number (omega (arith, e)))
reach-received (Check state round ∷ rest) p number e =
    later (Check state round) rest p number (reach-received rest p number (omega (arith, e)))
reach-received (Mark from round ∷ rest) p number e =
    later (Mark from round) rest p number (reach-received rest p number (omega (arith, e)))
reach-received (Recv message ∷ rest) p number e = elim (cases_eq (reach_from rest p) (number + 1)) [
  | inl there ↦ later (Recv message) rest p number (reach-received rest p number there)
  | inr apart ↦ elim (cases_eq message.from p) [
    | inl own ↦ record {
      message = message;
      received = Contains-append_left (Recv message ∷ []) rest (Recv message)
          (Contains-push [] (Recv message));
      from_is =
          own;
      number_is = omega (arith, e, number-own message p own);
    }
    | inr other ↦ absurd (omega (arith, e, number-other message p other))
  ]
]

pub reach-is : (events : List Event) (p : ℕ) → IsReach events p (reach_from events p)
reach-is events p = record { all_below = reach-above events p; greatest = reach-received events p }

-- what more events receive
pub reach-append : (xs ys : List Event) (p : ℕ)
    → reach_from (xs ++ ys) p ≡ max (reach_from xs p) (reach_from ys p)
reach-append [] ys p = omega arith
reach-append (x ∷ xs) ys p = omega (arith, reach-append xs ys p)

pub reach-push : (tape : List Event) (event : Event) (p : ℕ)
    → reach_from (tape ++ event ∷ []) p ≡ max (reach_from tape p) (reach_of_event p event)
reach-push tape event p = omega (arith, reach-append tape (event ∷ []) p)

-- a restart takes away no receipt
pub reach-left : (events : List Event) (p : ℕ)
    → reach_from (filter_map restarted_event events) p ≡ reach_from events p
reach-left [] p = refl
reach-left (Send to inc body ∷ es) p = omega (arith, reach-left es p)
reach-left (Recv message ∷ es) p = ap (λ k. max (number_past p message) k) (reach-left es p)
reach-left (Check state round ∷ es) p = omega (arith, reach-left es p)
reach-left (Mark from round ∷ es) p = omega (arith, reach-left es p)

-- ---- vectors

-- a vector has a lane for each process
pub length-reach : (n : ℕ) (events : List Event) → length (reach_of n events) ≡ n
length-reach n events =
    length-map (range_with_len 0 n) (kept_lane events) ∙ length-range_with_len 0 n

-- a lane of it
pub reach-at : (n : ℕ) (events : List Event) (p d : ℕ) → p < n
    → get_or (reach_of n events) p d ≡ kept_lane events p
reach-at n events p d within =
    get_or-map-range_with_len (kept_lane events) 0 n p p d within (omega arith)

-- a count of a line's vector
pub sents-at : (history : List Process) (line : List Choice) (p d : ℕ) → p < length history
    → get_or (sents_of history line) p d ≡ sent_count history line p
sents-at history line p d within = get_or-map-range_with_len (sent_count history line) 0
    (length history) p p d within (omega arith)

pub length-sents : (history : List Process) (line : List Choice)
    → length (sents_of history line) ≡ length history
length-sents history line = length-map (range_with_len 0 (length history))
    (sent_count history line) ∙ length-range_with_len 0 (length history)

-- two vectors are the same where each lane is
pub reach-same : (n : ℕ) (xs ys : List Event) → ((p : ℕ) → reach_from xs p ≡ reach_from ys p)
    → reach_of n xs ≡ reach_of n ys
reach-same n xs ys same = ext_get_or 0 (reach_of n xs) (reach_of n ys)
    (length-reach n xs ∙ sym (length-reach n ys)) (λ p h.
    let within : p < n = omega (arith, length-reach n xs) in
    reach-at n xs p 0 within ∙ ap (λ k. min k LAST_NUMBER) (same p) ∙ sym
    (reach-at n ys p 0 within))

-- nothing is received
pub reach-none : (n : ℕ) → reach_of n [] ≡ replicate n 0
reach-none n = ext_get_or 0 (reach_of n []) (replicate n 0)
    (length-reach n [] ∙ sym (length-replicate n 0)) (λ p h.
    let within : p < n = omega (arith, length-reach n []) in
    reach-at n [] p 0 within ∙ omega arith ∙ sym (get_or-replicate n p 0 0 within))

-- an event that receives nothing
pub reach-deaf : (n : ℕ) (tape : List Event) (event : Event)
    → ((p : ℕ) → reach_of_event p event ≡ 0) → reach_of n (tape ++ event ∷ []) ≡ reach_of n tape
reach-deaf n tape event none =
    reach-same n (tape ++ event ∷ []) tape (λ p. omega (arith, reach-push tape event p, none p))

-- a receipt is noted
pub reach-recv : (n : ℕ) (tape : List Event) (message : MsgName) → message.from < n → reach_of n
    (tape ++ Recv message ∷ []) ≡ lanes_with_message (reach_of n tape) (nearest message)
reach-recv n tape message inside =
    let old : List ℕ = reach_of n tape in
    let new : List ℕ = reach_of n (tape ++ Recv message ∷ []) in
    let far : ℕ = max (get_or old message.from 0) ((nearest message).number + 1) in
    ext_get_or 0 new (set old message.from far) (length-reach n (tape ++ Recv message ∷ []) ∙ sym
    (length-set old message.from far ∙ length-reach n tape)) (λ p h.
    let within : p < n = omega (arith, length-reach n (tape ++ Recv message ∷ [])) in
    let lane = reach-at n (tape ++ Recv message ∷ []) p 0 within in
    let push = reach-push tape (Recv message) p in
    let was = reach-at n tape p 0 within in
    elim (cases_eq p message.from) [
      | inl here ↦
          let own : number_past p message ≡ message.number + 1 = number-own message p (sym here) in
          let set_there : get_or (set old message.from far) p 0
          ≡ far = ap (λ k. get_or (set old message.from far) k 0) here ∙ get_or-set_same old
          message.from far 0 (omega (arith, length-reach n tape)) in
          let there : get_or old message.from 0
          ≡ get_or old p 0 = ap (λ k. get_or old k 0) (sym here) in
          lane ∙ omega (arith, push, own, was, there) ∙ sym set_there
      | inr apart ↦
          let other : number_past p message ≡ 0 = number-other message p (λ e. apart (sym e)) in
          let kept : get_or (set old message.from far) p 0
          ≡ get_or old p 0 = get_or-set_other old message.from p far 0 apart in
          lane ∙ omega (arith, push, other, was) ∙ sym kept
    ])

-- a restart leaves the vector of events as it is
pub reach_of-left : (n : ℕ) (events : List Event)
    → reach_of n (filter_map restarted_event events) ≡ reach_of n events
reach_of-left n events = reach-same n (filter_map restarted_event events) events (reach-left events)

module _ (history : List Process) (line : List Choice) (count : length line ≡ length history)
    (q : ℕ) where
  many : (events : List Event)
      → reach_of (length (restarted_history history line)) events ≡ reach_of (length history) events
  many events = ap (λ n. reach_of n events) (length_restarted history line count)

  -- the vector of a check that is kept
  pub vector-kept : (c : ℕ) → IsTrue (is_kept (choice_at line q) c) → reach_before
      (restarted_history history line) q (AtCheck c) ≡ reach_before history q (AtCheck c)
  vector-kept c kept =
      many (front (tape_at (restarted_history history line) q) (AtCheck c))
      ∙ ap (λ (tape : List Event). reach_of (length history) (front tape (AtCheck c)))
      (tape_restarted history line q count)
      ∙ ap (reach_of (length history)) (front_restarted (events_before history line q) c)
      ∙ reach_of-left (length history) (front (events_before history line q) (AtCheck c))
      ∙ ap (reach_of (length history)) (front_kept (tape_at history q) (choice_at line q) c kept)

  -- the vector of where a process goes on from its choice
  pub vector-now : reach_before (restarted_history history line) q Now
      ≡ reach_before history q (choice_at line q)
  vector-now =
      let tape : List Event = tape_at (restarted_history history line) q in
      many (front tape Now)
      ∙ ap (reach_of (length history)) (take_all (length tape) tape (omega arith))
      ∙ ap (reach_of (length history)) (tape_restarted history line q count)
      ∙ reach_of-left (length history) (events_before history line q)
