-- Colours along a tape: what they are after an event, at a send, and after a restart.
use Rattle.std.proofs.Common.{◌≡◌, ℕ, zero, suc, ◌<◌, ◌≤◌, true, List, [], ◌∷◌, ◌++◌, length, take}
use Rattle.std.proofs.Common.{drop, get_or, Some, None, refl, sym, ap, ◌∙◌, subst, arith, inl, inr}
use Rattle.std.specs.Prelude.{◌==◌, max, AllPairs}
use Rattle.std.specs.List.{cons_option, slice_get}
use Rattle.std.proofs.Math.Nat.{le-max_left, le-max_right, max-le, max-zero, max-eq_left}
use Rattle.std.proofs.Math.Nat.{max-eq_right}
use Rattle.std.proofs.lemmas.List.{append-nil, take-append-drop}
use Rattle.std.proofs.lemmas.List.Elements.{filter_map-append}
use Rattle.std.proofs.lemmas.List.Kept.{AllPairs-cons}
use Rattle.std.proofs.lemmas.Bool.{eqb-true, eq-eqb, or_cases, or_left, or_right, cases_lt}
use Rattle.line_names.specs.declared.messages.MsgName.{MsgName}
use Rattle.line_names.specs.declared.choices.Choice.{Choice}
use Rattle.line_tape.specs.declared.events.Event.{Event}
use Rattle.line_tape.specs.declared.events.Event.TheVariants.{Send, Recv, Check, Mark}
use Rattle.line_tape.specs.Colours.{greatest, colour, send_place, message_colour, ColoursRise}
use Rattle.line_tape.specs.Event.{incarnations_sent, Holds}
use Rattle.line_tape.specs.History.{Process, tape_at, with_event}
use Rattle.line_tape.specs.Restart.{restarted_history}
use Rattle.line_tape.specs.Rounds.{checked_round, rounds_checked, has_check_of}
use Rattle.line_tape.specs.Line.{events_before}
use Rattle.line_tape.specs.Spent.{next_name}
use Rattle.line_tape.proofs.StayLemmas.{tape_restarted}
use Rattle.line_laws.proofs.LinkLemmas.{no_rounds}
use Rattle.line_tape.proofs.EventLemmas.{tape_same, tape_grows}
use Rattle.std.proofs.lemmas.Option.{slice_get_within}

-- of more numbers the greatest is no less
pub greatest-append : (xs ys : List ℕ) → greatest xs ≤ greatest (xs ++ ys)
greatest-append [] ys = omega arith
greatest-append (x ∷ xs) ys = max-le (le-max_left x (greatest (xs ++ ys)))
    (omega (arith, greatest-append xs ys, le-max_right x (greatest (xs ++ ys))))

-- nor less than the last
pub greatest-last : (xs : List ℕ) (y : ℕ) → y ≤ greatest (xs ++ y ∷ [])
greatest-last [] y = le-max_left y 0
greatest-last (x ∷ xs) y =
    omega (arith, greatest-last xs y, le-max_right x (greatest (xs ++ y ∷ [])))

-- the last is the greatest where no other is greater
pub greatest-push : (xs : List ℕ) (y : ℕ) → greatest xs ≤ y → greatest (xs ++ y ∷ []) ≡ y
greatest-push [] y h = max-zero y
greatest-push (x ∷ xs) y h =
    let ih = greatest-push xs y (omega (arith, le-max_right x (greatest xs))) in
    ap (max x) ih ∙ max-eq_right (omega (arith, le-max_left x (greatest xs)))

-- colours do not fall
pub colour-append : (xs ys : List Event) → colour xs ≤ colour (xs ++ ys)
colour-append xs ys = subst (λ (rs : List ℕ). colour xs ≤ greatest rs) (sym (filter_map-append
    checked_round xs ys)) (greatest-append (rounds_checked xs) (rounds_checked ys))

pub colour-take : (i : ℕ) (es : List Event) → colour (take i es) ≤ colour es
colour-take i es = subst (λ (v : List Event). colour (take i es) ≤ colour v) (take-append-drop i es)
    (colour-append (take i es) (drop i es))

-- the colour after a check of a round
pub colour-check : (tape : List Event) (state : List ℕ) (round : ℕ) → colour tape ≤ round
    → colour (tape ++ Check state (Some round) ∷ []) ≡ round
colour-check tape state round h = ap greatest (filter_map-append checked_round tape
    (Check state (Some round) ∷ [])) ∙ greatest-push (rounds_checked tape) round h

pub colour-last : (tape : List Event) (state : List ℕ) (round : ℕ)
    → round ≤ colour (tape ++ Check state (Some round) ∷ [])
colour-last tape state round = subst (λ (rs : List ℕ). round ≤ greatest rs) (sym (filter_map-append
    checked_round tape (Check state (Some round) ∷ []))) (greatest-last (rounds_checked tape) round)

-- and after another event
pub colour-other : (tape : List Event) (e : Event) → checked_round e ≡ None
    → colour (tape ++ e ∷ []) ≡ colour tape
colour-other tape e none =
    ap greatest (filter_map-append checked_round tape (e ∷ [])) ∙ ap (λ o. greatest (rounds_checked
    tape ++ cons_option o [])) none ∙ ap greatest (append-nil (rounds_checked tape))

-- a check of a round gives at least its colour
pub colour-least : (tape : List Event) (r : ℕ) → has_check_of r tape ≡ true → r ≤ colour tape
colour-least [] r t = absurd (cc)
colour-least (Send to inc body ∷ es) r t = colour-least es r t
colour-least (Recv m ∷ es) r t = colour-least es r t
colour-least (Check state None ∷ es) r t = colour-least es r t
colour-least (Check state (Some s) ∷ es) r t = elim (or_cases (s == r) (has_check_of r es) t) [
  | inl a ↦ omega (arith, eqb-true s r a, le-max_left s (colour es))
  | inr b ↦ omega (arith, colour-least es r b, le-max_right s (colour es))
]
colour-least (Mark from s ∷ es) r t = colour-least es r t

-- a colour is that of a check
pub colour-reached : (tape : List Event) → (colour tape ≡ 0 → ⊥)
    → has_check_of (colour tape) tape ≡ true
colour-reached [] some = absurd (some refl)
colour-reached (Send to inc body ∷ es) some = colour-reached es some
colour-reached (Recv m ∷ es) some = colour-reached es some
colour-reached (Check state None ∷ es) some = colour-reached es some
colour-reached (Check state (Some s) ∷ es) some = elim (cases_lt s (colour es)) [
  | inl below ↦
      let is : max s (colour es) ≡ colour es = max-eq_right (omega (arith, below)) in
      subst (λ (r : ℕ). has_check_of r (Check state (Some s) ∷ es) ≡ true) (sym is)
      (or_right (s == colour es) (has_check_of (colour es) es)
      (colour-reached es (λ none. omega (arith, none, below))))
  | inr above ↦
      let is : max s (colour es) ≡ s = max-eq_left above in
      subst (λ (r : ℕ). has_check_of r (Check state (Some s) ∷ es) ≡ true) (sym is)
      (or_left (s == s) (has_check_of s es) (eq-eqb s s refl))
]
colour-reached (Mark from s ∷ es) some = colour-reached es some

-- what stands before a send of the tape, whatever comes after
pub before_send : (tape more : List Event) (k : ℕ) → k < length (incarnations_sent tape)
    → take (send_place (tape ++ more) k) (tape ++ more) ≡ take (send_place tape k) tape
before_send [] more k h = absurd (omega arith)
before_send (Send to inc body ∷ es) more zero h = refl
before_send (Send to inc body ∷ es) more (suc k) h =
    ap (λ (v : List Event). Send to inc body ∷ v) (before_send es more k (omega arith))
before_send (Recv m ∷ es) more k h = ap (λ (v : List Event). Recv m ∷ v) (before_send es more k h)
before_send (Check state round ∷ es) more k h =
    ap (λ (v : List Event). Check state round ∷ v) (before_send es more k h)
before_send (Mark from round ∷ es) more k h =
    ap (λ (v : List Event). Mark from round ∷ v) (before_send es more k h)

-- before a new send the whole tape
pub before_new_send : (tape : List Event) (to inc : ℕ) (body : List ℕ) → take (send_place (tape ++
    Send to inc body ∷ []) (length (incarnations_sent tape))) (tape ++ Send to inc body ∷ []) ≡ tape
before_new_send [] to inc body = refl
before_new_send (Send t i b ∷ es) to inc body =
    ap (λ (v : List Event). Send t i b ∷ v) (before_new_send es to inc body)
before_new_send (Recv m ∷ es) to inc body =
    ap (λ (v : List Event). Recv m ∷ v) (before_new_send es to inc body)
before_new_send (Check state round ∷ es) to inc body =
    ap (λ (v : List Event). Check state round ∷ v) (before_new_send es to inc body)
before_new_send (Mark from round ∷ es) to inc body =
    ap (λ (v : List Event). Mark from round ∷ v) (before_new_send es to inc body)

-- before a send that comes after some events, these
pub before_later_send : (xs ys : List Event) (k : ℕ) → length (incarnations_sent xs) ≤ k
    → (zs : List Event) × (take (send_place (xs ++ ys) k) (xs ++ ys) ≡ xs ++ zs)
before_later_send [] ys k h = (take (send_place ys k) ys, refl)
before_later_send (Send to inc body ∷ es) ys zero h = absurd (omega arith)
before_later_send (Send to inc body ∷ es) ys (suc k) h = let ih = before_later_send es ys k
    (omega arith) in (ih.0, ap (λ (v : List Event). Send to inc body ∷ v) ih.1)
before_later_send (Recv m ∷ es) ys k h =
    let ih = before_later_send es ys k h in (ih.0, ap (λ (v : List Event). Recv m ∷ v) ih.1)
before_later_send (Check state round ∷ es) ys k h = let ih = before_later_send es ys k h in
    (ih.0, ap (λ (v : List Event). Check state round ∷ v) ih.1)
before_later_send (Mark from round ∷ es) ys k h = let ih = before_later_send es ys k h in
    (ih.0, ap (λ (v : List Event). Mark from round ∷ v) ih.1)

-- a message that is held keeps its colour
pub message_colour_event : (history : List Process) (at : ℕ) (e : Event) (m : MsgName)
    → at < length history → Holds (tape_at history m.from) m.inc m.number
    → message_colour (with_event history at e) m ≡ message_colour history m
message_colour_event history at e m h held =
    let grows = tape_grows history at e m.from h in
    ap (λ (v : List Event). colour (take (send_place v m.number) v)) grows.1
    ∙ ap colour (before_send (tape_at history m.from) grows.0 m.number
    (slice_get_within (incarnations_sent (tape_at history m.from)) m.number m.inc held))

-- a message is sent in the colour of its sender
pub message_colour_sent : (history : List Process) (at to inc : ℕ) (body : List ℕ)
    → at < length history → message_colour (with_event history at (Send to inc body))
    (next_name history at) ≡ colour (tape_at history at)
message_colour_sent history at to inc body h =
    ap (λ (v : List Event). colour (take (send_place v (length (incarnations_sent
    (tape_at history at)))) v)) (tape_same history at (Send to inc body) at h refl)
    ∙ ap colour (before_new_send (tape_at history at) to inc body)

pub message_colour_below : (history : List Process) (m : MsgName)
    → message_colour history m ≤ colour (tape_at history m.from)
message_colour_below history m =
    colour-take (send_place (tape_at history m.from) m.number) (tape_at history m.from)

-- after a restart all colours are 0
pub colour_restarted : (history : List Process) (line : List Choice) (p : ℕ)
    → length line ≡ length history → colour (tape_at (restarted_history history line) p) ≡ 0
colour_restarted history line p e = ap colour (tape_restarted history line p e) ∙ ap greatest
    (no_rounds (events_before history line p))

-- behind an event rounds rise too
rise_behind : (e : Event) (es : List Event) → ColoursRise (e ∷ es) → ColoursRise es
rise_behind e es rise i state round at =
    omega (arith, rise (suc i) state round at, behind_colour e (take i es))
  where
    behind_colour : (x : Event) (xs : List Event) → colour xs ≤ colour (x ∷ xs)
    behind_colour (Send to inc body) xs = omega arith
    behind_colour (Recv m) xs = omega arith
    behind_colour (Check state None) xs = omega arith
    behind_colour (Check state (Some s)) xs = le-max_right s (colour xs)
    behind_colour (Mark from s) xs = omega arith

-- a round among the checks is that of a check at a place
round_at : (es : List Event) (k d : ℕ) → k < length (rounds_checked es) → (i : ℕ) × (state : List ℕ)
    × (slice_get es i ≡ Some (Check state (Some (get_or (rounds_checked es) k d))))
round_at [] k d l = absurd (omega arith)
round_at (Send to inc body ∷ es) k d l = let ih = round_at es k d l in (suc ih.0, ih.1, ih.2)
round_at (Recv m ∷ es) k d l = let ih = round_at es k d l in (suc ih.0, ih.1, ih.2)
round_at (Check state None ∷ es) k d l = let ih = round_at es k d l in (suc ih.0, ih.1, ih.2)
round_at (Check state (Some s) ∷ es) zero d l = (0, state, refl)
round_at (Check state (Some s) ∷ es) (suc k) d l =
    let ih = round_at es k d (omega arith) in (suc ih.0, ih.1, ih.2)
round_at (Mark from s ∷ es) k d l = let ih = round_at es k d l in (suc ih.0, ih.1, ih.2)

-- so they ascend
pub rounds_ascend : (es : List Event) → ColoursRise es
    → AllPairs (λ (r s : ℕ). r < s) (rounds_checked es)
rounds_ascend [] rise = λ i j d l within. absurd (omega arith)
rounds_ascend (Send to inc body ∷ es) rise =
    rounds_ascend es (rise_behind (Send to inc body) es rise)
rounds_ascend (Recv m ∷ es) rise = rounds_ascend es (rise_behind (Recv m) es rise)
rounds_ascend (Check state None ∷ es) rise =
    rounds_ascend es (rise_behind (Check state None) es rise)
rounds_ascend (Check state (Some s) ∷ es) rise =
    AllPairs-cons (λ (x y : ℕ). x < y) s (rounds_checked es) (λ k d l.
    let at = round_at es k d l in
    omega (
      arith,
      rise (suc at.0) at.1 (get_or (rounds_checked es) k d) at.2,
      le-max_left s
          (colour (take at.0 es)),
    ))
    (rounds_ascend es (rise_behind (Check state (Some s)) es rise))
rounds_ascend (Mark from s ∷ es) rise = rounds_ascend es (rise_behind (Mark from s) es rise)
