-- A message of a greater colour than its receiver's is of the round that is open; after the
-- receiver's check of it the message may come next.
use Rattle.std.proofs.Common.{◌≡◌, ℕ, ◌<◌, ◌≤◌, true, false, List, [], ◌∷◌, length, take, Some}
use Rattle.std.proofs.Common.{Option, refl, ap, ◌∙◌, subst, arith, inl, inr}
use Rattle.std.specs.List.{list_any}
use Rattle.std.proofs.lemmas.Bool.{both_ways, cases_eq, cases_lt, false_from_ne_true}
use Rattle.std.proofs.lemmas.List.{append-nil}
use Rattle.std.proofs.lemmas.List.Elements.{filter_map-append}
use Rattle.line_names.specs.declared.messages.MsgName.{MsgName}
use Rattle.line_names.specs.Names.{is_name}
use Rattle.line_tape.specs.declared.events.Event.{Event}
use Rattle.line_tape.specs.declared.events.Event.TheVariants.{Recv, Check}
use Rattle.line_tape.specs.Colours.{colour, send_place, message_colour, IsNextColoured}
use Rattle.line_tape.specs.Event.{Holds}
use Rattle.line_tape.specs.Fit.{IsNextUnordered}
use Rattle.line_tape.specs.History.{Process, tape_at, with_event}
use Rattle.line_tape.specs.Rounds.{is_check_of, has_check_of, is_checked}
use Rattle.line_tape.specs.Transit.{received_name, names_received}
use Rattle.line_laws.proofs.ColourLemmas.{colour-check, colour-least, colour-reached}
use Rattle.line_laws.proofs.ColourLemmas.{message_colour_event}
use Rattle.line_laws.proofs.CopyLemmas.{sent_to_event}
use Rattle.line_tape.proofs.EventLemmas.{tape_same}
use Rattle.line_laws.proofs.RoundLemmas.{any_take}
use Rattle.line_laws.proofs.RoundLines.{checked_has}

-- a colour is no greater than what no round of the tape is greater than
pub colour_most : (tape : List Event) (r : ℕ) → ((s : ℕ) → has_check_of s tape ≡ true → s ≤ r)
    → colour tape ≤ r
colour_most tape r most = elim (cases_eq (colour tape) 0) [
  | inl none ↦ omega (arith, none)
  | inr some ↦ most (colour tape) (colour-reached tape some)
]

-- and smaller, where the tape has no check of that
pub colour_less : (tape : List Event) (r : ℕ) → 1 ≤ r
    → ((s : ℕ) → has_check_of s tape ≡ true → s ≤ r) → has_check_of r tape ≡ false → colour tape < r
colour_less tape r least most none = elim (cases_lt (colour tape) r) [
  | inl less ↦ less
  | inr no_less ↦
      let no_more : colour tape ≤ r = colour_most tape r most in
      let same : colour tape ≡ r = omega (arith, no_less, no_more) in
      let has : has_check_of r tape ≡ true = subst (λ (s : ℕ). has_check_of s tape ≡ true) same
      (colour-reached tape (λ zero_is. omega (arith, zero_is, same))) in
      absurd (both_ways (has_check_of r tape) none has)
]

-- the colour of a message is a round of its sender
pub message_colour_reached : (history : List Process) (m : MsgName) → (message_colour history m ≡ 0
    → ⊥) → has_check_of (message_colour history m) (tape_at history m.from) ≡ true
message_colour_reached history m some =
    let tape : List Event = tape_at history m.from in
    let i : ℕ = send_place tape m.number in
    any_take (is_check_of (message_colour history m)) tape i (colour-reached (take i tape) some)

module _ (history : List Process) (q : ℕ) (m : MsgName)
    (greater : colour (tape_at history q) < message_colour history m) where
  -- a message of a greater colour than its receiver's is of the one round that is not on every tape
  pub forced_open : (r : ℕ) → q < length history → ((p s : ℕ) → has_check_of s (tape_at history p)
      ≡ true → (s ≡ r → ⊥) → is_checked history s ≡ true) → message_colour history m ≡ r
  forced_open r within others =
      let c : ℕ = message_colour history m in
      elim (cases_eq c r) [
        | inl same ↦ same
        | inr other ↦
            let sender : has_check_of c (tape_at history m.from)
            ≡ true = message_colour_reached history m (λ none. omega (arith, none, greater)) in
            let mine : has_check_of c (tape_at history q)
            ≡ true = checked_has history c q (others m.from c sender other) within in
            absurd (omega (arith, greater, colour-least (tape_at history q) c mine))
      ]

  -- the receiver has no check of it
  pub forced_new : has_check_of (message_colour history m) (tape_at history q) ≡ false
  forced_new = false_from_ne_true (has_check_of (message_colour history m) (tape_at history q)) (λ
      has. omega (arith, greater, colour-least (tape_at history q) (message_colour history m) has))

  -- and by one the message is of no greater colour
  pub forced_next : (state : List ℕ) → q < length history
      → Holds (tape_at history m.from) m.inc m.number → IsNextColoured
      (with_event history q (Check state (Some (message_colour history m)))) q (Recv m)
  forced_next state within held =
      let c : ℕ = message_colour history m in
      let e : Event = Check state (Some c) in
      let stays : message_colour (with_event history q e) m
      ≡ c = message_colour_event history q e m within held in
      let now : colour (tape_at (with_event history q e) q) ≡ c = ap colour (tape_same history q e q
      within refl) ∙ colour-check (tape_at history q) state c (omega (arith, greater)) in
      omega (arith, stays, now)

-- a check changes nothing of what may be received next
pub receipt_waits : (history : List Process) (at : ℕ) (state : List ℕ) (round : Option ℕ)
    (m : MsgName) → at < length history → IsNextUnordered history at (Recv m)
    → IsNextUnordered (with_event history at (Check state round)) at (Recv m)
receipt_waits history at state round m within next =
    let e : Event = Check state round in
    let names : names_received (tape_at (with_event history at e) at)
    ≡ names_received (tape_at history at) =
    ap names_received (tape_same history at e at within refl) ∙ filter_map-append received_name
    (tape_at history at) (e ∷ []) ∙ append-nil (names_received (tape_at history at)) in
    (sent_to_event history at e at m within next.0, ap (list_any (is_name m)) names ∙ next.1)
