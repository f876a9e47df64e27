-- The rounds, as they are recorded, found and changed.
use Rattle.std.proofs.Common.{◌≡◌, ◌≢◌, ℕ, zero, suc, ◌+◌, ◌<◌, ◌≤◌, true, false, eqb, List, []}
use Rattle.std.proofs.Common.{◌∷◌, ◌++◌, length, map, max, get_or, set, Some, None, sym, ap, ◌∙◌}
use Rattle.std.proofs.Common.{refl, arith, inl, inr, Bool}
use Rattle.std.specs.Prelude.{if◌then◌else◌}
use Rattle.std.proofs.lemmas.Bool.{eq-eqb, ne_eqb, cases_eq, cases_lt}
use Rattle.line_names.specs.declared.messages.MsgName.{MsgName}
use Rattle.line_rounds.specs.Recording.{RecordedRound, Channel, channel_at, with_channel, round_of}
use Rattle.line_rounds.specs.Recording.{latest, with_marker, rounds_with_message, with_message}
use Rattle.line_rounds.specs.Spans.{RoundView, recorded_of, AllWithin, AreRoundsKept, IsAscending}
use Rattle.line_rounds.proofs.SpanLemmas.{channels_of-push, AreWithin-push}

-- a message comes
pub rounds-push : (logs : List (List MsgName)) (rounds : List RoundView) (message : MsgName)
    → AllWithin logs rounds → message.from < length logs
    → map (recorded_of (set logs message.from (get_or logs message.from [] ++ message ∷ []))) rounds
    ≡ rounds_with_message (map (recorded_of logs) rounds) message
rounds-push logs [] message h below = refl
rounds-push logs (round ∷ rounds) message h below =
    ap (λ (cs : List Channel). let r : RecordedRound = record
    { number = round.number; channels = cs } in r
    ∷ map (recorded_of (set logs message.from (get_or logs message.from [] ++ message ∷ [])))
    rounds) (channels_of-push logs round.spans message.from message h.0 below)
    ∙ ap (λ (rs : List RecordedRound). with_channel (recorded_of logs round) message.from
    (with_message (channel_at (recorded_of logs round) message.from) message) ∷ rs)
    (rounds-push logs rounds message h.1 below)

within-push : (logs : List (List MsgName)) (rounds : List RoundView) (p : ℕ) (message : MsgName)
    → AllWithin logs rounds
    → AllWithin (set logs p (get_or logs p [] ++ message ∷ [])) rounds
within-push logs [] p message h = tt
within-push logs (round ∷ rounds) p message h =
    (AreWithin-push logs round.spans p message h.0, within-push logs rounds p message h.1)

pub AreKept-push : (logs : List (List MsgName)) (floor : ℕ) (rounds : List RoundView) (p : ℕ)
    (message : MsgName) → AreRoundsKept logs floor rounds
    → AreRoundsKept (set logs p (get_or logs p [] ++ message ∷ [])) floor rounds
AreKept-push logs floor rounds p message h =
    record { ascending = h.ascending; within = within-push logs rounds p message h.within }

-- the last number, or the bound below all
abbrev pub last_number : ℕ → List RoundView → ℕ
last_number b [] = b
last_number b (round ∷ rounds) = last_number round.number rounds

pub IsAscending-above : (b : ℕ) (rounds : List RoundView) (k : ℕ) (d : RoundView)
    → IsAscending b rounds → k < length rounds → b < (get_or rounds k d).number
IsAscending-above b [] k d up h = absurd (omega arith)
IsAscending-above b (round ∷ rounds) zero d up h = up.0
IsAscending-above b (round ∷ rounds) (suc k) d up h =
    let rest : round.number < (get_or rounds k d).number = IsAscending-above round.number rounds k d
    up.1 (omega arith) in omega (arith, up.0)

pub IsAscending-rise : (b : ℕ) (rounds : List RoundView) (j k : ℕ) (d : RoundView) → IsAscending b
    rounds → j < k → k < length rounds → (get_or rounds j d).number < (get_or rounds k d).number
IsAscending-rise b [] j k d up l h = absurd (omega arith)
IsAscending-rise b (round ∷ rounds) j zero d up l h = absurd (omega arith)
IsAscending-rise b (round ∷ rounds) zero (suc k) d up l h =
    IsAscending-above round.number rounds k d up.1 (omega arith)
IsAscending-rise b (round ∷ rounds) (suc j) (suc k) d up l h =
    IsAscending-rise round.number rounds j k d up.1 (omega arith) (omega arith)

pub IsAscending-push : (b : ℕ) (rounds : List RoundView) (new : RoundView) → IsAscending b rounds
    → last_number b rounds < new.number → IsAscending b (rounds ++ new ∷ [])
IsAscending-push b [] new up h = (h, tt)
IsAscending-push b (round ∷ rounds) new up h =
    (up.0, IsAscending-push round.number rounds new up.1 h)

-- the greatest number is the last one
latest-above : (b c : ℕ) (logs : List (List MsgName)) (rounds : List RoundView) → c ≤ b
    → IsAscending b rounds → max b (latest c (map (recorded_of logs) rounds)) ≡ last_number b rounds
latest-above b c logs [] le up = omega arith
latest-above b c logs (round ∷ rounds) le up =
    let rest : max round.number (latest c (map (recorded_of logs) rounds)) ≡ last_number
    round.number rounds = latest-above round.number c logs rounds (omega (arith, up.0)) up.1 in
    omega (arith, up.0)

pub latest-last : (floor : ℕ) (logs : List (List MsgName)) (rounds : List RoundView) → IsAscending
    floor rounds → latest floor (map (recorded_of logs) rounds) ≡ last_number floor rounds
latest-last floor logs [] up = refl
latest-last floor logs (round ∷ rounds) up =
    latest-above round.number floor logs rounds (omega (arith, up.0)) up.1

pub last_number-at : (b : ℕ) (rounds : List RoundView) (i : ℕ) (d : RoundView)
    → length rounds ≡ suc i → last_number b rounds ≡ (get_or rounds i d).number
last_number-at b [] i d h = absurd (omega arith)
last_number-at b (round ∷ []) zero d h = refl
last_number-at b (round ∷ []) (suc i) d h = absurd (omega arith)
last_number-at b (round ∷ next ∷ rounds) zero d h = absurd (omega arith)
last_number-at b (round ∷ next ∷ rounds) (suc i) d h =
    last_number-at round.number (next ∷ rounds) i d (omega arith)

-- a round is found where it stands
pub round_of-here : (rounds : List RecordedRound) (round : RecordedRound) (number : ℕ)
    → round.number ≡ number → round_of (round ∷ rounds) number ≡ Some round
round_of-here rounds round number h = ap
    (λ (b : Bool). if b then Some round else round_of rounds number) (eq-eqb round.number number h)

pub round_of-next : (rounds : List RecordedRound) (round : RecordedRound) (number : ℕ)
    → (round.number ≡ number → ⊥) → round_of (round ∷ rounds) number ≡ round_of rounds number
round_of-next rounds round number h = ap
    (λ (b : Bool). if b then Some round else round_of rounds number) (ne_eqb round.number number h)

pub round_of-at : (b : ℕ) (logs : List (List MsgName)) (rounds : List RoundView) (i number : ℕ)
    (d : RoundView) (e : RecordedRound) → IsAscending b rounds → i < length rounds
    → (get_or rounds i d).number ≡ number
    → round_of (map (recorded_of logs) rounds) number
    ≡ Some (get_or (map (recorded_of logs) rounds) i e)
round_of-at b logs [] i number d e up h at = absurd (omega arith)
round_of-at b logs (round ∷ rounds) zero number d e up h at =
    round_of-here (map (recorded_of logs) rounds) (recorded_of logs round) number at
round_of-at b logs (round ∷ rounds) (suc i) number d e up h at =
    let above : round.number <
    (get_or rounds i d).number = IsAscending-above round.number rounds i d up.1 (omega arith) in
    round_of-next (map (recorded_of logs) rounds) (recorded_of logs round) number (λ same. omega
    arith) ∙ round_of-at round.number logs rounds i number d e up.1 (omega arith) at

pub round_of-none : (logs : List (List MsgName)) (rounds : List RoundView) (number : ℕ)
    → ((k : ℕ) (d : RoundView) → k < length rounds → (get_or rounds k d).number ≡ number → ⊥)
    → round_of (map (recorded_of logs) rounds) number ≡ None
round_of-none logs [] number each = refl
round_of-none logs (round ∷ rounds) number each =
    round_of-next (map (recorded_of logs) rounds) (recorded_of logs round) number (each 0 round
    (omega arith)) ∙ round_of-none logs rounds number (λ k d h. each (suc k) d (omega arith))

-- the round that is found has the number
pub round_of-number : (rounds : List RecordedRound) (number : ℕ) (round : RecordedRound)
    → round_of rounds number ≡ Some round → round.number ≡ number
round_of-number [] number round e = cc
round_of-number (x ∷ rounds) number round e = elim (cases_eq x.number number) [
  | inl same ↦ let here : Some x ≡ Some round = sym (round_of-here rounds x number same) ∙ e in let
      one : x ≡ round = cc in ap (λ (r : RecordedRound). r.number) (sym one) ∙ same
  | inr other ↦ round_of-number rounds number round (sym (round_of-next rounds x number other) ∙ e)
]

-- a marker comes to the round that stands there
with_marker-beyond : (b : ℕ) (logs : List (List MsgName)) (rounds : List RoundView) (p number : ℕ)
    → number ≤ b → IsAscending b rounds
    → with_marker (map (recorded_of logs) rounds) p number ≡ map (recorded_of logs) rounds
with_marker-beyond b logs [] p number le up = refl
with_marker-beyond b logs (round ∷ rounds) p number le up =
    let other : eqb round.number number
    ≡ false = ne_eqb round.number number (λ same. omega (arith, up.0)) in
    let r : RecordedRound = recorded_of logs round in
    ap (λ (t : Bool). (if t then with_channel r p (record (channel_at r p) { is_closed = true })
    else r) ∷ with_marker (map (recorded_of logs) rounds) p number) other
    ∙ ap (λ (rs : List RecordedRound). r ∷ rs)
    (with_marker-beyond round.number logs rounds p number (omega (arith, up.0)) up.1)

pub with_marker-at : (b : ℕ) (logs : List (List MsgName)) (rounds : List RoundView) (i p number : ℕ)
    (d : RoundView) → IsAscending b rounds → i < length rounds → (get_or rounds i d).number ≡ number
    → set (map (recorded_of logs) rounds) i (with_channel (recorded_of logs (get_or rounds i d)) p
    (record (channel_at (recorded_of logs (get_or rounds i d)) p) { is_closed = true }))
    ≡ with_marker (map (recorded_of logs) rounds) p number
with_marker-at b logs [] i p number d up h at = absurd (omega arith)
with_marker-at b logs (round ∷ rounds) zero p number d up h at =
    let same : eqb round.number number ≡ true = eq-eqb round.number number at in
    let r : RecordedRound = recorded_of logs round in
    let s : RecordedRound = with_channel r p (record (channel_at r p) { is_closed = true }) in
    ap (λ (rs : List RecordedRound). s ∷ rs)
    (sym (with_marker-beyond round.number logs rounds p number (omega arith) up.1))
    ∙ ap (λ (t : Bool). (if t then s else r) ∷ with_marker (map (recorded_of logs) rounds) p number)
    (sym same)
with_marker-at b logs (round ∷ rounds) (suc i) p number d up h at =
    let above : round.number <
    (get_or rounds i d).number = IsAscending-above round.number rounds i d up.1 (omega arith) in
    let other : eqb round.number number
    ≡ false = ne_eqb round.number number (λ same. omega arith) in
    let r : RecordedRound = recorded_of logs round in
    let s : RecordedRound = with_channel r p (record (channel_at r p) { is_closed = true }) in
    ap (λ (rs : List RecordedRound). r ∷ rs)
    (with_marker-at round.number logs rounds i p number d up.1 (omega arith) at)
    ∙ ap (λ (t : Bool). (if t then s else r) ∷ with_marker (map (recorded_of logs) rounds) p number)
    (sym other)

-- the rounds looked at from the newest on, of which none has the number
pub newest-more : (rounds : List RoundView) (i number : ℕ)
    → ((d : RoundView) → (get_or rounds i d).number ≢ number) →
    ((k : ℕ) (d : RoundView) → i + 1 ≤ k → k < length rounds → (get_or rounds k d).number ≢ number)
    → (k : ℕ) (d : RoundView) → i ≤ k → k < length rounds → (get_or rounds k d).number ≢ number
newest-more rounds i number here each k d le h same = elim (cases_eq k i) [
  | inl e ↦ here d (ap (λ j. (get_or rounds j d).number) (sym e) ∙ same)
  | inr ne ↦ each k d (omega arith) h same
]

-- a smaller number stands there, so none before it has the number
pub newest-below : (b : ℕ) (rounds : List RoundView) (i number : ℕ) → IsAscending b rounds
    → i < length rounds → ((d : RoundView) → (get_or rounds i d).number < number) →
    ((k : ℕ) (d : RoundView) → i + 1 ≤ k → k < length rounds → (get_or rounds k d).number ≢ number)
    → (k : ℕ) (d : RoundView) → k < length rounds → (get_or rounds k d).number ≡ number → ⊥
newest-below b rounds i number up within small each k d h same = elim (cases_lt k i) [
  | inl before ↦ let rise : (get_or rounds k d).number <
      (get_or rounds i d).number = IsAscending-rise b rounds k i d up before within in let below :
      (get_or rounds i d).number < number = small d in absurd (omega arith)
  | inr after ↦ newest-more rounds i number (λ e is. let below :
      (get_or rounds i e).number < number = small e in absurd (omega arith)) each k d after h same
]
