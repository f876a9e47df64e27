-- Records that are written are read again.
use Rattle.std.proofs.Common.{inl, inr, ◌≡◌, ◌≤◌, ◌<◌, ℕ, ◌^◌, true, false, List, Option, Some}
use Rattle.std.proofs.Common.{None, length, Ok, refl, sym, ap, ◌∙◌, arith, le-leb, eq-eqb}
use Rattle.std.specs.Prelude.{codes, decimal}
use Rattle.std.specs.Str.{all_ascii_digits, bytes_eq}
use Rattle.std.proofs.lemmas.Bool.{cases_Bool, lt-ltb}
use Rattle.std.proofs.lemmas.Slice.Eq.{bytes_eq-Decides}
use Rattle.line_names.specs.declared.limits.TheConstants.{MOST_BODY, MOST_PROCESSES}
use Rattle.line_names.specs.declared.messages.MsgName.{MsgName}
use Rattle.line_fields.proofs.RoundLemmas.{all_ascii_digits-decimal, hex_hex_text, num_decimal}
use Rattle.line_tape.specs.declared.events.Event.{Event}
use Rattle.line_tape.specs.declared.events.Event.TheVariants.{Send, Recv, Check, Mark}
use Rattle.line_tape.specs.declared.limits.TheConstants.{LAST_INCARNATION, MOST_EVENTS, MOST_STATE}
use Rattle.line_tape.specs.declared.limits.TheConstants.{LAST_ROUND}
use Rattle.line_fields.specs.Shapes.{two, three}
use Rattle.line_tape.specs.History.{Process, tape_at, with_event, with_incarnation}
use Rattle.line_claims.specs.declared.versions.TheConstants.{LAST_CHECK_VERSION}
use Rattle.line_claims.specs.declared.numbers.TheConstants.{MOST_NUMBER}
use Rattle.line_claims.specs.Events.{send_event_of, recv_event_of, check_event_of, mark_event_of}
use Rattle.line_claims.specs.Events.{is_event}
use Rattle.line_claims.specs.Histories.{event_at, head_of, tape_of}
use Rattle.line_claims.specs.Numbers.{plain, incarnation, round, round_or_none}
use Rattle.line_claims.specs.Ranges.{AreBytes, IsEventInRange, IsRoundNumber}
use Rattle.line_claims.specs.Records.{event_record, history_record, number_text, tape_record}
use Rattle.line_claims.specs.Versions.{IsCheckVersion, most_in}
use Rattle.line_claims.proofs.VersionLemmas.{most_in_few}

pub plain_again : (n : ℕ) → n ≤ MOST_NUMBER → plain (decimal n) ≡ Ok n
plain_again n h = num_decimal 0 MOST_NUMBER n (omega arith) h (omega arith)

pub incarnation_again : (n : ℕ) → n ≤ LAST_INCARNATION → incarnation (decimal n) ≡ Ok n
incarnation_again n h = num_decimal 0 LAST_INCARNATION n (omega arith) h (omega arith)

pub round_again : (n : ℕ) → 1 ≤ n → n ≤ LAST_ROUND → round (decimal n) ≡ Ok n
round_again n l h = num_decimal 1 LAST_ROUND n l h (omega arith)

-- a number is no word
pub not_word : (n : ℕ) (word : List ℕ) → n < 2 ^ 64 → all_ascii_digits word ≡ false
    → bytes_eq (decimal n) word ≡ false
not_word n word fits h = elim (cases_Bool (bytes_eq (decimal n) word)) [
  | inl e ↦ let bad : true ≡ false = sym (all_ascii_digits-decimal n fits) ∙ ap all_ascii_digits
      ((bytes_eq-Decides (decimal n) word).0 e) ∙ h in cc
  | inr e ↦ e
]

pub round_or_none_again : (r : Option ℕ) → IsRoundNumber r → round_or_none (number_text r) ≡ Ok r
round_or_none_again None h = refl
round_or_none_again (Some r) h =
    let low : 1 ≤ r = h.0 in
    let high : r ≤ LAST_ROUND = h.1 in
    rw (not_word r (codes "-") (omega arith) refl, round_again r low high) refl

pub head_again : (version n : ℕ) → IsCheckVersion version → 1 ≤ n → n ≤ most_in version
    → head_of (history_record version n) ≡ Ok (version, n)
unfolding head_of two
head_again version n known low high =
    let first : 1 ≤ version = known.0 in
    let last : version ≤ LAST_CHECK_VERSION = known.1 in
    let wide : version ≤ MOST_NUMBER = omega arith in
    let few = most_in_few version in
    let small : n ≤ MOST_NUMBER = omega (arith, high, few) in
    rw (
      plain_again version wide,
      plain_again n small,
      le-leb 1 version first,
      le-leb version
          LAST_CHECK_VERSION last,
      le-leb 1 n low,
      le-leb n (most_in version) high,
    ) refl

send_again : (n to inc : ℕ) (body : List ℕ) → n ≤ MOST_PROCESSES → to < n → inc ≤ LAST_INCARNATION
    → AreBytes MOST_BODY body
    → send_event_of n (event_record (Send to inc body)) ≡ Ok (Send to inc body)
unfolding send_event_of three
send_again n to inc body few there small bytes =
    rw (
      plain_again to (omega arith),
      incarnation_again inc small,
      hex_hex_text body bytes.fit,
      lt-ltb to n there,
      le-leb (length body) MOST_BODY bytes.few,
    ) refl

recv_again : (n : ℕ) (m : MsgName) → n ≤ MOST_PROCESSES → m.from < n → m.inc ≤ LAST_INCARNATION
    → m.number ≤ MOST_NUMBER → recv_event_of n (event_record (Recv m)) ≡ Ok (Recv m)
unfolding recv_event_of three
recv_again n m few there small wide =
    let sender : m.from ≤ MOST_NUMBER = omega arith in
    rw (
      plain_again m.from sender,
      incarnation_again m.inc small,
      plain_again m.number wide,
      lt-ltb
          m.from n there,
    ) refl

check_again : (state : List ℕ) (r : Option ℕ) → AreBytes MOST_STATE state → IsRoundNumber r
    → check_event_of (event_record (Check state r)) ≡ Ok (Check state r)
unfolding check_event_of two
check_again state r bytes h =
    rw (
      hex_hex_text state bytes.fit,
      round_or_none_again r h,
      le-leb
          (length state) MOST_STATE bytes.few,
    ) refl

mark_again : (n from r : ℕ) → n ≤ MOST_PROCESSES → from < n → 1 ≤ r → r ≤ LAST_ROUND
    → mark_event_of n (event_record (Mark from r)) ≡ Ok (Mark from r)
unfolding mark_event_of two
mark_again n from r few there low high =
    rw (plain_again from (omega arith), round_again r low high, lt-ltb from n there) refl

pub event_again : (p n : ℕ) (history : List Process) (event : Event) → length history ≡ n
    → n ≤ MOST_PROCESSES → IsEventInRange n event → length (tape_at history p) < MOST_EVENTS
    → event_at p history (event_record event) ≡ Ok (with_event history p event)
unfolding event_at
event_again p n history (Send to inc body) is few h room = rw (
  is,
  send_again n to inc body few h.0
      h.1 h.2,
  lt-ltb (length (tape_at history p)) MOST_EVENTS room,
) refl
event_again p n history (Recv m) is few h room = rw
    (is, recv_again n m few h.0 h.1 h.2, lt-ltb (length (tape_at history p)) MOST_EVENTS room) refl
event_again p n history (Check state r) is few h room =
    rw (check_again state r h.0 h.1, lt-ltb (length (tape_at history p)) MOST_EVENTS room) refl
event_again p n history (Mark from r) is few h room = rw (
  is,
  mark_again n from r few h.0 h.1.0
      h.1.1,
  lt-ltb (length (tape_at history p)) MOST_EVENTS room,
) refl

pub event_is_event : (event : Event) → is_event (event_record event) ≡ true
event_is_event (Send to inc body) = refl
event_is_event (Recv m) = refl
event_is_event (Check state r) = refl
event_is_event (Mark from r) = refl

pub tape_again : (p inc : ℕ) (history : List Process) → p ≤ MOST_NUMBER → inc ≤ LAST_INCARNATION
    → tape_of p history (tape_record p inc) ≡ Ok (with_incarnation history p inc)
unfolding tape_of two
tape_again p inc history wide small =
    rw (plain_again p wide, incarnation_again inc small, eq-eqb p p refl) refl
