-- Where processes go on and what is sent again is written, and read again.
use Rattle.std.proofs.Common.{cond, inl, inr, ◌≡◌, ◌≤◌, ◌<◌, ℕ, ◌+◌, ◌==◌, ◌&&◌, Bool, true, false}
use Rattle.std.proofs.Common.{Option, Some, None, List, [], ◌∷◌, ◌++◌, length, Result, Ok, Err}
use Rattle.std.proofs.Common.{refl, sym, ap, ◌∙◌, arith, append_assoc, length-append, le-leb}
use Rattle.std.proofs.Common.{eq-eqb}
use Rattle.std.specs.Prelude.{codes, map, nat_le}
use Rattle.std.specs.List.{AllByRecursion}
use Rattle.std.specs.Str.{bytes_eq}
use Rattle.std.proofs.lemmas.Bool.{cases_Bool, lt-ltb}
use Rattle.std.proofs.lemmas.List.{append-nil}
use Rattle.std.proofs.lemmas.Slice.Eq.{bytes_eq-Decides}
use Rattle.line_check.specs.declared.answers.Replay.{Replay}
use Rattle.line_check.specs.declared.answers.Start.{Start}
use Rattle.line_fields.specs.declared.faults.Fault.TheVariants as faults
use Rattle.line_fields.specs.Fields.{◌>>=◌, hex}
use Rattle.line_fields.specs.Records.{Record}
use Rattle.line_fields.specs.Shapes.{three}
use Rattle.line_fields.specs.Texts.{hex_text}
use Rattle.line_fields.proofs.RoundLemmas.{hex_hex_text}
use Rattle.line_names.specs.declared.limits.TheConstants.{MOST_BODY, MOST_PROCESSES}
use Rattle.line_tape.specs.declared.limits.TheConstants.{MOST_STATE}
use Rattle.line_claims.specs.declared.faults.TextFault.{TextFault}
use Rattle.line_claims.specs.declared.numbers.TheConstants.{MOST_NUMBER}
use Rattle.line_claims.specs.Claims.{answer_version, is_replay}
use Rattle.line_claims.specs.Entries.{is_short, replay_of, start_of}
use Rattle.line_claims.specs.Numbers.{state_or_none}
use Rattle.line_claims.specs.Parts.{Part, begins, is_named, many, several}
use Rattle.line_claims.specs.Ranges.{AreBytes, IsReplayInRange, IsStartInRange, IsStateInRange}
use Rattle.line_claims.specs.Ranges.{version_with}
use Rattle.line_claims.specs.Records.{end_record, full_replay_record, rest_records, start_record}
use Rattle.line_claims.specs.Records.{starts_records, stored_text}
use Rattle.line_claims.specs.Versions.{starts_in}
use Rattle.line_claims.proofs.AgainLemmas.{one_again, part_to}
use Rattle.line_claims.proofs.ReadingLemmas.{first_more, many_end, several_next}
use Rattle.line_claims.proofs.SpellLemmas.{incarnation_again, plain_again}
use Rattle.line_claims.proofs.VersionLemmas.{starts_few}

pub and_false : (b : Bool) → (b && false) ≡ false
and_false true = refl
and_false false = refl

and_true : (b : Bool) → (b && true) ≡ b
and_true true = refl
and_true false = refl

-- no bytes are spelled as a sign for none is
dash_spells_nothing : hex (codes "-") ≡ Err faults.BadNumber
unfolding hex
dash_spells_nothing = refl

no_dash : (state : List ℕ) → AreBytes MOST_STATE state
    → bytes_eq (hex_text state) (codes "-") ≡ false
no_dash state bytes = elim (cases_Bool (bytes_eq (hex_text state) (codes "-"))) [
  | inl e ↦
      let same : hex_text state ≡ codes "-" = (bytes_eq-Decides (hex_text state) (codes "-")).0 e in
      let bad : Ok state ≡ Err faults.BadNumber = sym
      (hex_hex_text state bytes.fit) ∙ ap hex same ∙ dash_spells_nothing in
      absurd (cc bad)
  | inr e ↦ e
]

state_again : (state : Option (List ℕ)) → IsStateInRange state
    → state_or_none (stored_text state) ≡ Ok state
state_again None fit = refl
state_again (Some state) fit = rw (no_dash state fit, hex_hex_text state fit.fit) refl

state_is_short : (state : Option (List ℕ)) → IsStateInRange state → is_short state ≡ true
state_is_short None fit = refl
state_is_short (Some state) fit = le-leb (length state) MOST_STATE fit.few

start_again : (n : ℕ) (front : List Start) (start : Start) → n ≤ MOST_PROCESSES → length front < n
    → IsStartInRange start
    → start_of n front (start_record (length front) start) ≡ Ok (front ++ start ∷ [])
unfolding start_of three
start_again n front start few there fit =
    let wide : length front ≤ MOST_NUMBER = omega arith in
    rw (
      plain_again
          (length front) wide,
      incarnation_again start.inc fit.inc,
      state_again start.state fit.state,
      lt-ltb (length front) n there,
      eq-eqb (length front)
          (length front) refl,
      state_is_short start.state fit.state,
    ) refl

-- where the processes go on is read, process by process
starts_again : (n : ℕ) (front starts : List Start) (p i : ℕ) (more : List Record)
    → n ≤ MOST_PROCESSES → p ≡ length front → length front + length starts ≤ n
    → AllByRecursion IsStartInRange starts
    → (j : ℕ) × (several (codes "start") (start_of n) (length starts) front i
    (starts_records p starts ++ more) ≡ Ok (part_to (front ++ starts) j more))
unfolding several
starts_again n front [] p i more few at room fit =
    let P : List Start
    → Result (Part (List Start)) TextFault = λ starts. Ok (part_to starts i more) in
    (i, ap P (sym (append-nil front)))
starts_again n front (start ∷ others) p i more few at room fit =
    let next : List Start = front ++ start ∷ [] in
    let later : List Record = starts_records (p + 1) others ++ more in
    let there : length front < n = omega arith in
    let long : p + 1 ≡ length next = omega (arith, at, length-append front (start ∷ [])) in
    let left : length next + length others ≤ n = omega
    (arith, room, length-append front (start ∷ [])) in
    let read : start_of n front (start_record p start) ≡ Ok next = ap (λ (q : ℕ). start_of n front
    (start_record q start)) at ∙ start_again n front start few there fit.0 in
    let first = one_again (codes "start") (start_of n front) i
    (start_record p start) later next refl read in
    let rest = starts_again n next others (p + 1) (i + 1) more few long left fit.1 in
    let P : List Start
    → Result (Part (List Start)) TextFault = λ starts. Ok (part_to starts rest.0 more) in (
      rest.0,
      several_next (codes "start") (start_of n) (length others) front i
          (start_record p start ∷ later)
          ∙ ap (λ (read : Result (Part (List Start)) TextFault). read >>= λ s. several
          (codes "start") (start_of n) (length others) s.value s.number s.left) first
          ∙ rest.1 ∙ ap P (append_assoc front (start ∷ []) others),
    )

pub all_starts_again : (version n : ℕ) (starts : List Start) (i : ℕ) (more : List Record) → n ≤
    MOST_PROCESSES → length starts ≡ starts_in version n → AllByRecursion IsStartInRange starts
    → (j : ℕ) × (several (codes "start") (start_of n) (starts_in version n) [] i
    (starts_records 0 starts ++ more) ≡ Ok (part_to starts j more))
all_starts_again version n starts i more few counted fit =
    let room : 0 + length starts ≤ n = omega (arith, counted, starts_few version n) in
    let read = starts_again n [] starts 0 i more few refl room fit in (
      read.0,
      ap (λ (k : ℕ). several (codes "start") (start_of n) k [] i
          (starts_records 0 starts ++ more)) (sym counted) ∙ read.1,
    )

replay_again : (n : ℕ) (front : List Replay) (replay : Replay) → n ≤ MOST_PROCESSES
    → IsReplayInRange n replay
    → replay_of n front (full_replay_record replay) ≡ Ok (front ++ replay ∷ [])
unfolding replay_of
replay_again n front replay few fit =
    let from : replay.message.from < n = fit.from in
    let to : replay.to < n = fit.to in
    let sender : replay.message.from ≤ MOST_NUMBER = omega arith in
    let addressee : replay.to ≤ MOST_NUMBER = omega arith in
    rw (
      plain_again replay.message.from sender,
      incarnation_again replay.message.inc fit.inc,
      plain_again replay.message.number fit.number,
      plain_again replay.to addressee,
      plain_again
          replay.place fit.place,
      hex_hex_text replay.body fit.body.fit,
      lt-ltb replay.message.from n
          from,
      lt-ltb replay.to n to,
      le-leb (length replay.body) MOST_BODY fit.body.few,
    ) refl

-- the messages of records that are sent again, behind those so far
abbrev replays_from : ℕ → ℕ → List Replay → ℕ → List Record → Result (Part (List Replay)) TextFault
replays_from version n replays i records = many (is_replay version) (replay_of n) replays i records

replays_again : (version n : ℕ) (front replays : List Replay) (more : List Record) (i : ℕ)
    → n ≤ MOST_PROCESSES → nat_le 3 version ≡ true → AllByRecursion (IsReplayInRange n) replays
    → (j : ℕ) × (replays_from version n front i (map full_replay_record replays ++ more)
    ≡ replays_from version n (front ++ replays) j more)
replays_again version n front [] more i few known fit = (
  i,
  ap
      (λ (replays : List Replay). replays_from version n replays i more) (sym (append-nil front)),
)
replays_again version n front (replay ∷ replays) more i few known fit =
    let next : List Replay = front ++ replay ∷ [] in
    let is : is_replay version (full_replay_record replay) ≡ true = rw known refl in
    let first = first_more (is_replay version) (replay_of n) front next i
    (full_replay_record replay) (map full_replay_record replays ++ more) is
    (replay_again n front replay few fit.0) in
    let rest = replays_again version n next replays more (i + 1) few known fit.1 in (
      rest.0,
      first ∙ rest.1 ∙ ap (λ (listed : List Replay). replays_from version n listed rest.0
          more) (append_assoc front (replay ∷ []) replays),
    )

pub all_replays_again : (version n : ℕ) (replays : List Replay) (i : ℕ) → n ≤ MOST_PROCESSES
    → (nat_le 3 version ≡ false → replays ≡ []) → AllByRecursion (IsReplayInRange n) replays
    → (j : ℕ) × (replays_from version n [] i (map full_replay_record replays ++ end_record ∷ [])
    ≡ Ok (part_to replays j (end_record ∷ [])))
all_replays_again version n replays i few later fit = elim (cases_Bool (nat_le 3 version)) [
  | inl known ↦
      let read = replays_again version n [] replays (end_record ∷ []) i few known fit in (
        read.0,
        read.1 ∙ many_end (is_replay version) (replay_of n) replays read.0 (end_record ∷ [])
            (and_false (nat_le 3 version)),
      )
  | inr other ↦
      let none : replays ≡ [] = later other in
      let P : List Replay → Result (Part (List Replay)) TextFault = λ listed. Ok
      (part_to listed i (end_record ∷ [])) in (
        i,
        ap (λ (listed : List Replay). replays_from version n [] i
            (map full_replay_record listed ++ end_record ∷ [])) none
            ∙ many_end (is_replay version) (replay_of n) [] i (end_record ∷ [])
            (and_false (nat_le 3 version)) ∙ ap P (sym none),
      )
]

-- what stands behind the entries is no entry
pub rest_is_no_pass : (starts : List Start) (replays : List Replay)
    → begins (is_named (codes "pass")) (rest_records starts replays) ≡ false
rest_is_no_pass [] [] = refl
rest_is_no_pass [] (replay ∷ replays) = refl
rest_is_no_pass (start ∷ starts) replays = refl

-- as which version what stands behind the entries is read
pub answer_again : (version : ℕ) (starts : List Start) (replays : List Replay)
    → answer_version version (rest_records starts replays) ≡ version_with version starts
answer_again version [] [] = ap (λ (b : Bool). cond b 2 version) (and_true (version == 4))
answer_again version [] (replay ∷ replays) =
    ap (λ (b : Bool). cond b 2 version) (and_true (version == 4))
answer_again version (start ∷ starts) replays =
    ap (λ (b : Bool). cond b 2 version) (and_false (version == 4))
