-- The records of a history have plain fields.
use Rattle.std.proofs.Common.{cond, Bool, false, ◌≡◌, ◌≤◌, ◌<◌, ℕ, zero, suc, ◌+◌, ◌^◌, true, List}
use Rattle.std.proofs.Common.{[], ◌∷◌, Some, None, length, get_or, refl, arith, ◌∙◌, sym, ap, Ok}
use Rattle.std.specs.Prelude.{map, nat_le}
use Rattle.std.specs.List.{AllByRecursion, list_all}
use Rattle.std.proofs.lemmas.List.Folds.{list_all-append}
use Rattle.line_fields.specs.Records.{records_of_text}
use Rattle.line_fields.specs.Texts.{is_written, records_text}
use Rattle.line_fields.proofs.PlainLemmas.{plain_decimal, plain_hex}
use Rattle.line_fields.proofs.ReadAgain.{written_is_input, written_is_read}
use Rattle.line_tape.specs.declared.events.Event.{Event}
use Rattle.line_tape.specs.declared.events.Event.TheVariants.{Send, Recv, Check, Mark}
use Rattle.line_tape.specs.History.{Process}
use Rattle.line_claims.specs.declared.versions.TheConstants.{LAST_CHECK_VERSION}
use Rattle.line_claims.specs.declared.numbers.TheConstants.{MOST_NUMBER}
use Rattle.line_claims.specs.Ranges.{AreFloorsInRange, FitsMemory, FitsProcess, FitsWords}
use Rattle.line_claims.specs.Ranges.{IsHistoryInRange}
use Rattle.line_claims.specs.Records.{event_record, floors_records, front_records, tape_records}
use Rattle.line_claims.specs.Records.{tapes_records}
use Rattle.line_claims.specs.Texts.{history_of_text}
use Rattle.line_claims.specs.Versions.{IsCheckVersion, most_in}
use Rattle.line_claims.proofs.AgainLemmas.{history_again}
use Rattle.line_claims.proofs.MemoryLemmas.{history_fits, records_apart}
use Rattle.line_claims.proofs.VersionLemmas.{floors_few}

pub byte_at : (bytes : List ℕ) → AllByRecursion (λ byte. byte < 256) bytes → (i : ℕ)
    → get_or bytes i 0 < 256
byte_at [] fit i = omega arith
byte_at (byte ∷ rest) fit zero = fit.0
byte_at (byte ∷ rest) fit (suc i) = byte_at rest fit.1 i

event_is_written : (event : Event) → FitsWords event → is_written (event_record event) ≡ true
event_is_written (Send to inc body) h =
    let there : to < 2 ^ 32 = h.0 in
    let small : inc < 2 ^ 16 = h.1 in
    rw (
      plain_decimal to (omega arith),
      plain_decimal inc (omega arith),
      plain_hex body
          (byte_at body h.2),
    ) refl
event_is_written (Recv m) h =
    let there : m.from < 2 ^ 32 = h.0 in
    let small : m.inc < 2 ^ 16 = h.1 in
    let wide : m.number < 2 ^ 32 = h.2 in
    let sender : m.from < 2 ^ 64 = omega arith in
    let inc : m.inc < 2 ^ 64 = omega arith in
    let number : m.number < 2 ^ 64 = omega arith in
    rw (plain_decimal m.from sender, plain_decimal m.inc inc, plain_decimal m.number number) refl
event_is_written (Check state None) h = rw (plain_hex state (byte_at state h)) refl
event_is_written (Check state (Some r)) h =
    let word : r < 2 ^ 32 = h.1 in
    rw (plain_hex state (byte_at state h.0), plain_decimal r (omega arith)) refl
event_is_written (Mark from r) h =
    let there : from < 2 ^ 32 = h.0 in
    let word : r < 2 ^ 32 = h.1 in
    rw (plain_decimal from (omega arith), plain_decimal r (omega arith)) refl

events_are_written : (events : List Event) → AllByRecursion FitsWords events
    → list_all is_written (map event_record events) ≡ true
events_are_written [] fit = refl
events_are_written (event ∷ others) fit =
    rw (event_is_written event fit.0) (events_are_written others fit.1)

tape_is_written : (p : ℕ) (process : Process) → p < 2 ^ 32 → FitsProcess process
    → list_all is_written (tape_records p process) ≡ true
tape_is_written p process there fit =
    let small : process.incarnation < 2 ^ 16 = fit.0 in
    let inc : process.incarnation < 2 ^ 64 = omega arith in
    rw (plain_decimal p (omega arith), plain_decimal process.incarnation inc)
    (events_are_written process.tape fit.1)

tapes_are_written : (p : ℕ) (rest : List Process) → p + length rest < 2 ^ 32
    → AllByRecursion FitsProcess rest → list_all is_written (tapes_records p rest) ≡ true
tapes_are_written p [] room fit = refl
tapes_are_written p (process ∷ others) room fit =
    let one = tape_is_written p process (omega arith) fit.0 in
    let more = tapes_are_written (p + 1) others (omega arith) fit.1 in
    rw (
      list_all-append is_written (tape_records p process)
          (tapes_records (p + 1) others),
      one,
      more,
    ) refl

floors_are_written : (p : ℕ) (floors : List (ℕ × ℕ)) → p + length floors < 2 ^ 32
    → AllByRecursion (λ floor. (floor.0 ≤ MOST_NUMBER) × (floor.1 ≤ MOST_NUMBER)) floors
    → list_all is_written (floors_records p floors) ≡ true
floors_are_written p [] room fit = refl
floors_are_written p (floor ∷ others) room fit =
    let check : floor.0 ≤ MOST_NUMBER = fit.0.0 in
    let sends : floor.1 ≤ MOST_NUMBER = fit.0.1 in
    let a : p < 2 ^ 64 = omega (arith, room) in
    let b : floor.0 < 2 ^ 64 = omega (arith, check) in
    let c : floor.1 < 2 ^ 64 = omega (arith, sends) in
    rw (plain_decimal p a, plain_decimal floor.0 b, plain_decimal floor.1 c)
    (floors_are_written (p + 1) others (omega (arith, room)) fit.1)

memory_is_written : (version : ℕ) (floors : List (ℕ × ℕ)) (history : List Process)
    → IsCheckVersion version → AreFloorsInRange version (length history) floors → FitsMemory history
    → list_all is_written (front_records version floors history) ≡ true
memory_is_written version floors history known good fit =
    let few = fit.few in
    let last : version ≤ LAST_CHECK_VERSION = known.1 in
    let small : version < 2 ^ 64 = omega (arith, last) in
    let fits : length history < 2 ^ 64 = omega (arith, few) in
    let counted = good.counted in
    let room : 0 + length floors < 2 ^ 32 = omega
    (arith, few, counted, floors_few version (length history)) in
    rw (
      plain_decimal version small,
      plain_decimal (length history) fits,
      list_all-append is_written
          (floors_records 0 floors)
          (tapes_records 0 history),
      floors_are_written 0 floors room good.numbers,
    )
    (tapes_are_written 0 history (omega (arith, few)) fit.processes)

pub history_is_written : (version : ℕ) (floors : List (ℕ × ℕ)) (history : List Process)
    → IsCheckVersion version → AreFloorsInRange version (length history) floors
    → IsHistoryInRange history → list_all is_written (front_records version floors history) ≡ true
history_is_written version floors history known good fit =
    memory_is_written version floors history known good (history_fits history fit)

pub text_again : (version : ℕ) (floors : List (ℕ × ℕ)) (history : List Process)
    → IsCheckVersion version → AreFloorsInRange version (length history) floors
    → IsHistoryInRange history → length history ≤ most_in version
    → history_of_text (records_text (front_records version floors history)) ≡ Ok history
text_again version floors history known good fit room =
    let written = history_is_written version floors history known good fit in
    rw (
      written_is_input (front_records version floors history) written,
      written_is_read
          (front_records version floors history) written,
    )
    (history_again version floors history known good fit room)

-- the records of a history are read from its text
records_again : (version : ℕ) (floors : List (ℕ × ℕ)) (history : List Process)
    → IsCheckVersion version → AreFloorsInRange version (length history) floors → FitsMemory history
    → records_of_text (records_text (front_records version floors history))
    ≡ front_records version floors history
records_again version floors history known good fit = written_is_read
    (front_records version floors history) (memory_is_written version floors history known good fit)

-- one text is of one history
pub one_history : (version later : ℕ) (floors others : List (ℕ × ℕ)) (history other : List Process)
    → IsCheckVersion version → IsCheckVersion later
    → AreFloorsInRange version (length history) floors
    → AreFloorsInRange later (length other) others → FitsMemory history → FitsMemory other
    → records_text (front_records version floors history)
    ≡ records_text (front_records later others other) → history ≡ other
one_history version later floors others history other known also told heard fit good same =
    records_apart version later floors others history other fit good
    (sym (records_again version floors history known told fit) ∙ ap records_of_text same ∙
    records_again later others other also heard good)

-- a text of an earlier version tells of nothing that was let go
pub none_in_range : (version n : ℕ) → nat_le 4 version ≡ false → AreFloorsInRange version n []
none_in_range version n early =
    record { counted = ap (λ (b : Bool). cond b n 0) (sym early); numbers = tt }
