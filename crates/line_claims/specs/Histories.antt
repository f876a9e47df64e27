-- Which history a list of records spells, and the first fault where it spells none.
use Rattle.std.specs.Prelude.{ℕ, zero, suc, ◌+◌, nat_le, nat_lt, ◌==◌, ◌&&◌, List, [], ◌∷◌, ◌++◌}
use Rattle.std.specs.Prelude.{drop, length, replicate, Result, Ok, codes}
use Rattle.line_fields.specs.declared.faults.Fault.{Fault}
use Rattle.line_fields.specs.declared.faults.Fault.TheVariants as faults
use Rattle.line_fields.specs.Fields.{◌>>=◌, want}
use Rattle.line_fields.specs.Records.{Record}
use Rattle.line_fields.specs.Shapes.{two, three}
use Rattle.line_tape.specs.declared.limits.TheConstants.{MOST_EVENTS}
use Rattle.line_tape.specs.History.{Process, fresh, tape_at, with_event, with_incarnation}
use Rattle.line_claims.specs.declared.faults.TextFault.{TextFault}
use Rattle.line_claims.specs.declared.versions.TheConstants.{LAST_CHECK_VERSION}
use Rattle.line_claims.specs.Events.{is_event, event_of}
use Rattle.line_claims.specs.Numbers.{plain, incarnation}
use Rattle.line_claims.specs.Parts.{Part, begins, first, many, is_named, one, several}
use Rattle.line_claims.specs.Reads.{at_record}
use Rattle.line_claims.specs.Versions.{floors_in, most_in}

-- history,V,N: the version and the number of processes
unfoldable pub head_of : Record → Result (ℕ × ℕ) Fault
head_of = two plain plain (λ version n. do
  known ← want (nat_le 1 version && nat_le version LAST_CHECK_VERSION) faults.BadVersion
  within ← want (nat_le 1 n && nat_le n (most_in version)) faults.BadCount
  Ok (version, n))

-- the version and the number of processes that the first record announces
abbrev pub head_in : List Record → Result (ℕ × ℕ) TextFault
head_in records =
    at_record 1
    (want (begins (is_named (codes "history")) records) faults.NoWorld >>= λ it. head_of
    (first records))

-- floor,P,C,SENDS of the process after those that these are of: the check that it begins with, and
-- how many of its first sends were let go
unfoldable pub one_floor_more : List (ℕ × ℕ) → Record → Result (List (ℕ × ℕ)) Fault
one_floor_more floors =
    three plain plain plain
    (λ number check sends. want (number == length floors) faults.BadRecord >>= λ next. Ok
    (floors ++ (check, sends) ∷ []))

-- what was let go of each of n processes, which follows the first record from version 4 on
abbrev pub floors_of : ℕ → ℕ → List Record → Result (Part (List (ℕ × ℕ))) TextFault
floors_of version n records =
    several (codes "floor") one_floor_more (floors_in version n) [] 2 (drop 1 records)

-- tape,P,INC of process p
unfoldable pub tape_of : ℕ → List Process → Record → Result (List Process) Fault
tape_of p history =
    two plain incarnation
    (λ number inc. want (number == p) faults.BadRecord >>= λ next. Ok
    (with_incarnation history p inc))

-- the event of a record stands at the end of the tape of process p, where that has room
unfoldable pub event_at : ℕ → List Process → Record → Result (List Process) Fault
event_at p history r = do
  event ← event_of (length history) r
  room ← want (nat_lt (length (tape_at history p)) MOST_EVENTS) faults.TapeFull
  Ok (with_event history p event)

-- the tape of process p, and its events
unfoldable pub tape_from : ℕ → List Process → ℕ → List Record
    → Result (Part (List Process)) TextFault
tape_from p history i records = do
  tape ← one (codes "tape") (tape_of p history) i records
  many is_event (event_at p) tape.value tape.number tape.left

-- the tapes of so many processes, the first of which is p
unfoldable pub tapes_from : ℕ → ℕ → List Process → ℕ → List Record
    → Result (Part (List Process)) TextFault
tapes_from p zero history i records = Ok (record { value = history; number = i; left = records })
tapes_from p (suc others) history i records = do
  tape ← tape_from p history i records
  tapes_from (p + 1) others tape.value tape.number tape.left

-- the history of n processes whose tapes records begin with, the first of which is the i-th
unfoldable pub front_of : ℕ → ℕ → List Record → Result (Part (List Process)) TextFault
front_of n i records = tapes_from 0 n (replicate n fresh) i records
