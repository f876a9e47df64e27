-- Which saved machine a text spells, how one is written, and the first fault where it spells none.
use Rattle.std.specs.Prelude.{ℕ, ◌+◌, ◌-◌, ◌==◌, List, [], ◌∷◌, ◌++◌, codes}
use Rattle.std.specs.Prelude.{decimal, drop, length, map, nat_lt, slice_index_or, Result, Ok}
use Rattle.line_fields.specs.declared.faults.Fault.{Fault}
use Rattle.line_fields.specs.declared.faults.Fault.TheVariants as faults
use Rattle.line_fields.specs.Fields.{◌>>=◌, num, want}
use Rattle.line_fields.specs.Records.{Record, field}
use Rattle.line_tape.specs.declared.limits.TheConstants.{LAST_ROUND}
use Rattle.line_tape.specs.Event.{checks}
use Rattle.line_tape.specs.History.{Process}
use Rattle.line_tape.specs.Views.{MarksView, no_marks}
use Rattle.line_claims.specs.declared.faults.TextFault.{TextFault}
use Rattle.line_claims.specs.declared.versions.TheConstants.{LAST_CHECK_VERSION}
use Rattle.line_claims.specs.Claims.{is_none}
use Rattle.line_claims.specs.Entries.{bar_of, damage_of}
use Rattle.line_claims.specs.Histories.{front_of, head_in}
use Rattle.line_claims.specs.Numbers.{round}
use Rattle.line_claims.specs.Parts.{Part, is_named, many, one}
use Rattle.line_claims.specs.Reads.{at_record}
use Rattle.line_claims.specs.Records.{front_records, marks_records}
use Rattle.line_claims.specs.Stages.{floors_left}
use Rattle.line_claims.specs.Texts.{records_in}

-- what is kept of a machine: what was let go of each process, the history that is left with its
-- marks, each listed round by its number with its check of each process, and the last round that
-- was begun, or 0; all in numbers of its own
pub record SavedParts : Type 0 where
  pub floors : List (ℕ × ℕ)
  pub history : List Process
  pub marks : MarksView
  pub rounds : List (ℕ × List ℕ)
  pub last : ℕ

-- ---- how it is written

-- a history with its marks, and what was let go before it
abbrev pub saved_front : List (ℕ × ℕ) → List Process → MarksView → List Record
saved_front floors history marks =
    front_records LAST_CHECK_VERSION floors history ++ marks_records marks

-- round,R,C0,C1,..
abbrev pub saved_round_record : ℕ → List ℕ → Record
saved_round_record number checks = codes "round" ∷ decimal number ∷ map decimal checks

-- saved,ROUND
abbrev pub saved_end_record : ℕ → Record
saved_end_record last = codes "saved" ∷ decimal last ∷ []

-- the listed rounds, and the last round that was begun
abbrev pub saved_rest : List (ℕ × List ℕ) → ℕ → List Record
saved_rest rounds last =
    map (λ (r : ℕ × List ℕ). saved_round_record r.0 r.1) rounds ++ saved_end_record last ∷ []

-- a saved machine
abbrev pub saved_records : SavedParts → List Record
saved_records parts =
    saved_front parts.floors parts.history parts.marks ++ saved_rest parts.rounds parts.last

-- ---- how it is read

-- the number of processes that the first record announces, in a text of version 4
abbrev pub saved_head_in : List Record → Result ℕ TextFault
saved_head_in records = do
  head ← head_in records
  known ← at_record 1 (want (head.0 == LAST_CHECK_VERSION) faults.BadVersion)
  Ok head.1

-- a check of each of these processes, from 0 to the last one that its tape has
unfoldable pub checks_among : List Process → Record → Result (List ℕ) Fault
checks_among [] fields = Ok []
checks_among (process ∷ others) fields = do
  check ← num 0 (checks process.tape) (field fields 0)
  more ← checks_among others (drop 1 fields)
  Ok (check ∷ more)

-- the number of the last of these rounds, or 0
abbrev pub last_listed : List (ℕ × List ℕ) → ℕ
last_listed rounds = (slice_index_or rounds (length rounds - 1) (0, [])).0

-- round,R,C0,C1,.. of a round after those before it
unfoldable pub one_round_more : List Process → List (ℕ × List ℕ) → Record
    → Result (List (ℕ × List ℕ)) Fault
one_round_more history rounds r = do
  long ← want (length r == length history + 2) faults.BadRecord
  number ← round (field r 1)
  found ← checks_among history (drop 2 r)
  next ← want (nat_lt (last_listed rounds) number) faults.BadRecord
  Ok (rounds ++ (number, found) ∷ [])

-- saved,ROUND: a round from the last listed one on
unfoldable pub last_round_of : List (ℕ × List ℕ) → Record → Result ℕ Fault
last_round_of rounds r =
    want (length r == 2) faults.BadRecord >>=
    λ long. num (last_listed rounds) LAST_ROUND (field r 1)

-- the machine that records begin with, the first of which is the first of the text, and what stands
-- after it
unfoldable pub saved_of : List Record → Result (Part SavedParts) TextFault
saved_of records = do
  n ← saved_head_in records
  floors ← floors_left n [] 2 (drop 1 records)
  front ← front_of n floors.number floors.left
  damage ← many (is_named (codes "damage")) (damage_of n) (no_marks n) front.number front.left
  marks ← many (is_named (codes "bar")) (bar_of n) damage.value damage.number damage.left
  rounds ← many (is_named (codes "round")) (one_round_more front.value) [] marks.number marks.left
  last ← one (codes "saved") (last_round_of rounds.value) rounds.number rounds.left
  Ok
      (record {
        value = record {
          floors = floors.value;
          history = front.value;
          marks = marks.value;
          rounds = rounds.value;
          last = last.value;
        };
        number = last.number;
        left = last.left;
      })

-- a machine after which nothing stands
abbrev pub saved_alone : Result (Part SavedParts) TextFault → Result SavedParts TextFault
saved_alone read = do
  saved ← read
  ended ← at_record saved.number (want (is_none saved.left) faults.BadRecord)
  Ok saved.value

-- the machine that a text spells, after which nothing stands
abbrev pub saved_of_text : List ℕ → Result SavedParts TextFault
saved_of_text text = records_in text >>= λ records. saved_alone (saved_of records)
