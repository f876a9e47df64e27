-- A fault of a script that begins with a saved machine is one of the text.
use Rattle.std.proofs.Common.{cond, ◌≡◌, ℕ, zero, suc, ◌+◌, ◌-◌, List, [], ◌∷◌, drop, length, Ok}
use Rattle.std.proofs.Common.{Err, true, false}
use Rattle.std.specs.Prelude.{◌==◌, codes, replicate}
use Rattle.line_fields.specs.declared.faults.Fault.TheVariants as faults
use Rattle.line_fields.specs.Fields.{◌>>=◌, want}
use Rattle.line_fields.specs.Records.{Record}
use Rattle.line_tape.specs.History.{Process, fresh}
use Rattle.line_tape.specs.Views.{no_marks}
use Rattle.line_claims.specs.declared.faults.TextFault.{TextFault}
use Rattle.line_claims.specs.declared.saved_readers.SavedStage.{SavedStage}
use Rattle.line_claims.specs.declared.saved_readers.SavedStage.TheVariants as stages
use Rattle.line_claims.specs.declared.versions.TheConstants.{LAST_CHECK_VERSION}
use Rattle.line_claims.specs.Entries.{bar_of, damage_of}
use Rattle.line_claims.specs.Events.{is_event}
use Rattle.line_claims.specs.Histories.{event_at, front_of, head_in, one_floor_more}
use Rattle.line_claims.specs.Parts.{Part, is_named, many, one}
use Rattle.line_claims.specs.Reads.{IsOfText, at_record}
use Rattle.line_claims.specs.Saved.{SavedParts, last_round_of, one_round_more, saved_head_in}
use Rattle.line_claims.specs.Saved.{saved_of}
use Rattle.line_claims.specs.SavedReadings.{barred_left, damaged_left, last_left, part_left}
use Rattle.line_claims.specs.SavedReadings.{rounds_left, saved_left, taped_left}
use Rattle.line_claims.specs.Stages.{floors_left, open_tape, tapes_left}
use Rattle.line_claims.proofs.FaultLemmas.{OnlyOfText, both_faults, code_is_of_text}
use Rattle.line_claims.proofs.FaultLemmas.{fault_is_of_text, head_faults, many_faults}
use Rattle.line_claims.proofs.FaultLemmas.{numbered_faults, one_faults, several_faults}
use Rattle.line_claims.proofs.FaultLemmas.{tapes_faults}
use Rattle.line_scripts.specs.Pieces.{InCommands, InSaved, NothingTaken, TakenScript, script_left}
use Rattle.line_scripts.specs.Pieces.{with_commands}
use Rattle.line_scripts.specs.RunScripts.{FirstMachine, first_machine_of, new_first, processes_of}
use Rattle.line_scripts.specs.RunScripts.{run_script_of, saved_first, script_after}
use Rattle.line_scripts.specs.Scripts.{command_in, commands_from, world_of}

-- ---- a saved machine

-- that more records end
last_faults : (parts : SavedParts) (i : ℕ) (records : List Record)
    → OnlyOfText (last_left parts i records)
last_faults parts i records = both_faults (one (codes "saved") (last_round_of parts.rounds) i
    records) _ (one_faults (codes "saved") (last_round_of parts.rounds) i records) (λ last. tt)

rounds_faults : (parts : SavedParts) (i : ℕ) (records : List Record)
    → OnlyOfText (rounds_left parts i records)
rounds_faults parts i records =
    both_faults (many (is_named (codes "round"))
    (one_round_more parts.history) parts.rounds i records) _ (many_faults
    (is_named (codes "round")) (one_round_more parts.history) parts.rounds i records)
    (λ rounds. last_faults (record parts { rounds = rounds.value }) rounds.number rounds.left)

barred_faults : (n : ℕ) (parts : SavedParts) (i : ℕ) (records : List Record)
    → OnlyOfText (barred_left n parts i records)
barred_faults n parts i records =
    both_faults (many (is_named (codes "bar")) (bar_of n) parts.marks i records) _
    (many_faults (is_named (codes "bar")) (bar_of n) parts.marks i records)
    (λ marks. rounds_faults (record parts { marks = marks.value }) marks.number marks.left)

damaged_faults : (n : ℕ) (parts : SavedParts) (i : ℕ) (records : List Record)
    → OnlyOfText (damaged_left n parts i records)
damaged_faults n parts i records =
    both_faults (many (is_named (codes "damage")) (damage_of n) parts.marks i records) _
    (many_faults (is_named (codes "damage")) (damage_of n) parts.marks i records)
    (λ damage. barred_faults n (record parts { marks = damage.value }) damage.number damage.left)

open_faults : (tapes : ℕ) (history : List Process) (i : ℕ) (records : List Record)
    → OnlyOfText (open_tape tapes history i records)
open_faults zero history i records = tt
open_faults (suc p) history i records = many_faults is_event (event_at p) history i records

taped_faults : (n tapes : ℕ) (parts : SavedParts) (i : ℕ) (records : List Record)
    → OnlyOfText (taped_left n tapes parts i records)
taped_faults n tapes parts i records =
    both_faults (tapes_left n tapes parts.history i records) _
    (both_faults (open_tape tapes parts.history i records) _ (open_faults tapes parts.history i
    records) (λ tape. tapes_faults tapes (n - tapes) tape.value tape.number tape.left))
    (λ front. damaged_faults n (record parts { history = front.value }) front.number front.left)

part_faults : (stage : SavedStage) (n tapes : ℕ) (parts : SavedParts) (i : ℕ)
    (records : List Record) → OnlyOfText (part_left stage n tapes parts i records)
part_faults stages.Floors n tapes parts i records =
    both_faults (floors_left (n - length parts.floors) parts.floors i records) _ (several_faults
    (codes "floor") one_floor_more (n - length parts.floors) parts.floors i records)
    (λ floors. taped_faults n 0 (record parts { floors = floors.value }) floors.number floors.left)
part_faults stages.Tapes n tapes parts i records = taped_faults n tapes parts i records
part_faults stages.Damage n tapes parts i records = damaged_faults n parts i records
part_faults stages.Bars n tapes parts i records = barred_faults n parts i records
part_faults stages.Rounds n tapes parts i records = rounds_faults parts i records
part_faults stages.Nothing n tapes parts i records = tt

saved_faults : (records : List Record) → OnlyOfText (saved_of records)
unfolding saved_of front_of
saved_faults records =
    both_faults (saved_head_in records) _
    (both_faults (head_in records) _ (head_faults records)
    (λ head. both_faults (at_record 1 (want (head.0 == LAST_CHECK_VERSION) faults.BadVersion)) _
    (numbered_faults 1 (want (head.0 == LAST_CHECK_VERSION) faults.BadVersion)) (λ known. tt)))
    (λ n. both_faults (floors_left n [] 2 (drop 1 records)) _
    (several_faults (codes "floor") one_floor_more n [] 2 (drop 1 records))
    (λ floors. both_faults (front_of n floors.number floors.left) _
    (tapes_faults 0 n (replicate n fresh) floors.number floors.left)
    (λ front. both_faults
    (many (is_named (codes "damage")) (damage_of n) (no_marks n) front.number front.left) _
    (many_faults (is_named (codes "damage")) (damage_of n) (no_marks n) front.number front.left)
    (λ damage. both_faults
    (many (is_named (codes "bar")) (bar_of n) damage.value damage.number damage.left) _
    (many_faults (is_named (codes "bar")) (bar_of n) damage.value damage.number damage.left)
    (λ marks. both_faults
    (many (is_named (codes "round")) (one_round_more front.value) [] marks.number marks.left) _
    (many_faults (is_named (codes "round"))
    (one_round_more front.value) [] marks.number marks.left)
    (λ rounds. both_faults
    (one (codes "saved") (last_round_of rounds.value) rounds.number rounds.left) _
    (one_faults (codes "saved") (last_round_of rounds.value) rounds.number rounds.left)
    (λ last. tt)))))))

-- ---- the commands after it

commands_faults : (n i : ℕ) (rows : List Record) → OnlyOfText (commands_from n i rows)
unfolding commands_from
commands_faults n i [] = tt
commands_faults n i (r ∷ rest) =
    both_faults (at_record i (command_in n r)) _ (numbered_faults i (command_in n r))
    (λ command. both_faults (commands_from n (i + 1) rest) _ (commands_faults n (i + 1) rest)
    (λ others. tt))

after_faults : (machine : Part FirstMachine) → OnlyOfText (script_after machine)
after_faults machine =
    both_faults (commands_from (processes_of machine.value) machine.number machine.left) _
    (commands_faults (processes_of machine.value) machine.number machine.left) (λ commands. tt)

first_faults : (records : List Record) → OnlyOfText (first_machine_of records)
unfolding first_machine_of
first_faults [] = code_is_of_text 1 faults.NoWorld
first_faults (r ∷ rest) =
    elim (is_named (codes "history") r) as
    (λ b. OnlyOfText (cond b (saved_of (r ∷ rest) >>= λ saved. Ok (saved_first saved))
    (at_record 1 (world_of r) >>= λ world. Ok (new_first rest world)))) [
      | true ↦ both_faults (saved_of (r ∷ rest)) _ (saved_faults (r ∷ rest)) (λ saved. tt)
      | false ↦ both_faults (at_record 1 (world_of r)) _ (numbered_faults 1 (world_of r))
          (λ world. tt)
    ]

run_faults : (records : List Record) → OnlyOfText (run_script_of records)
unfolding run_script_of
run_faults records = both_faults (first_machine_of records) _ (first_faults records) after_faults

left_faults : (taken : TakenScript) (records : List Record) → OnlyOfText (script_left taken records)
left_faults NothingTaken records = run_faults records
left_faults (InSaved place number) records =
    both_faults (saved_left place number records) _
    (part_faults place.stage (length place.parts.history) place.tapes place.parts number
    records) (λ saved. after_faults (saved_first saved))
left_faults (InCommands machine start commands) records =
    both_faults (with_commands commands
    (commands_from (processes_of machine) (length commands + start) records)) _
    (both_faults (commands_from (processes_of machine) (length commands + start) records) _
    (commands_faults (processes_of machine) (length commands + start) records) (λ others. tt))
    (λ all. tt)

-- so is the fault of a call that read them
pub fault_of_left : (taken : TakenScript) (records : List Record) (fault : TextFault)
    → script_left taken records ≡ Err fault → IsOfText fault
fault_of_left taken records fault h =
    fault_is_of_text (script_left taken records) fault (left_faults taken records) h
