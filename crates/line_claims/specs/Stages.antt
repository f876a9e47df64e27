-- What records still spell of a claim or a history, the first parts of which were taken.
use Rattle.std.specs.Prelude.{◌≡◌, ℕ, zero, suc, ◌+◌, ◌-◌, List, [], ◌∷◌, Bool, true, false}
use Rattle.std.specs.Prelude.{length, Result, Ok, Err, codes}
use Rattle.line_check.specs.declared.answers.Start.{Start}
use Rattle.line_fields.specs.declared.faults.Fault.TheVariants as faults
use Rattle.line_fields.specs.Fields.{◌>>=◌, want}
use Rattle.line_fields.specs.Records.{Record}
use Rattle.line_names.specs.Sets.{nobody}
use Rattle.line_tape.specs.History.{Process}
use Rattle.line_tape.specs.Views.{no_marks}
use Rattle.line_claims.specs.declared.claims.ClaimStage.{ClaimStage}
use Rattle.line_claims.specs.declared.claims.ClaimStage.TheVariants as stages
use Rattle.line_claims.specs.declared.faults.TextError.{TextError}
use Rattle.line_claims.specs.declared.faults.TextFault.{TextFault}
use Rattle.line_claims.specs.Claims.{Claim, answer_version, is_bar, is_none, is_replay}
use Rattle.line_claims.specs.Entries.{bar_of, damage_of, end_of, entry_of, failed_of, line_of}
use Rattle.line_claims.specs.Entries.{replay_of, start_of}
use Rattle.line_claims.specs.Events.{is_event}
use Rattle.line_claims.specs.Histories.{event_at, one_floor_more, tapes_from}
use Rattle.line_claims.specs.Parts.{Part, is_named, many, one, several}
use Rattle.line_claims.specs.Reads.{FailsText, at_record}
use Rattle.line_claims.specs.Versions.{starts_in}

-- a claim of which nothing was taken
abbrev pub no_claim : ℕ → Claim
no_claim n =
    record {
      marks = no_marks n;
      failed = nobody;
      line = [];
      certificate = [];
      starts = [];
      replays = [];
    }

-- the claim that these records end, from the i-th on, of which all was taken
abbrev pub nothing_left : Claim → ℕ → List Record → Result Claim TextFault
nothing_left claim i records =
    at_record i (want (is_none records) faults.BadRecord) >>= λ last. Ok claim

-- that they end with its end
abbrev pub end_left : Claim → ℕ → List Record → Result Claim TextFault
end_left claim i records = do
  end ← one (codes "end") end_of i records
  nothing_left claim end.number end.left

-- that they end with more messages that are sent again
abbrev pub replays_left : ℕ → ℕ → Claim → ℕ → List Record → Result Claim TextFault
replays_left version n claim i records = do
  replays ← many (is_replay version) (replay_of n) claim.replays i records
  end_left (record claim { replays = replays.value }) replays.number replays.left

-- of how many of so many processes it was not taken where they go on
abbrev pub starts_to_come : ℕ → List Start → ℕ
starts_to_come count [] = count
starts_to_come count (start ∷ others) = count - length (start ∷ others)

-- that they end with where the processes go on of which that was not taken
abbrev pub starts_left : ℕ → ℕ → Claim → ℕ → List Record → Result Claim TextFault
starts_left version n claim i records = do
  starts ← several (codes "start") (start_of n)
      (starts_to_come (starts_in version n) claim.starts) claim.starts i records
  replays_left version n (record claim { starts = starts.value }) starts.number starts.left

-- that they end with what follows the entries
abbrev pub answer_left : ℕ → ℕ → Claim → ℕ → List Record → Result Claim TextFault
answer_left version n claim i records =
    starts_left (answer_version version records) n claim i records

-- that they end with more entries
abbrev pub entries_left : ℕ → ℕ → Claim → ℕ → List Record → Result Claim TextFault
entries_left version n claim i records = do
  entries ← many (is_named (codes "pass")) (entry_of n) claim.certificate i records
  answer_left version n (record claim { certificate = entries.value }) entries.number entries.left

-- that they end with a line
abbrev pub line_left : ℕ → ℕ → Claim → ℕ → List Record → Result Claim TextFault
line_left version n claim i records = do
  line ← one (codes "line") (line_of version) i records
  entries_left version n (record claim { line = line.value }) line.number line.left

-- that they end with the processes that failed
abbrev pub failed_left : ℕ → ℕ → Claim → ℕ → List Record → Result Claim TextFault
failed_left version n claim i records = do
  failed ← one (codes "failed") (failed_of n) i records
  line_left version n (record claim { failed = failed.value }) failed.number failed.left

-- that they end with more bars
abbrev pub bars_left : ℕ → ℕ → Claim → ℕ → List Record → Result Claim TextFault
bars_left version n claim i records = do
  marks ← many (is_bar version) (bar_of n) claim.marks i records
  failed_left version n (record claim { marks = marks.value }) marks.number marks.left

-- that they end with more marks of damage
abbrev pub damage_left : ℕ → ℕ → Claim → ℕ → List Record → Result Claim TextFault
damage_left version n claim i records = do
  damage ← many (is_named (codes "damage")) (damage_of n) claim.marks i records
  bars_left version n (record claim { marks = damage.value }) damage.number damage.left

-- that they end from that part on
abbrev pub claim_left : ClaimStage → ℕ → ℕ → Claim → ℕ → List Record → Result Claim TextFault
claim_left stages.Damage version n claim i records = damage_left version n claim i records
claim_left stages.Bars version n claim i records = bars_left version n claim i records
claim_left stages.Line version n claim i records = line_left version n claim i records
claim_left stages.Entries version n claim i records = entries_left version n claim i records
claim_left stages.Starts version n claim i records = starts_left version n claim i records
claim_left stages.Replays version n claim i records = replays_left version n claim i records
claim_left stages.Nothing version n claim i records = nothing_left claim i records

-- what was let go of so many more processes, after those of which that was taken
abbrev pub floors_left : ℕ → List (ℕ × ℕ) → ℕ → List Record → Result (Part (List (ℕ × ℕ))) TextFault
floors_left others floors i records =
    several (codes "floor") one_floor_more others floors i records

-- the number of the record after a part, and that record with those after it
pub record PartEnd : Type 0 where
  pub number : ℕ
  pub left : List Record

-- where a part that was read ends
abbrev pub part_end : {A : Type 0} → Result (Part A) TextFault → Result PartEnd TextFault
part_end read = do
  part ← read
  Ok (record { number = part.number; left = part.left })

-- the tape that was begun last, with the events that these records go on with
abbrev pub open_tape : ℕ → List Process → ℕ → List Record → Result (Part (List Process)) TextFault
open_tape zero history i records = Ok (record { value = history; number = i; left = records })
open_tape (suc p) history i records = many is_event (event_at p) history i records

-- the history of n processes that these records go on with, so many tapes of which were begun
abbrev pub tapes_left : ℕ → ℕ → List Process → ℕ → List Record
    → Result (Part (List Process)) TextFault
tapes_left n tapes history i records = do
  tape ← open_tape tapes history i records
  tapes_from tapes (n - tapes) tape.value tape.number tape.left

-- a record was of the tapes, or the history is whole and ends before it
abbrev pub with_tape : Bool → ℕ → ℕ → List Process → ℕ → Record → List Record
    → Result (Part (List Process)) TextFault
with_tape true n tapes history i r rest = tapes_left n tapes history (i + 1) rest
with_tape false n tapes history i r rest =
    Ok (record { value = history; number = i; left = r ∷ rest })

-- a history that ends here
abbrev pub whole_front : Result (Part (List Process)) TextFault → Result (List Process) TextFault
whole_front read = do
  front ← read
  ended ← at_record front.number (want (is_none front.left) faults.BadRecord)
  Ok front.value

-- what was to be read of a record and any after it is what is to be read of these, or fails
abbrev pub Goes : {A B : Type 0} → Result B TextError → (List Record → Result A TextFault)
    → (B → List Record → Result A TextFault) → Record → Type 0
Goes (Ok x) old new r = (rest : List Record) → old (r ∷ rest) ≡ new x rest
Goes (Err e) old new r = (rest : List Record) → FailsText e (old (r ∷ rest))
