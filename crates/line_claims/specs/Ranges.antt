-- What keeps to the ranges that the fields of its records have.
use Rattle.std.specs.Prelude.{◌≡◌, ℕ, ◌≤◌, ◌<◌, ◌^◌, ◌==◌, nat_le, true, false, List, [], ◌∷◌}
use Rattle.std.specs.Prelude.{◌++◌, length, Option, Some, None, if◌then◌else◌}
use Rattle.std.specs.List.{AllByRecursion, list_any}
use Rattle.std.specs.Option.{is_some}
use Rattle.line_names.specs.declared.certificates.Passed.{Passed}
use Rattle.line_names.specs.declared.choices.Choice.{Choice}
use Rattle.line_names.specs.declared.choices.Choice.TheVariants.{Check as AtCheck, Now}
use Rattle.line_names.specs.Sets.{is_member}
use Rattle.line_names.specs.declared.limits.TheConstants.{MOST_BODY, MOST_PROCESSES}
use Rattle.line_check.specs.declared.answers.Replay.{Replay}
use Rattle.line_check.specs.declared.answers.Start.{Start}
use Rattle.line_tape.specs.declared.events.Event.{Event}
use Rattle.line_tape.specs.declared.events.Event.TheVariants.{Send, Recv, Check, Mark}
use Rattle.line_tape.specs.declared.limits.TheConstants.{LAST_INCARNATION, MOST_EVENTS, MOST_STATE}
use Rattle.line_tape.specs.declared.limits.TheConstants.{LAST_ROUND}
use Rattle.line_tape.specs.History.{Process}
use Rattle.line_claims.specs.declared.numbers.TheConstants.{MOST_NUMBER}
use Rattle.line_claims.specs.Claims.{Claim}
use Rattle.line_claims.specs.Versions.{floors_in, most_in, starts_in}

-- bytes, and at most so many
pub record AreBytes (most : ℕ) (bytes : List ℕ) : Type 0 where
  pub few : length bytes ≤ most
  pub fit : AllByRecursion (λ byte. byte < 256) bytes

-- a round, if there is one, is from 1 to 65,535
abbrev pub IsRoundNumber : Option ℕ → Type 0
IsRoundNumber None = Unit {0}
IsRoundNumber (Some round) = (1 ≤ round) × (round ≤ LAST_ROUND)

-- the numbers of an event, and what it carries; the processes that it names are below n
abbrev pub IsEventInRange : ℕ → Event → Type 0
IsEventInRange n (Send to inc body) = (to < n) × (inc ≤ LAST_INCARNATION) × AreBytes MOST_BODY body
IsEventInRange n (Recv message) =
    (message.from < n) × (message.inc ≤ LAST_INCARNATION) × (message.number ≤ MOST_NUMBER)
IsEventInRange n (Check state round) = AreBytes MOST_STATE state × IsRoundNumber round
IsEventInRange n (Mark from round) = (from < n) × IsRoundNumber (Some round)

-- a process, among n
pub record IsTapeInRange (n : ℕ) (process : Process) : Type 0 where
  pub incarnation : process.incarnation ≤ LAST_INCARNATION
  pub few : length process.tape ≤ MOST_EVENTS
  pub events : AllByRecursion (IsEventInRange n) process.tape

-- a history
pub record IsHistoryInRange (history : List Process) : Type 0 where
  pub some : 1 ≤ length history
  pub few : length history ≤ MOST_PROCESSES
  pub tapes : AllByRecursion (IsTapeInRange (length history)) history

-- the numbers of an event fit the words that memory holds them in: incarnations 16 bits, others 32,
-- and bytes 8
abbrev pub FitsWords : Event → Type 0
FitsWords (Send to inc body) =
    (to < 2 ^ 32) × (inc < 2 ^ 16) × AllByRecursion (λ byte. byte < 2 ^ 8) body
FitsWords (Recv message) =
    (message.from < 2 ^ 32) × (message.inc < 2 ^ 16) × (message.number < 2 ^ 32)
FitsWords (Check state None) = AllByRecursion (λ byte. byte < 2 ^ 8) state
FitsWords (Check state (Some round)) =
    AllByRecursion (λ byte. byte < 2 ^ 8) state × (round < 2 ^ 32)
FitsWords (Mark from round) = (from < 2 ^ 32) × (round < 2 ^ 32)

-- so do those of a process
abbrev pub FitsProcess : Process → Type 0
FitsProcess process = (process.incarnation < 2 ^ 16) × AllByRecursion FitsWords process.tape

-- a history can stand in memory
pub record FitsMemory (history : List Process) : Type 0 where
  pub few : length history < 2 ^ 32
  pub processes : AllByRecursion FitsProcess history

-- the round of an event, if it has one, is from 1 to 65,535
abbrev pub IsRoundInRange : Event → Type 0
IsRoundInRange (Check state round) = IsRoundNumber round
IsRoundInRange (Mark from round) = IsRoundNumber (Some round)
IsRoundInRange other = Unit {0}

-- so are the rounds of a history
abbrev pub AreRoundsInRange : List Process → Type 0
AreRoundsInRange history =
    AllByRecursion (λ process. AllByRecursion IsRoundInRange process.tape) history

-- a choice
abbrev pub IsChoice : Choice → Type 0
IsChoice (AtCheck check) = check ≤ MOST_NUMBER
IsChoice Now = Unit {0}

-- an entry, on a history of n processes
pub record IsEntryInRange (n : ℕ) (entry : Passed) : Type 0 where
  pub at : entry.at < n
  pub choice : IsChoice entry.choice
  pub from : entry.message.from < n
  pub inc : entry.message.inc ≤ LAST_INCARNATION
  pub number : entry.message.number ≤ MOST_NUMBER

-- further marks of a process, after these: none of the initial state, and none twice
abbrev pub AreMarks : List ℕ → List ℕ → Type 0
AreMarks before [] = Unit {0}
AreMarks before (check ∷ others) =
    (1 ≤ check) × (check ≤ MOST_NUMBER) × (list_any (λ mark. mark == check) before ≡ false)
    × AreMarks (before ++ check ∷ []) others

-- the check of a bar, if there is one
abbrev pub IsBar : Option ℕ → Type 0
IsBar None = Unit {0}
IsBar (Some check) = check ≤ MOST_NUMBER

-- a state, if there is one
abbrev pub IsStateInRange : Option (List ℕ) → Type 0
IsStateInRange None = Unit {0}
IsStateInRange (Some state) = AreBytes MOST_STATE state

-- where a process goes on
pub record IsStartInRange (start : Start) : Type 0 where
  pub inc : start.inc ≤ LAST_INCARNATION
  pub state : IsStateInRange start.state

-- a message that is sent again, among n processes
pub record IsReplayInRange (n : ℕ) (replay : Replay) : Type 0 where
  pub from : replay.message.from < n
  pub inc : replay.message.inc ≤ LAST_INCARNATION
  pub number : replay.message.number ≤ MOST_NUMBER
  pub to : replay.to < n
  pub place : replay.place ≤ MOST_NUMBER
  pub body : AreBytes MOST_BODY replay.body

-- what was let go of each of n processes, in a text of that version
pub record AreFloorsInRange (version n : ℕ) (floors : List (ℕ × ℕ)) : Type 0 where
  pub counted : length floors ≡ floors_in version n
  pub numbers : AllByRecursion (λ floor. (floor.0 ≤ MOST_NUMBER) × (floor.1 ≤ MOST_NUMBER)) floors

-- the version as which a claim is read that says this of where processes go on: one of version 4
-- that says nothing of it is as one of version 2
abbrev pub version_with : ℕ → List Start → ℕ
version_with version [] = if version == 4 then 2 else version
version_with version (start ∷ others) = version

-- a claim in a text of that version, on a history of as many processes as it has lists of marks
pub record IsClaimInRange (version : ℕ) (claim : Claim) : Type 0 where
  pub few : length claim.marks.damaged ≤ MOST_PROCESSES
  pub marks : AllByRecursion (AreMarks []) claim.marks.damaged
  pub barred : length claim.marks.bars ≡ length claim.marks.damaged
  pub bars : AllByRecursion IsBar claim.marks.bars
  pub whole : length claim.failed ≡ MOST_PROCESSES
  pub there : (p : ℕ) → length claim.marks.damaged ≤ p → is_member claim.failed p ≡ false
  pub some : 1 ≤ length claim.line
  pub short : length claim.line ≤ most_in version
  pub choices : AllByRecursion IsChoice claim.line
  pub entries : AllByRecursion (IsEntryInRange (length claim.marks.damaged)) claim.certificate
  pub known : list_any is_some claim.marks.bars ≡ true → nat_le 2 version ≡ true
  pub counted : length claim.starts
      ≡ starts_in (version_with version claim.starts) (length claim.marks.damaged)
  pub starts : AllByRecursion IsStartInRange claim.starts
  pub later : nat_le 3 (version_with version claim.starts) ≡ false → claim.replays ≡ []
  pub replays : AllByRecursion (IsReplayInRange (length claim.marks.damaged)) claim.replays
