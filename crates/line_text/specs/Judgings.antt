-- What is told of a history and a claim on it.
use Rattle.std.specs.Prelude.{◌≡◌, ℕ, List, [], ◌∷◌, Option, Some, None, Ok, codes, decimal}
use Rattle.line_check.specs.declared.faults.CertFault.{CertFault}
use Rattle.line_check.specs.declared.faults.FaultCode.{FaultCode}
use Rattle.line_check.specs.declared.faults.FaultCode.TheVariants as faults
use Rattle.line_check.specs.declared.answers.Start.{Start}
use Rattle.line_check.specs.Answers.{WholeAnswer, IsRightAnswer}
use Rattle.line_check.specs.Faults.{IsFirstFaultOfAnswer}
use Rattle.line_check.specs.Shape.{HasShape}
use Rattle.line_check.specs.Verdict.{IsFirstFault}
use Rattle.line_claims.specs.Claims.{Claim}
use Rattle.line_claims.specs.Faults.{name_of}
use Rattle.line_claims.specs.Records.{number_text}
use Rattle.line_claims.specs.Texts.{Check, check_of_text}
use Rattle.line_devices.specs.Devices.{Puts, PutsFront}
use Rattle.line_fields.specs.Records.{Record}
use Rattle.line_fields.specs.Texts.{record_text}
use Rattle.line_tape.specs.Chain.{IsChain}
use Rattle.line_tape.specs.Survival.{IsLatest}

-- a claim names only what its history has, its entries are a chain that is valid for its line, and
-- so that line is the latest
pub record IsValid (check : Check) : Type 0 where
  pub shape : HasShape check.history check.claim.marks check.claim.failed check.claim.certificate
      check.claim.line
  pub chain : IsChain check.history check.claim.marks check.claim.failed check.claim.certificate
      check.claim.line
  pub latest : IsLatest check.history check.claim.marks check.claim.failed check.claim.line

-- the answer to a recovery that a claim has
abbrev pub answer_in : Claim → WholeAnswer
answer_in claim =
    record {
      line = claim.line;
      certificate = claim.certificate;
      starts = claim.starts;
      replays = claim.replays;
    }

-- nothing is wrong with a claim, or this is the first thing that is: of its line and certificate
-- where it does not say where the processes go on, and else of the whole answer
abbrev pub IsVerdictOn : List Start → Check → Option CertFault → Type 0
IsVerdictOn [] check None = IsValid check
IsVerdictOn [] check (Some fault) =
    IsFirstFault check.history check.claim.marks check.claim.failed check.claim.certificate
    check.claim.line fault.entry fault.code
IsVerdictOn (start ∷ others) check None =
    IsValid check
    × IsRightAnswer check.history check.claim.marks check.claim.failed (answer_in check.claim)
IsVerdictOn (start ∷ others) check (Some fault) =
    IsFirstFaultOfAnswer check.history check.claim.marks check.claim.failed (answer_in check.claim)
    fault

-- by whether it says where the processes go on
abbrev pub IsVerdict : Check → Option CertFault → Type 0
IsVerdict check verdict = IsVerdictOn check.claim.starts check verdict

-- the number of a fault of a claim
abbrev pub fault_code : FaultCode → ℕ
fault_code faults.NotTop = 11
fault_code faults.NotReceived = 12
fault_code faults.NotOrphan = 13
fault_code faults.LineDiffers = 14
fault_code faults.NotConsistent = 15
fault_code faults.BadShape = 16
fault_code faults.StateDiffers = 41
fault_code faults.IncarnationDiffers = 42
fault_code faults.NotInTransit = 43
fault_code faults.ReplayDiffers = 44
fault_code faults.ReplayRepeated = 45
fault_code faults.ReplayMissing = 46

-- valid, or invalid,ENTRY,CODE,NAME: the entry that the fault is of, counted from 0, where it is of
-- one
abbrev pub verdict_record : Option CertFault → Record
verdict_record None = codes "valid" ∷ []
verdict_record (Some fault) =
    codes "invalid" ∷ number_text fault.entry ∷ decimal (fault_code fault.code)
    ∷ name_of (fault_code fault.code) ∷ []

-- the text spells a history and a claim on it, which are told this, and the record of that was put
pub record JudgesText (text : List ℕ) (verdict : Option CertFault)
    (old new : Option (List ℕ)) : Type 0 where
  pub check : Check
  pub spelt : check_of_text text ≡ Ok check
  pub judged : IsVerdict check verdict
  pub put : Puts old new (record_text (verdict_record verdict))

-- of the record of what they are told a front was put
pub record JudgesTextFront (text : List ℕ) (old new : Option (List ℕ)) : Type 0 where
  pub check : Check
  pub verdict : Option CertFault
  pub spelt : check_of_text text ≡ Ok check
  pub judged : IsVerdict check verdict
  pub put : PutsFront old new (record_text (verdict_record verdict))
