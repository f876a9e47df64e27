-- The numbers of the faults of a claim, and what is told of a check text.
use Rattle.std.proofs.Common.{◌≡◌, ℕ, List, [], ◌∷◌, Option, Ok, length, refl, ap, ◌∙◌, subst, sym}
use Rattle.std.proofs.Common.{arith}
use Rattle.line_check.specs.declared.answers.Replay.{Replay}
use Rattle.line_check.specs.declared.answers.Start.{Start}
use Rattle.line_check.specs.Answers.{WholeAnswer}
use Rattle.line_claims.specs.Claims.{Claim}
use Rattle.line_names.specs.declared.certificates.Passed.{Passed}
use Rattle.line_names.specs.declared.choices.Choice.{Choice}
use Rattle.line_check.specs.declared.faults.CertFault.{CertFault}
use Rattle.line_check.specs.declared.faults.FaultCode.{FaultCode}
use Rattle.line_check.specs.declared.faults.FaultCode.TheVariants as faults
use Rattle.line_claims.specs.Texts.{Check, check_of_text}
use Rattle.line_devices.specs.Devices.{Puts, PutsButEnd}
use Rattle.line_devices.proofs.PutLemmas.{puts_both}
use Rattle.line_fields.specs.Texts.{record_text}
use Rattle.line_text.specs.Judgings.{IsVerdict, IsVerdictOn, JudgesText, answer_in, fault_code}
use Rattle.line_text.specs.Judgings.{verdict_record}

pub code_is : (fault : FaultCode) (code : ℕ) → (fault ≡ faults.NotTop → code ≡ 11)
    → (fault ≡ faults.NotReceived → code ≡ 12) → (fault ≡ faults.NotOrphan → code ≡ 13)
    → (fault ≡ faults.LineDiffers → code ≡ 14) → (fault ≡ faults.NotConsistent → code ≡ 15)
    → (fault ≡ faults.BadShape → code ≡ 16) → (fault ≡ faults.StateDiffers → code ≡ 41)
    → (fault ≡ faults.IncarnationDiffers → code ≡ 42)
    → (fault ≡ faults.NotInTransit → code ≡ 43) → (fault ≡ faults.ReplayDiffers → code ≡ 44)
    → (fault ≡ faults.ReplayRepeated → code ≡ 45)
    → (fault ≡ faults.ReplayMissing → code ≡ 46) → code ≡ fault_code fault
code_is faults.NotTop code a b c d e f g h i j k l = a refl
code_is faults.NotReceived code a b c d e f g h i j k l = b refl
code_is faults.NotOrphan code a b c d e f g h i j k l = c refl
code_is faults.LineDiffers code a b c d e f g h i j k l = d refl
code_is faults.NotConsistent code a b c d e f g h i j k l = e refl
code_is faults.BadShape code a b c d e f g h i j k l = f refl
code_is faults.StateDiffers code a b c d e f g h i j k l = g refl
code_is faults.IncarnationDiffers code a b c d e f g h i j k l = h refl
code_is faults.NotInTransit code a b c d e f g h i j k l = i refl
code_is faults.ReplayDiffers code a b c d e f g h i j k l = j refl
code_is faults.ReplayRepeated code a b c d e f g h i j k l = k refl
code_is faults.ReplayMissing code a b c d e f g h i j k l = l refl

abbrev pub answer_with : List Choice → List Passed → List Start → List Replay → WholeAnswer
answer_with line certificate starts replays =
    record { line = line; certificate = certificate; starts = starts; replays = replays }

-- a claim does not say where the processes go on
pub verdict_none : (starts : List Start) (check : Check) (verdict : Option CertFault)
    → length starts ≡ 0 → IsVerdictOn [] check verdict → IsVerdictOn starts check verdict
verdict_none [] check verdict none on = on
verdict_none (start ∷ others) check verdict none on = absurd (omega (arith, none))

-- it does
pub verdict_some : (starts : List Start) (check : Check) (verdict : Option CertFault)
    → (length starts ≡ 0 → ⊥) → ((start : Start) (others : List Start)
    → IsVerdictOn (start ∷ others) check verdict) → IsVerdictOn starts check verdict
verdict_some [] check verdict some on = absurd (some refl)
verdict_some (start ∷ others) check verdict some on = on start others

-- the answer that is lent is the one that the claim has
pub answer_same : (claim : Claim) (certificate : List Passed) (starts : List Start) (replays : List
    Replay) → certificate ≡ claim.certificate → starts ≡ claim.starts → replays ≡ claim.replays
    → answer_with claim.line certificate starts replays ≡ answer_in claim
answer_same claim certificate starts replays a b c =
    ap (λ (xs : List Passed). answer_with claim.line xs starts replays) a ∙ ap
    (λ (xs : List Start). answer_with claim.line claim.certificate xs replays) b ∙ ap
    (answer_with claim.line claim.certificate claim.starts) c

-- the verdict on what a text spells was put
pub judges_text : (text : List ℕ) (check : Check) (verdict : Option CertFault)
    (old new : Option (List ℕ)) → check_of_text text ≡ Ok check → IsVerdict check verdict
    → Puts old new (record_text (verdict_record verdict))
    → JudgesText text verdict old new
judges_text text check verdict old new spelt judged put =
    record { check = check; spelt = spelt; judged = judged; put = put }

-- a text was put but for its end, and then its end
pub puts_end : (old mid new : Option (List ℕ)) (held text : List ℕ) → PutsButEnd old mid held text
    → Puts mid new held → Puts old new text
puts_end old mid new held text h put = subst (λ (t : List ℕ). Puts old new t) (sym h.parts)
    (puts_both old mid new h.front held h.put put)
