-- Texts that spell the same are told the same.
use Rattle.std.proofs.Common.{◌≡◌, ◌≢◌, ℕ, List, [], ◌∷◌, ◌++◌, Option, Some, None, Ok, Err, sym}
use Rattle.std.proofs.Common.{subst, ◌∙◌}
use Rattle.std.specs.Prelude.{◌↔◌, codes}
use Rattle.line_fields.specs.declared.faults.Fault.TheVariants.{BadCount}
use Rattle.line_check.specs.declared.answers.Start.{Start}
use Rattle.line_check.specs.declared.faults.CertFault.{CertFault}
use Rattle.line_claims.specs.Reads.{fault_of_record}
use Rattle.line_claims.specs.Texts.{Check, check_of_text}
use Rattle.line_scripts.specs.Scripts.{script_of_text}
use Rattle.line_scripts.specs.Records.{DifferInVersion}
use Rattle.line_scripts.specs.RunScripts.{run_script_of_text}
use Rattle.line_scripts.proofs.LaterLemmas.{run_same_as_spelled, run_same_text}
use Rattle.line_text.specs.Judgings.{IsValid, IsVerdict, IsVerdictOn, JudgesText, JudgesTextFront}
use Rattle.line_text.specs.Runs.{RunsText, RunsTextFront, StopsText}

runs_other : (text other : List ℕ) (refused : ℕ) (old new : Option (List ℕ)) → run_script_of_text
    other ≡ run_script_of_text text → RunsText text refused old new → RunsText other refused old new
runs_other text other refused old new same h =
    record { script = h.script; spelt = same ∙ h.spelt; runs = h.runs }

front_other : (text other : List ℕ) (old new : Option (List ℕ)) → run_script_of_text other
    ≡ run_script_of_text text → RunsTextFront text old new → RunsTextFront other old new
front_other text other old new same h =
    record { script = h.script; spelt = same ∙ h.spelt; runs = h.runs }

stops_other : (text other : List ℕ) (record_number : ℕ) (old new : Option (List ℕ))
    → run_script_of_text other ≡ run_script_of_text text → StopsText text record_number old new
    → StopsText other record_number old new
stops_other text other record_number old new same h =
    record { script = h.script; spelt = same ∙ h.spelt; done = h.done; at = h.at; runs = h.runs }

-- a script of version 1 that has not too many processes for it
abbrev IsCounted : List ℕ → Type 0
IsCounted text = script_of_text (codes "world,1," ++ text) ≢ Err (fault_of_record 1 BadCount)

pub runs_alike : (text : List ℕ) (refused : ℕ) (old new : Option (List ℕ)) → IsCounted text
    → RunsText (codes "world,1," ++ text) refused old new
    ↔ RunsText (codes "world,2," ++ text) refused old new
runs_alike text refused old new good =
    let same = run_same_text text good in (
      runs_other (codes "world,1," ++ text) (codes "world,2," ++ text) refused old new same,
      runs_other (codes "world,2," ++ text) (codes "world,1," ++ text) refused old new (sym same),
    )

pub fronts_alike : (text : List ℕ) (old new : Option (List ℕ)) → IsCounted text → RunsTextFront
    (codes "world,1," ++ text) old new ↔ RunsTextFront (codes "world,2," ++ text) old new
fronts_alike text old new good =
    let same = run_same_text text good in (
      front_other (codes "world,1," ++ text) (codes "world,2," ++ text) old new same,
      front_other
          (codes "world,2," ++ text) (codes "world,1," ++ text) old new (sym same),
    )

pub stops_alike : (text : List ℕ) (record_number : ℕ) (old new : Option (List ℕ)) → IsCounted text
    → StopsText (codes "world,1," ++ text) record_number old new
    ↔ StopsText (codes "world,2," ++ text) record_number old new
stops_alike text record_number old new good =
    let same = run_same_text text good in (
      stops_other (codes "world,1," ++ text)
          (codes "world,2," ++ text) record_number old new same,
      stops_other
          (codes "world,2," ++ text) (codes "world,1," ++ text) record_number old new (sym same),
    )

-- a text that is not refused for the number of its processes
abbrev HasRoom : List ℕ → Type 0
HasRoom text = script_of_text text ≢ Err (fault_of_record 1 BadCount)

pub runs_as_spelled : (text later : List ℕ) (refused : ℕ) (old new : Option (List ℕ))
    → DifferInVersion text later → HasRoom text
    → RunsText text refused old new ↔ RunsText later refused old new
runs_as_spelled text later refused old new h good =
    let same = run_same_as_spelled text later h good in
    (runs_other text later refused old new same, runs_other later text refused old new (sym same))

pub fronts_as_spelled : (text later : List ℕ) (old new : Option (List ℕ)) → DifferInVersion text
    later → HasRoom text → RunsTextFront text old new ↔ RunsTextFront later old new
fronts_as_spelled text later old new h good =
    let same = run_same_as_spelled text later h good in
    (front_other text later old new same, front_other later text old new (sym same))

pub stops_as_spelled : (text later : List ℕ) (record_number : ℕ) (old new : Option (List ℕ))
    → DifferInVersion text later → HasRoom text
    → StopsText text record_number old new ↔ StopsText later record_number old new
stops_as_spelled text later record_number old new h good =
    let same = run_same_as_spelled text later h good in (
      stops_other text later record_number old new same,
      stops_other later text record_number old new
          (sym same),
    )

-- the verdict on what a text spells is the verdict on what another spells, which spells the same
pub judged_alike : (text later : List ℕ) (verdict : Option CertFault) (old new : Option (List ℕ))
    → ((check : Check) → check_of_text text ≡ Ok check → check_of_text later ≡ Ok check)
    → JudgesText text verdict old new → JudgesText later verdict old new
judged_alike text later verdict old new same h =
    record { check = h.check; spelt = same h.check h.spelt; judged = h.judged; put = h.put }

pub judged_front_alike : (text later : List ℕ) (old new : Option (List ℕ))
    → ((check : Check) → check_of_text text ≡ Ok check → check_of_text later ≡ Ok check)
    → JudgesTextFront text old new → JudgesTextFront later old new
judged_front_alike text later old new same h = record {
  check = h.check;
  verdict = h.verdict;
  spelt
      = same h.check h.spelt;
  judged = h.judged;
  put = h.put;
}

-- what was let go is no part of a verdict
valid_with : (check : Check) (floors : List (ℕ × ℕ)) → IsValid check
    → IsValid (record check { floors = floors })
valid_with check floors h = record { shape = h.shape; chain = h.chain; latest = h.latest }

verdict_with : (starts : List Start) (check : Check) (floors : List (ℕ × ℕ))
    (verdict : Option CertFault) → IsVerdictOn starts check verdict
    → IsVerdictOn starts (record check { floors = floors }) verdict
verdict_with [] check floors None h = valid_with check floors h
verdict_with [] check floors (Some fault) h = h
verdict_with (start ∷ others) check floors None h = (valid_with check floors h.0, h.1)
verdict_with (start ∷ others) check floors (Some fault) h = h

verdict_on : (one two : Check) (verdict : Option CertFault) → two.history ≡ one.history
    → two.claim ≡ one.claim → IsVerdict one verdict → IsVerdict two verdict
verdict_on one two verdict history claim h =
    rw (history, claim) (verdict_with one.claim.starts one two.floors verdict h)

-- the verdict on a text is the verdict on another, which spells the same history and claim
pub judged_the_same : (text later : List ℕ) (one two : Check) (verdict : Option CertFault)
    (old new : Option (List ℕ)) → check_of_text text ≡ Ok one → check_of_text later ≡ Ok two
    → two.history ≡ one.history → two.claim ≡ one.claim
    → JudgesText text verdict old new → JudgesText later verdict old new
judged_the_same text later one two verdict old new first second history claim h =
    let told : Ok h.check ≡ Ok one = sym h.spelt ∙ first in
    let same : h.check ≡ one = cc told in
    record {
      check = two;
      spelt = second;
      judged = verdict_on one two verdict history claim
          (subst (λ (check : Check). IsVerdict check verdict) same h.judged);
      put = h.put;
    }
