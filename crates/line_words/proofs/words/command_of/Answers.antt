-- A drill's numbers lie in their ranges, and what an error of the words is told as has its cause
-- there.
use Rattle.std.proofs.Common.{IfOk, IfSome, IsSomeAnd, Err, None, Ok, Option, Result, Some, ◌≡◌}
use Rattle.std.proofs.Common.{◌∙◌, ◌⊎◌, List, inl, inr, subst, sym}
use Rattle.std.specs.Result.{result_ok}
use Rattle.clap.specs.Words.{IsAmong, Row, Text}
use Rattle.clap.specs.declared.error.kind.ErrorKind.{ErrorKind}
use Rattle.clap.specs.declared.error.kind.ErrorKind.TheVariants as errors
use Rattle.line_words.specs.declared.jobs.Job.{Job}
use Rattle.line_words.specs.declared.jobs.Job.TheVariants.{Check, Collect, Drill, Run, Serve}
use Rattle.line_words.specs.declared.faults.WordsFault.{WordsFault}
use Rattle.line_words.specs.declared.faults.WordsFault.TheVariants as faults
use Rattle.line_words.specs.Words.{HasCause, IsAskedBy, IsJobInRange, IsToldAs, refusals_of}
use Rattle.line_words.proofs.words.command_of.Goals as goal

no_help : errors.OutOfMemory ≡ errors.DisplayHelp → ⊥
no_help same = cc same

no_version : errors.OutOfMemory ≡ errors.DisplayVersion → ⊥
no_version same = cc same

told_for_cause : (words : List Text) (kind : ErrorKind) (fault : WordsFault)
    → (kind ≡ errors.OutOfMemory) ⊎ IsAmong kind (refusals_of words) → IsToldAs kind fault
    → HasCause words fault
told_for_cause words kind (faults.Help text) (inl memory) told =
    absurd (no_help (sym memory ∙ told))
told_for_cause words kind (faults.Help text) (inr among) told =
    subst (λ (k : ErrorKind). IsAmong k (refusals_of words)) told among
told_for_cause words kind (faults.Version text) (inl memory) told =
    absurd (no_version (sym memory ∙ told))
told_for_cause words kind (faults.Version text) (inr among) told =
    subst (λ (k : ErrorKind). IsAmong k (refusals_of words)) told among
told_for_cause words kind faults.Bad (inl memory) told = absurd (told.1 memory)
told_for_cause words kind faults.Bad (inr among) told =
    inr (record { kind = kind; among = among; other = told.0 })
told_for_cause words kind faults.OutOfMemory either told = tt

asked_in_range : (asked : Option (Text × List Row)) (job : Job) → IsSomeAnd asked (IsAskedBy job)
    → IsJobInRange job
asked_in_range None job is = absurd is
asked_in_range (Some asked) Run is = tt
asked_in_range (Some asked) (Serve from) is = tt
asked_in_range (Some asked) Collect is = tt
asked_in_range (Some asked) Check is = tt
asked_in_range (Some asked) (Drill workers rounds) is =
    (is.1.no_less, is.1.no_more, is.2.no_less, is.2.no_more)

found_in_range : {P : Job → Type 0} (r : Result Job WordsFault) (o : Option Job) → o ≡ result_ok r
    → IfSome o P → ((job : Job) → P job → IsJobInRange job) → IfOk r IsJobInRange
found_in_range (Ok job) (Some found) same h each =
    let is : found ≡ job = cc in subst IsJobInRange is (each found h)
found_in_range (Ok job) None same h each = absurd cc
found_in_range (Err fault) o same h each = tt

pub returns-in-Ok-clause-range : goal.returns-in-Ok-clause-range
returns-in-Ok-clause-range c = found_in_range _ _ c.ok_or.ensures.ok_part c.job_of.ensures.some
    (λ job h. asked_in_range _ job h)

pub returns-in-Err-clause-causes : goal.returns-in-Err-clause-causes
returns-in-Err-clause-causes c = told_for_cause _ _ _ c.in-Err.ensures.kinds c.fault_of.ensures.told
