-- Only memory stops a gathering that is refused for neither of the other causes.
use Rattle.std.proofs.Common.{◌≡◌, refl}
use Rattle.line_posts.specs.declared.refusals.GatherWhy.{GatherWhy}
use Rattle.line_posts.specs.declared.refusals.GatherWhy.TheVariants.{OutOfMemory, NoSuchProcess}
use Rattle.line_posts.specs.declared.refusals.GatherWhy.TheVariants.{Unfinished}

pub memory_alone : (why : GatherWhy) → (why ≡ NoSuchProcess → ⊥) → (why ≡ Unfinished → ⊥)
    → why ≡ OutOfMemory
memory_alone OutOfMemory process unfinished = refl
memory_alone NoSuchProcess process unfinished = absurd (process refl)
memory_alone Unfinished process unfinished = absurd (unfinished refl)
