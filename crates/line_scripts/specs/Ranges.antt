-- Which scripts keep to the ranges that the fields of their records have.
use Rattle.std.specs.Prelude.{◌≡◌, ℕ, ◌≤◌, ◌<◌, ◌^◌, Bool, false, List, length}
use Rattle.std.specs.List.{AllByRecursion}
use Rattle.line_names.specs.declared.limits.TheConstants.{MOST_BODY, MOST_PROCESSES}
use Rattle.line_names.specs.Sets.{is_member}
use Rattle.line_tape.specs.declared.steps.Step.TheVariants.{Send, Deliver, Check, Begin, Turn}
use Rattle.line_tape.specs.declared.steps.Step.TheVariants.{Damage, Bar, Recover}
use Rattle.line_claims.specs.Ranges.{AreBytes, IsRoundNumber}
use Rattle.line_scripts.specs.declared.commands.Command.{Command}
use Rattle.line_scripts.specs.declared.commands.Command.TheVariants.{Bundle, Do, History, Refused}
use Rattle.line_scripts.specs.declared.commands.Command.TheVariants.{Answer, Forget, Live, Plan}
use Rattle.line_scripts.specs.declared.commands.Command.TheVariants.{Rounds, Save}
use Rattle.line_scripts.specs.Scripts.{Script}

-- a set of processes, of the first n
pub record IsSetAmong (n : ℕ) (set : List Bool) : Type 0 where
  pub whole : length set ≡ MOST_PROCESSES
  pub there : (p : ℕ) → n ≤ p → is_member set p ≡ false

-- a process among n, and a state of any length
abbrev pub IsWithState : ℕ → ℕ → List ℕ → Type 0
IsWithState n at state = (at < n) × AllByRecursion (λ byte. byte < 256) state

-- a process among n, and a check
abbrev pub IsWithCheck : ℕ → ℕ → ℕ → Type 0
IsWithCheck n at check = (at < n) × (check < 2 ^ 32)

-- a command among n processes, which is not refused before its step
abbrev pub IsCommandInRange : ℕ → Command → Type 0
IsCommandInRange n (Do (Send from to body)) = (from < n) × (to < n) × AreBytes MOST_BODY body
IsCommandInRange n (Do (Deliver from to picked state)) =
    (from < n) × (picked < 2 ^ 64) × IsWithState n to state
IsCommandInRange n (Do (Check at state)) = IsWithState n at state
IsCommandInRange n (Do (Begin at state)) = IsWithState n at state
IsCommandInRange n (Do (Turn at state)) = IsWithState n at state
IsCommandInRange n (Do (Damage at check)) = IsWithCheck n at check
IsCommandInRange n (Do (Bar at check)) = IsWithCheck n at check
IsCommandInRange n (Do (Recover failed)) = IsSetAmong n failed
IsCommandInRange n Rounds = Unit {0}
IsCommandInRange n History = Unit {0}
IsCommandInRange n (Bundle failed) = IsSetAmong n failed
IsCommandInRange n (Plan failed) = IsSetAmong n failed
IsCommandInRange n Live = Unit {0}
IsCommandInRange n (Answer failed) = IsSetAmong n failed
IsCommandInRange n (Forget round) = IsRoundNumber round
IsCommandInRange n Save = Unit {0}
IsCommandInRange n (Refused code) = ⊥

-- a script
pub record IsScriptInRange (script : Script) : Type 0 where
  pub some : 1 ≤ script.n
  pub few : script.n ≤ MOST_PROCESSES
  pub commands : AllByRecursion (IsCommandInRange script.n) script.commands
