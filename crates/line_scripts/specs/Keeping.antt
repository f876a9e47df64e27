-- How commands are kept, each without its bytes, and the bytes of several in one list. No contract
-- that a caller reads needs this: there they are a list of commands.
use Rattle.std.specs.Prelude.{◌≡◌, ◌≤◌, ℕ, List, [], ◌∷◌, length, take, drop, Option, Some, None}
use Rattle.line_names.specs.declared.limits.TheConstants.{MOST_BODY}
use Rattle.line_fields.specs.declared.faults.Fault.TheVariants as faults
use Rattle.line_tape.specs.declared.steps.Step.TheVariants.{Send, Deliver, Check, Begin, Turn}
use Rattle.line_tape.specs.declared.steps.Step.TheVariants.{Damage, Bar, Recover}
use Rattle.line_scripts.specs.declared.commands.Command.{Command}
use Rattle.line_scripts.specs.declared.commands.Command.TheVariants.{Bundle, Do, History, Refused}
use Rattle.line_scripts.specs.declared.commands.Command.TheVariants.{Answer, Forget, Live, Plan}
use Rattle.line_scripts.specs.declared.commands.Command.TheVariants.{Rounds, Save}
use Rattle.line_scripts.specs.declared.keeping.Kept.{Kept}
use Rattle.line_scripts.specs.declared.keeping.Kept.TheVariants as kepts
use Rattle.line_scripts.specs.Scripts.{refused_command}

-- the command of what a record says of processes, if there are such
abbrev pub of_found : {A : Type 0} → (A → Command) → Option A → Command
of_found command None = refused_command faults.NoSuchProcess
of_found command (Some found) = command found

-- the command that a kept one and its bytes make
abbrev pub with_bytes : Kept → List ℕ → Command
with_bytes (kepts.Send from to long) bytes = Do (Send from to bytes)
with_bytes (kepts.Deliver from to picked long) bytes = Do (Deliver from to picked bytes)
with_bytes (kepts.DeliverFar from to far) bytes = Do (Deliver from to far.value.pick bytes)
with_bytes (kepts.Check at long) bytes = Do (Check at bytes)
with_bytes (kepts.Begin at long) bytes = Do (Begin at bytes)
with_bytes (kepts.Turn at long) bytes = Do (Turn at bytes)
with_bytes (kepts.Refused code long) bytes = Refused code
with_bytes (kepts.Damage at check) bytes = Do (Damage at check)
with_bytes (kepts.Bar at check) bytes = Do (Bar at check)
with_bytes (kepts.Recover failed) bytes = Do (Recover failed.value)
with_bytes kepts.Rounds bytes = Rounds
with_bytes kepts.History bytes = History
with_bytes (kepts.Bundle failed) bytes = Bundle failed.value
with_bytes (kepts.Plan failed) bytes = Plan failed.value
with_bytes kepts.Live bytes = Live
with_bytes (kepts.Answer failed) bytes = Answer failed.value
with_bytes (kepts.Forget round) bytes = Forget round
with_bytes kepts.Save bytes = Save

-- how many bytes it carries
abbrev pub long_of : Kept → ℕ
long_of (kepts.Send from to long) = long
long_of (kepts.Deliver from to picked long) = long
long_of (kepts.DeliverFar from to far) = far.value.long
long_of (kepts.Check at long) = long
long_of (kepts.Begin at long) = long
long_of (kepts.Turn at long) = long
long_of (kepts.Refused code long) = long
long_of other = 0

-- a message that it carries has no more bytes than a body may have
abbrev pub HasShortMessage : Kept → Type 0
HasShortMessage (kepts.Send from to long) = long ≤ MOST_BODY
HasShortMessage other = Unit {0}

-- what a list has after what it had
abbrev pub behind : List ℕ → List ℕ → List ℕ
behind old new = drop (length old) new

-- the commands that these and all their bytes make
abbrev pub commands_of_kept : List Kept → List ℕ → List Command
commands_of_kept [] bytes = []
commands_of_kept (k ∷ others) bytes =
    with_bytes k (take (long_of k) bytes) ∷ commands_of_kept others (drop (long_of k) bytes)

-- the bytes of each stand after those of the ones before it, and there are no others
abbrev pub ArePacked : List Kept → List ℕ → Type 0
ArePacked [] bytes = bytes ≡ []
ArePacked (k ∷ others) bytes =
    HasShortMessage k × (long_of k ≤ length bytes) × ArePacked others (drop (long_of k) bytes)
