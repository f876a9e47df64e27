-- How scripts are written, record by record.
use Rattle.std.specs.Prelude.{◌≡◌, ◌++◌, ℕ, List, [], ◌∷◌, length, map, Some, None, Ok}
use Rattle.std.specs.Prelude.{codes, decimal}
use Rattle.line_fields.specs.Records.{Record}
use Rattle.line_fields.specs.Texts.{hex_text}
use Rattle.line_tape.specs.declared.modes.Mode.{Mode}
use Rattle.line_tape.specs.declared.modes.Mode.TheVariants.{Fifo, Unordered}
use Rattle.line_tape.specs.declared.steps.Step.TheVariants.{Send, Deliver, Check, Begin, Turn}
use Rattle.line_tape.specs.declared.steps.Step.TheVariants.{Damage, Bar, Recover}
use Rattle.line_claims.specs.Numbers.{plain}
use Rattle.line_claims.specs.Records.{members}
use Rattle.line_claims.specs.Saved.{SavedParts, saved_records}
use Rattle.line_claims.specs.Texts.{records_in}
use Rattle.line_claims.specs.Versions.{earliest_version}
use Rattle.line_scripts.specs.declared.commands.Command.{Command}
use Rattle.line_scripts.specs.declared.commands.Command.TheVariants.{Bundle, Do, History, Refused}
use Rattle.line_scripts.specs.declared.commands.Command.TheVariants.{Answer, Forget, Live, Plan}
use Rattle.line_scripts.specs.declared.commands.Command.TheVariants.{Rounds, Save}
use Rattle.line_scripts.specs.Scripts.{Script}

-- how links deliver
abbrev pub mode_text : Mode → List ℕ
mode_text Fifo = codes "fifo"
mode_text Unordered = codes "unordered"

-- world,V,N,MODE, with any last field
abbrev pub world_record : ℕ → ℕ → List ℕ → Record
world_record version n mode = codes "world" ∷ decimal version ∷ decimal n ∷ mode ∷ []

-- a command among n processes; of one that is refused there is no record
abbrev pub command_record : ℕ → Command → Record
command_record n (Do (Send from to body)) =
    codes "send" ∷ decimal from ∷ decimal to ∷ hex_text body ∷ []
command_record n (Do (Deliver from to picked state)) =
    codes "deliver" ∷ decimal from ∷ decimal to ∷ decimal picked ∷ hex_text state ∷ []
command_record n (Do (Check at state)) = codes "check" ∷ decimal at ∷ hex_text state ∷ []
command_record n (Do (Begin at state)) = codes "begin" ∷ decimal at ∷ hex_text state ∷ []
command_record n (Do (Turn at state)) = codes "turn" ∷ decimal at ∷ hex_text state ∷ []
command_record n (Do (Damage at check)) = codes "damage" ∷ decimal at ∷ decimal check ∷ []
command_record n (Do (Bar at check)) = codes "bar" ∷ decimal at ∷ decimal check ∷ []
command_record n (Do (Recover failed)) = codes "recover" ∷ map decimal (members n failed)
command_record n Rounds = codes "rounds" ∷ []
command_record n History = codes "history" ∷ []
command_record n (Bundle failed) = codes "bundle" ∷ map decimal (members n failed)
command_record n (Plan failed) = codes "plan" ∷ map decimal (members n failed)
command_record n Live = codes "live" ∷ []
command_record n (Answer failed) = codes "answer" ∷ map decimal (members n failed)
command_record n (Forget None) = codes "forget" ∷ []
command_record n (Forget (Some round)) = codes "forget" ∷ decimal round ∷ []
command_record n Save = codes "save" ∷ []
command_record n (Refused code) = []

-- a script, in the earliest version that has room for its processes
abbrev pub script_records : Script → List Record
script_records script =
    world_record (earliest_version script.n) script.n (mode_text script.mode)
    ∷ map (command_record script.n) script.commands

-- a script that begins with a saved machine
abbrev pub saved_script_records : SavedParts → List Command → List Record
saved_script_records parts commands =
    saved_records parts ++ map (command_record (length parts.history)) commands

-- records of which the first is `world`, a version and these further fields
abbrev pub with_version : List ℕ → Record → List Record → List Record
with_version version others rest = (codes "world" ∷ version ∷ others) ∷ rest

-- a text of version 1, and one of version 2 that has the same records but for that, however the two
-- spell the version and end their lines
pub record DifferInVersion (text later : List ℕ) : Type 0 where
  pub one : List ℕ
  pub two : List ℕ
  pub others : Record
  pub rest : List Record
  pub is_one : plain one ≡ Ok 1
  pub is_two : plain two ≡ Ok 2
  pub text_is : records_in text ≡ Ok (with_version one others rest)
  pub later_is : records_in later ≡ Ok (with_version two others rest)
