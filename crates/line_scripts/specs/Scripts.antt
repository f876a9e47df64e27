-- Which script a list of records spells, and the first fault where it spells none.
use Rattle.std.specs.Prelude.{ℕ, ◌+◌, nat_le, nat_lt, ◌==◌, ◌&&◌, Bool, List, [], ◌∷◌, drop, fold}
use Rattle.std.specs.Prelude.{length, Some, None, Result, Ok, Err, if◌then◌else◌, codes}
use Rattle.std.specs.Str.{bytes_eq}
use Rattle.std.specs.List.{list_all}
use Rattle.line_names.specs.declared.limits.TheConstants.{MOST_BODY}
use Rattle.line_names.specs.Sets.{nobody, with_member}
use Rattle.line_fields.specs.declared.faults.Fault.{Fault}
use Rattle.line_fields.specs.declared.faults.Fault.TheVariants as faults
use Rattle.line_fields.specs.Faults.{code_of}
use Rattle.line_fields.specs.Fields.{◌>>=◌, want, num, hex}
use Rattle.line_fields.specs.Records.{Record, field}
use Rattle.line_fields.specs.Shapes.{alone, two, three, four}
use Rattle.line_tape.specs.declared.modes.Mode.{Mode}
use Rattle.line_tape.specs.declared.modes.Mode.TheVariants.{Fifo, Unordered}
use Rattle.line_tape.specs.declared.steps.Step.{Step}
use Rattle.line_tape.specs.declared.steps.Step.TheVariants.{Send, Deliver, Check, Begin, Turn}
use Rattle.line_tape.specs.declared.steps.Step.TheVariants.{Damage, Bar, Recover}
use Rattle.line_scripts.specs.declared.commands.Command.{Command}
use Rattle.line_scripts.specs.declared.commands.Command.TheVariants.{Bundle, Do, History, Refused}
use Rattle.line_scripts.specs.declared.commands.Command.TheVariants.{Answer, Forget, Live, Plan}
use Rattle.line_scripts.specs.declared.commands.Command.TheVariants.{Rounds, Save}
use Rattle.line_claims.specs.declared.faults.TextFault.{TextFault}
use Rattle.line_claims.specs.declared.versions.TheConstants.{LAST_VERSION}
use Rattle.line_claims.specs.Numbers.{numbers, plain, round}
use Rattle.line_claims.specs.Reads.{fault_of_record, at_record}
use Rattle.line_claims.specs.Texts.{records_in}
use Rattle.line_claims.specs.Versions.{most_in}

-- a pick: the place of an item on a link
abbrev pub pick : List ℕ → Result ℕ Fault
pick text = num 0 18446744073709551615 text

-- how links deliver
abbrev pub mode_named : List ℕ → Result Mode Fault
mode_named text =
    if bytes_eq text (codes "fifo") then Ok Fifo
    else if bytes_eq text (codes "unordered") then Ok Unordered
    else Err faults.BadRecord

-- world,V,N,MODE: the number of processes, as many as version V has room for, and how links deliver
unfoldable pub world_of : Record → Result (ℕ × Mode) Fault
world_of r = do
  first ← want (bytes_eq (field r 0) (codes "world")) faults.NoWorld
  long ← want (length r == 4) faults.BadRecord
  version ← plain (field r 1)
  n ← plain (field r 2)
  known ← want (nat_le 1 version && nat_le version LAST_VERSION) faults.BadVersion
  within ← want (nat_le 1 n && nat_le n (most_in version)) faults.BadCount
  mode ← mode_named (field r 3)
  Ok (n, mode)

-- a command that is refused, before any step
abbrev pub refused_command : Fault → Command
refused_command fault = Refused (code_of fault)

-- a command whose processes are all below n, else one that is refused
abbrev pub below : ℕ → List ℕ → Command → Command
below n processes command =
    if list_all (λ p. nat_lt p n) processes then command else refused_command faults.NoSuchProcess

-- a command whose body isn't too long, else one that is refused
abbrev pub with_body : List ℕ → Command → Command
with_body body command =
    if nat_le (length body) MOST_BODY then command else refused_command faults.BodyTooLong

-- send,FROM,TO,HEX
unfoldable pub send_of : ℕ → Record → Result Command Fault
send_of n =
    three plain plain hex
    (λ from to body. Ok (below n (from ∷ to ∷ []) (with_body body (Do (Send from to body)))))

-- deliver,FROM,TO,PICK,HEX
unfoldable pub deliver_of : ℕ → Record → Result Command Fault
deliver_of n =
    four plain plain pick hex
    (λ from to picked state. Ok (below n (from ∷ to ∷ []) (Do (Deliver from to picked state))))

-- check,P,HEX, begin,P,HEX or turn,P,HEX: a step of a process with a state
unfoldable pub with_state : (ℕ → List ℕ → Step) → ℕ → Record → Result Command Fault
with_state step n = two plain hex (λ at state. Ok (below n (at ∷ []) (Do (step at state))))

-- damage,P,C or bar,P,C: a step of a process and one of its checks
unfoldable pub with_check : (ℕ → ℕ → Step) → ℕ → Record → Result Command Fault
with_check step n = two plain plain (λ at check. Ok (below n (at ∷ []) (Do (step at check))))

-- recover,P,.., bundle,P,.., plan,P,.. or answer,P,..: a command of processes, of none where no
-- field names one
unfoldable pub with_failed : (List Bool → Command) → ℕ → Record → Result Command Fault
with_failed command n r =
    numbers (drop 1 r) >>= λ failed. Ok (below n failed (command (fold with_member nobody failed)))

-- forget or forget,R: a command of no round, or of one
unfoldable pub forget_of : Record → Result Command Fault
forget_of r =
    if length r == 2 then (round (field r 1) >>= λ number. Ok (Forget (Some number)))
    else alone (Forget None) r

-- the command that a record spells, among n processes: the first field is its name
unfoldable pub command_in : ℕ → Record → Result Command Fault
command_in n r =
    if bytes_eq (field r 0) (codes "send") then send_of n r
    else if bytes_eq (field r 0) (codes "deliver") then deliver_of n r
    else if bytes_eq (field r 0) (codes "check") then with_state Check n r
    else if bytes_eq (field r 0) (codes "begin") then with_state Begin n r
    else if bytes_eq (field r 0) (codes "turn") then with_state Turn n r
    else if bytes_eq (field r 0) (codes "damage") then with_check Damage n r
    else if bytes_eq (field r 0) (codes "bar") then with_check Bar n r
    else if bytes_eq (field r 0) (codes "recover")
    then with_failed (λ failed. Do (Recover failed)) n r
    else if bytes_eq (field r 0) (codes "rounds") then alone Rounds r
    else if bytes_eq (field r 0) (codes "history") then alone History r
    else if bytes_eq (field r 0) (codes "bundle") then with_failed Bundle n r
    else if bytes_eq (field r 0) (codes "plan") then with_failed Plan n r
    else if bytes_eq (field r 0) (codes "live") then alone Live r
    else if bytes_eq (field r 0) (codes "answer") then with_failed Answer n r
    else if bytes_eq (field r 0) (codes "forget") then forget_of r
    else if bytes_eq (field r 0) (codes "save") then alone Save r
    else Err faults.BadRecord

-- the commands of the records from the i-th on
unfoldable pub commands_from : ℕ → ℕ → List Record → Result (List Command) TextFault
commands_from n i [] = Ok []
commands_from n i (r ∷ rest) = do
  command ← at_record i (command_in n r)
  others ← commands_from n (i + 1) rest
  Ok (command ∷ others)

-- the number of processes, how links deliver, and the commands in their order
pub record Script : Type 0 where
  pub n : ℕ
  pub mode : Mode
  pub commands : List Command

-- the script that records spell
unfoldable pub script_of : List Record → Result Script TextFault
script_of [] = Err (fault_of_record 1 faults.NoWorld)
script_of (first ∷ rest) = do
  world ← at_record 1 (world_of first)
  commands ← commands_from world.0 2 rest
  Ok (record { n = world.0; mode = world.1; commands = commands })

-- the script that a text spells
unfoldable pub script_of_text : List ℕ → Result Script TextFault
script_of_text text = records_in text >>= script_of
