-- The command line of the program, and the job that the words of one ask for.
use Rattle.std.specs.Prelude.{◌≡◌, ◌≢◌, ◌⊎◌, ◌≤◌, ℕ, List, [], ◌∷◌, IsSomeAnd, Option, None, Some}
use Rattle.std.specs.Prelude.{codes, if◌then◌else◌, option_map, true, ⊤}
use Rattle.std.specs.Str.{bytes_eq}
use Rattle.std.specs.Str.Parse.{IsNumeral, digits_value, without_leading_plus}
use Rattle.clap.specs.Words.{App, IsAmong, Kinds, Row, Rule, Text, fault_of, new_app, new_rule}
use Rattle.clap.specs.Words.{first_of, one_of, subcommand_of, takes, with_rule, with_subcommand}
use Rattle.clap.specs.Simple.{on_top}
use Rattle.clap.specs.declared.error.kind.ErrorKind.{ErrorKind}
use Rattle.clap.specs.declared.error.kind.ErrorKind.TheVariants as errors
use Rattle.line_words.specs.declared.jobs.TheConstants.{MOST_DRILL_WORKERS}
use Rattle.line_words.specs.declared.jobs.Job.{Job}
use Rattle.line_words.specs.declared.jobs.Job.TheVariants.{Check, Collect, Drill, Run, Serve}
use Rattle.line_words.specs.declared.faults.WordsFault.{WordsFault}
use Rattle.line_words.specs.declared.faults.WordsFault.TheVariants as faults

-- an option with one value, and the value that it has where it isn't given
abbrev pub option : Text → Text → Rule
option name default =
    record (new_rule name) { long = Some name; value_names = 1; defaults = default ∷ [] }

-- an option with one value, which has none where it isn't given
abbrev pub own_option : Text → Rule
own_option name = record (new_rule name) { long = Some name; value_names = 1 }

-- the subcommand for records that come one by one: it may name a file
abbrev pub serve_subcommand : App
serve_subcommand = with_rule (new_app (codes "serve")) (own_option (codes "from"))

-- the subcommand for drills: two workers and one round where the words say nothing else
abbrev pub drill_subcommand : App
drill_subcommand =
    let workers = with_rule (new_app (codes "drill")) (option (codes "workers") (codes "2")) in
    with_rule workers (option (codes "rounds") (codes "1"))

-- a command that tells its version and wants one of its subcommands
abbrev pub as_program : App → App
as_program app =
    on_top (λ shape. record shape { has_version = true; subcommand_required = true }) app

-- a command that has a further subcommand, without options
abbrev pub with_bare : App → Text → App
with_bare app name = with_subcommand app (new_app name).top

-- the program and its subcommands
abbrev pub recline : App
recline =
    let run = with_bare (as_program (new_app (codes "recline"))) (codes "run") in
    let collect = with_bare (with_subcommand run serve_subcommand.top) (codes "collect") in
    let check = with_bare collect (codes "check") in
    with_subcommand check drill_subcommand.top

-- the line that gives a file to a command which reads standard input
abbrev pub line_with_file : Text → Option Text
line_with_file command =
    if bytes_eq command (codes "run") then Some (codes "recline run < FILE")
    else if bytes_eq command (codes "serve") then Some (codes "recline serve < FILE")
    else if bytes_eq command (codes "collect") then Some (codes "recline collect < FILE")
    else if bytes_eq command (codes "check") then Some (codes "recline check < FILE")
    else None

-- the text spells the number, in decimal digits that a plus may stand before
abbrev pub Spells : Text → ℕ → Type 0
Spells text number =
    IsNumeral 10 (without_leading_plus text)
    × (digits_value 10 (without_leading_plus text) ≡ number)

-- the number of an option: its text, given or by default, spells it, and it lies in the range
pub record IsNumberOf (name : Text) (least most : ℕ) (options : List Row) (number : ℕ)
    : Type 0 where
  pub spelled : IsSomeAnd (one_of name options) (λ (text : Text). Spells text number)
  pub no_less : least ≤ number
  pub no_more : number ≤ most

-- the job for which a subcommand with its options asks
abbrev pub IsAskedBy : Job → Text × List Row → Type 0
IsAskedBy Run asked = asked.0 ≡ codes "run"
IsAskedBy (Serve from) asked =
    (asked.0 ≡ codes "serve")
    × (option_map (λ file. file.now) from ≡ first_of (codes "from") asked.1)
IsAskedBy Collect asked = asked.0 ≡ codes "collect"
IsAskedBy Check asked = asked.0 ≡ codes "check"
IsAskedBy (Drill workers rounds) asked =
    (asked.0 ≡ codes "drill")
    × IsNumberOf (codes "workers") 2 MOST_DRILL_WORKERS asked.1 workers
    × IsNumberOf (codes "rounds") 1 1000 asked.1 rounds

-- the numbers of a drill lie in their ranges
abbrev pub IsJobInRange : Job → Type 0
IsJobInRange (Drill workers rounds) =
    (2 ≤ workers) × (workers ≤ MOST_DRILL_WORKERS) × (1 ≤ rounds) × (rounds ≤ 1000)
IsJobInRange _ = ⊤

-- the words name a subcommand and options that ask for the job
abbrev pub AsksFor : List Text → Job → Type 0
AsksFor words job = IsSomeAnd (subcommand_of recline words) (IsAskedBy job)

-- the words are taken, and ask for the job
abbrev pub IsTakenAs : List Text → Job → Type 0
IsTakenAs words job = (takes recline words ≡ true) × AsksFor words job

-- the kinds of error with which the words are refused, none where they are taken; a word that may
-- be meant in two ways has two
unfoldable pub refusals_of : List Text → Kinds
refusals_of words = fault_of recline words

-- the words are taken, and ask for no job
pub record AsksForNoJob (words : List Text) : Type 0 where
  pub taken : refusals_of words ≡ []
  pub other : (job : Job) → AsksFor words job → ⊥

-- words that ask for help or for the version are refused by clap with these kinds
abbrev pub IsNoText : ErrorKind → Type 0
IsNoText kind = (kind ≢ errors.DisplayHelp) × (kind ≢ errors.DisplayVersion)

-- the words are refused, and neither for help nor for the version
pub record AreWordsRefused (words : List Text) : Type 0 where
  pub kind : ErrorKind
  pub among : IsAmong kind (refusals_of words)
  pub other : IsNoText kind

-- why no job is done: help or the version is asked for, or the words ask for none, or memory is
-- out, which no words tell
abbrev pub HasCause : List Text → WordsFault → Type 0
HasCause words (faults.Help text) = IsAmong errors.DisplayHelp (refusals_of words)
HasCause words (faults.Version text) = IsAmong errors.DisplayVersion (refusals_of words)
HasCause words faults.Bad = AsksForNoJob words ⊎ AreWordsRefused words
HasCause words faults.OutOfMemory = ⊤

-- what an error of this kind is told as
abbrev pub IsToldAs : ErrorKind → WordsFault → Type 0
IsToldAs kind (faults.Help text) = kind ≡ errors.DisplayHelp
IsToldAs kind (faults.Version text) = kind ≡ errors.DisplayVersion
IsToldAs kind faults.Bad = IsNoText kind × (kind ≢ errors.OutOfMemory)
IsToldAs kind faults.OutOfMemory = ⊤
