-- What a bounded read tells of its source: all that it gave, or why it was refused.
use Rattle.std.specs.Prelude.{◌≡◌, ◌<◌, ◌≤◌, ◌+◌, ℕ, List, [], Option, Some, length}
use Rattle.line_devices.specs.declared.sources.ReadRefused.{ReadRefused}
use Rattle.line_devices.specs.declared.sources.ReadRefused.TheVariants.{OutOfMemory, Failed}
use Rattle.line_devices.specs.declared.sources.ReadRefused.TheVariants.{TooLong}
use Rattle.line_devices.specs.declared.sources.TheConstants.{MOST_INPUT}
use Rattle.line_devices.specs.Devices.{one_more}

-- a source gave this text, no longer than an input may be, and not a byte else; where it tells what
-- is left, the text was all of it, and nothing is left
pub record GivesAll (text : List ℕ) (old new : Option (List ℕ)) (given later : ℕ) : Type 0 where
  pub few : length text ≤ MOST_INPUT
  pub counted : later ≡ given + length text
  pub told : (xs : List ℕ) → old ≡ Some xs → (text ≡ xs) × (new ≡ Some [])

-- a source gave more than an input may have, and more was left, where it tells
pub record IsTooLong (old : Option (List ℕ)) (given later : ℕ) : Type 0 where
  pub counted : given + MOST_INPUT < later
  pub told : (xs : List ℕ) → old ≡ Some xs → MOST_INPUT < length xs

-- a failed source has one fault more, and under another refusal it has none
abbrev pub CountsFault : ReadRefused → ℕ → ℕ → Type 0
CountsFault OutOfMemory old new = new ≡ old
CountsFault Failed old new = new ≡ one_more old
CountsFault TooLong old new = new ≡ old
