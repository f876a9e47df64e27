-- Commands that are kept in blocks, one block after another. No contract that a caller reads needs
-- this: there they are a list of commands.
use Rattle.std.specs.Prelude.{◌≡◌, ◌≤◌, ◌<◌, ℕ, List, [], ◌∷◌, ◌++◌, length, drop, Result, Ok}
use Rattle.std.specs.List.{AllByRecursion}
use Rattle.line_fields.specs.declared.faults.Fault.{Fault}
use Rattle.line_fields.specs.Fields.{◌>>=◌}
use Rattle.line_scripts.specs.declared.commands.Command.{Command}
use Rattle.line_scripts.specs.declared.blocks.Block.{Block}
use Rattle.line_scripts.specs.declared.blocks.TheConstants.{IN_BLOCK, MOST_BLOCKS}
use Rattle.line_scripts.specs.Keeping.{ArePacked, commands_of_kept}

-- commands, and after them one that is read next
abbrev pub with_command : List Command → Result Command Fault → Result (List Command) Fault
with_command front read = read >>= λ command. Ok (front ++ command ∷ [])

-- the commands of a block
abbrev pub commands_of_block : Block → List Command
commands_of_block b = commands_of_kept b.kept.items b.bytes.items

-- the commands of blocks
abbrev pub commands_of_blocks : List Block → List Command
commands_of_blocks [] = []
commands_of_blocks (b ∷ others) = commands_of_block b ++ commands_of_blocks others

-- the commands of a block are packed
abbrev pub IsPacked : Block → Type 0
IsPacked b = ArePacked b.kept.items b.bytes.items

-- a block that has no room for one more command
pub record IsFull (b : Block) : Type 0 where
  pub packed : IsPacked b
  pub long : length b.kept.items ≡ IN_BLOCK

-- the commands of full blocks, and of one more after them
abbrev pub commands_in : List Block → Block → List Command
commands_in full last = commands_of_blocks full ++ commands_of_block last

-- full blocks, no more of them than memory may have, and one more that has no more commands
pub record AreCommandBlocks (full : List Block) (last : Block) : Type 0 where
  pub each : AllByRecursion IsFull full
  pub few : length full ≤ MOST_BLOCKS
  pub packed : IsPacked last
  pub within : length last.kept.items ≤ IN_BLOCK

-- a block that has a command
pub record HasCommand (b : Block) : Type 0 where
  pub packed : IsPacked b
  pub some : 0 < length b.kept.items

-- the commands of a block from one on are packed, their bytes from a place on
pub record ArePackedFrom (b : Block) (gone at : ℕ) : Type 0 where
  pub gone_within : gone ≤ length b.kept.items
  pub at_within : at ≤ length b.bytes.items
  pub packed : ArePacked (drop gone b.kept.items) (drop at b.bytes.items)

-- the commands of a block from one on, their bytes from a place on, and those of other blocks
abbrev pub commands_left : Block → ℕ → ℕ → List Block → List Command
commands_left b gone at others =
    commands_of_kept (drop gone b.kept.items) (drop at b.bytes.items) ++ commands_of_blocks others

-- such commands are packed, each of the other blocks has some, and where the block has none left
-- there is no other one
pub record AreCommandsLeft (b : Block) (gone at : ℕ) (others : List Block) : Type 0 where
  pub packed : ArePackedFrom b gone at
  pub each : AllByRecursion HasCommand others
  pub next : gone ≡ length b.kept.items → others ≡ []
