-- The links to the last receipts of the senders, by blocks of sixteen.
use Rattle.std.specs.Prelude.{◌≡◌, ◌≢◌, ℕ, zero, suc, ◌+◌, ◌*◌, ◌-◌, ◌/◌, ◌%◌, ◌≤◌, List, [], ◌∷◌}
use Rattle.std.specs.Prelude.{length, slice_index_or}

-- of each sixteen senders the number of their block, from 1, or 0 where they have none; the links,
-- block by block; and for how many further senders there is room
pub record EndsView : Type 0 where
  pub blocks : List ℕ
  pub links : List ℕ
  pub room : ℕ

-- the block of a sender
abbrev pub block_of : EndsView → ℕ → ℕ
block_of ends sender = slice_index_or ends.blocks (sender / 16) 0

-- the link in a place of a block, or in none
abbrev pub link_in : List ℕ → ℕ → ℕ → ℕ
link_in links zero place = 0
link_in links (suc block) place = slice_index_or links (block * 16 + place) 0

-- the link that a sender has; 0 where it has none
abbrev pub link_of_sender : EndsView → ℕ → ℕ
link_of_sender ends sender = link_in ends.links (block_of ends sender) (sender % 16)

-- one sender has this link now, and the others have theirs
pub record IsEndPut (old new : EndsView) (sender link : ℕ) : Type 0 where
  pub there : link_of_sender new sender ≡ link
  pub elsewhere : (other : ℕ) → other ≢ sender → link_of_sender new other ≡ link_of_sender old other

-- how many blocks are taken
abbrev pub block_count : List ℕ → ℕ
block_count [] = 0
block_count (zero ∷ blocks) = block_count blocks
block_count (suc block ∷ blocks) = suc (block_count blocks)

-- for how many further senders there is room in this capacity: for any number where all have room
abbrev pub room_in : ℕ → ℕ → ℕ
room_in capacity len = (capacity - len) / 16 + capacity / 256 * 18446744073709551616

-- each block is that of one sixteen, and has its sixteen links
pub record AreBlocks (blocks links : List ℕ) : Type 0 where
  pub full : length links ≡ block_count blocks * 16
  pub within : (group : ℕ) → slice_index_or blocks group 0 ≤ block_count blocks
  pub apart : (group other : ℕ) → slice_index_or blocks group 0 ≢ 0
      → slice_index_or blocks group 0 ≡ slice_index_or blocks other 0 → group ≡ other
