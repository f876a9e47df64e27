-- Commands in blocks: one block more behind the others, and how many commands there are.
use Rattle.std.proofs.Common.{◌≡◌, ◌<◌, ◌+◌, ◌*◌, ◌^◌, ℕ, List, [], ◌∷◌, ◌++◌, length, take, refl}
use Rattle.std.proofs.Common.{sym, ap, ◌∙◌, arith, length-append, append_assoc}
use Rattle.std.proofs.lemmas.List.{append-nil}
use Rattle.std.specs.List.{AllByRecursion}
use Rattle.line_scripts.specs.declared.blocks.Block.{Block}
use Rattle.line_scripts.specs.declared.blocks.TheConstants.{IN_BLOCK}
use Rattle.line_scripts.specs.declared.commands.Command.{Command}
use Rattle.line_scripts.specs.declared.keeping.Kept.{Kept}
use Rattle.line_scripts.specs.Blocks.{AreCommandBlocks, HasCommand, IsFull, commands_in}
use Rattle.line_scripts.specs.Blocks.{commands_of_block, commands_of_blocks}
use Rattle.line_scripts.specs.Keeping.{ArePacked, behind, commands_of_kept, long_of, with_bytes}
use Rattle.line_scripts.proofs.KeepingLemmas.{length-unpacked, unpacked_behind}

-- the commands of one block more are behind the others
pub blocks_behind : (bs : List Block) (b : Block)
    → commands_of_blocks (bs ++ b ∷ []) ≡ commands_in bs b
blocks_behind [] b = append-nil (commands_of_block b)
blocks_behind (first ∷ bs) b =
    ap (λ (cs : List Command). commands_of_block first ++ cs) (blocks_behind bs b) ∙ sym
    (append_assoc (commands_of_block first) (commands_of_blocks bs) (commands_of_block b))

-- a new last block has none of the commands
pub same_begun : (bs later : List Block) (last next : Block) → later ≡ bs ++ last ∷ []
    → next.kept.items ≡ [] → commands_in later next ≡ commands_in bs last
same_begun bs later last next more none =
    ap (λ (v : List Block). commands_of_blocks v ++ commands_of_block next) more
    ∙ ap (λ (ks : List Kept). commands_of_blocks (bs ++ last ∷ [])
    ++ commands_of_kept ks next.bytes.items) none
    ∙ append-nil (commands_of_blocks (bs ++ last ∷ []))
    ∙ blocks_behind bs last

full_length : (bs : List Block) → AllByRecursion IsFull bs
    → length (commands_of_blocks bs) ≡ length bs * IN_BLOCK
full_length [] each = refl
full_length (b ∷ bs) (full, each) =
    let here : length (commands_of_block b)
    ≡ IN_BLOCK = length-unpacked b.kept.items b.bytes.items ∙ full.long in
    let others : length (commands_of_blocks bs) ≡ length bs * IN_BLOCK = full_length bs each in
    omega (arith, length-append (commands_of_block b) (commands_of_blocks bs))

-- how many commands there are
pub length_in : (bs : List Block) (last : Block) → AreCommandBlocks bs last
    → length (commands_in bs last) ≡ length bs * IN_BLOCK + length last.kept.items
length_in bs last known =
    omega (
      arith,
      length-append (commands_of_blocks bs) (commands_of_block last),
      full_length bs
          known.each,
      length-unpacked last.kept.items last.bytes.items,
    )

pub few_in : (bs : List Block) (last : Block) → AreCommandBlocks bs last
    → length (commands_in bs last) + 2 ^ 63 < 2 ^ 64
few_in bs last known = omega (arith, length_in bs last known, known.few, known.within)

-- a full block has a command
pub full_ones_have : (bs : List Block) → AllByRecursion IsFull bs → AllByRecursion HasCommand bs
full_ones_have [] each = tt
full_ones_have (b ∷ bs) (full, each) =
    (record { packed = full.packed; some = omega (arith, full.long) }, full_ones_have bs each)

-- the commands of blocks and of one more, which is read next
pub kept_next : (all : List Command) (full : List Block) (ks later : List Kept) (old new : List ℕ)
    (k : Kept) → all ≡ commands_of_blocks full ++ commands_of_kept ks old → later ≡ ks ++ k ∷ []
    → long_of k ≡ length (behind old new) → take (length old) new ≡ old → ArePacked ks old
    → all ++ with_bytes k (behind old new) ∷ []
    ≡ commands_of_blocks full ++ commands_of_kept later new
kept_next all full ks later old new k before more long kept packed =
    let one : List Command = with_bytes k (behind old new) ∷ [] in
    ap (λ (cs : List Command). cs ++ one) before ∙ append_assoc (commands_of_blocks full)
    (commands_of_kept ks old) one
    ∙ ap (λ (cs : List Command). commands_of_blocks full ++ cs)
    (sym (unpacked_behind ks later old new k more long kept packed))
