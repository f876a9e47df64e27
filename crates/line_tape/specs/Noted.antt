-- How the receipts of a tape are kept, so that the first of each message is found.
use Rattle.std.specs.Prelude.{◌≡◌, ◌≢◌, ℕ, zero, suc, ◌+◌, ◌*◌, ◌/◌, ◌%◌, ◌<◌, ◌≤◌, ◌⊎◌, ◌==◌, Bool}
use Rattle.std.specs.Prelude.{if◌then◌else◌, List, map, length, slice_index_or}
use Rattle.std.specs.Int.{w32, reverse_bits, rotate_left}
use Rattle.line_names.specs.declared.limits.TheConstants.{MOST_PROCESSES}
use Rattle.line_tape.specs.declared.limits.TheConstants.{MOST_EVENTS}
use Rattle.line_names.specs.declared.messages.MsgName.{MsgName}
use Rattle.line_tape.specs.declared.receipts.chains.Receipt.{Receipt}
use Rattle.line_tape.specs.Ends.{EndsView, link_of_sender}

-- the messages received, in order, and for how many further ones, and for how many further senders,
-- there is room
pub record ReceiptsView : Type 0 where
  pub names : List MsgName
  pub room : ℕ
  pub senders : ℕ

-- the message that a receipt is of
abbrev pub name_of_receipt : Receipt → MsgName
name_of_receipt receipt = record { from = receipt.from; inc = receipt.inc; number = receipt.number }

-- the receipt after i others
abbrev pub receipt_at : List Receipt → ℕ → Receipt
receipt_at receipts i =
    slice_index_or receipts i
    (record { number = 0; near = 0; far = 0; inc = 0; from = 0; height = 0 })

-- the message that the receipt after i others is of
abbrev pub name_at : List Receipt → ℕ → MsgName
name_at receipts i = name_of_receipt (receipt_at receipts i)

-- the number of this receipt's message is above those of all receipts before it from its sender
pub record IsAhead (receipts : List Receipt) (i : ℕ) : Type 0 where
  pub above : (j : ℕ) → j < i → (name_at receipts j).from ≡ (name_at receipts i).from
      → (name_at receipts j).number < (name_at receipts i).number

-- this receipt is not ahead, and the first such one of its message
pub record IsAside (receipts : List Receipt) (i : ℕ) : Type 0 where
  pub first : (j : ℕ) → j < i → (IsAhead receipts j → ⊥) → name_at receipts j ≢ name_at receipts i
  pub behind : IsAhead receipts i → ⊥

-- a link to one of the first n receipts that is ahead and from this sender; a link is 0 or one more
-- than the number of a receipt
pub record IsBack (receipts : List Receipt) (n sender link : ℕ) : Type 0 where
  pub each : (k : ℕ) → link ≡ suc k
      → (k < n) × IsAhead receipts k × ((name_at receipts k).from ≡ sender)

-- the link to the last of them
pub record IsLastOfSender (receipts : List Receipt) (n sender link : ℕ) : Type 0 where
  pub back : IsBack receipts n sender link
  pub most : (i : ℕ) → i < n → (name_at receipts i).from ≡ sender
      → (k : ℕ) × (link ≡ suc k) × ((name_at receipts i).number ≤ (name_at receipts k).number)

-- from this link the chain leads back over each receipt that is ahead and of the message
pub record IsWayBack (receipts : List Receipt) (message : MsgName) (link : ℕ) : Type 0 where
  pub back : IsBack receipts (length receipts) message.from link
  pub each : (i : ℕ) → i < length receipts → IsAhead receipts i
      → (name_at receipts i).from ≡ message.from → (name_at receipts i).number ≡ message.number
      → i < link

-- each receipt that is ahead has the link to the last one before it of its sender, and one further
-- back; and one whose link leads back is ahead
pub record AreChained (receipts : List Receipt) : Type 0 where
  pub near : (i : ℕ) → i < length receipts → IsAhead receipts i
      → IsLastOfSender receipts i (name_at receipts i).from (receipt_at receipts i).near
  pub far : (i : ℕ) → i < length receipts → IsAhead receipts i
      → IsBack receipts i (name_at receipts i).from (receipt_at receipts i).far
  pub told : (i : ℕ) → i < length receipts → (receipt_at receipts i).near ≢ 0
      → (receipt_at receipts i).near ≤ i → IsAhead receipts i
  pub senders : (i : ℕ) → i < length receipts → (name_at receipts i).from < MOST_PROCESSES

-- the links to the last of each sender
pub record AreLast (receipts : List Receipt) (ends : EndsView) : Type 0 where
  pub each : (sender : ℕ) → sender < MOST_PROCESSES
      → IsLastOfSender receipts (length receipts) sender (link_of_sender ends sender)

-- the link in a seat of the tree: the root, or one of the two links of the receipt above
abbrev pub link_in_seat : List Receipt → ℕ → ℕ → Bool → ℕ
link_in_seat receipts root zero far = root
link_in_seat receipts root (suc i) far =
    if far then (receipt_at receipts i).far else (receipt_at receipts i).near

-- the link from a receipt of the tree downwards, or from none
abbrev pub next_down : List Receipt → ℕ → ℕ → Bool → ℕ
next_down receipts root zero far = 0
next_down receipts root (suc i) far = link_in_seat receipts root (suc i) far

-- the bits of a number in another order: the twentieth and those below it downwards, then those
-- above it
abbrev pub high_bits_first : ℕ → ℕ
high_bits_first number = reverse_bits w32 (rotate_left w32 number 12)

-- the number whose bits, the lowest first, lead to a message
abbrev pub key_of : MsgName → ℕ
key_of message = (message.inc * 256 + message.from) * 4294967296 + high_bits_first message.number

-- the key with its d lowest bits gone
abbrev pub rest_of_key : ℕ → ℕ → ℕ
rest_of_key key zero = key
rest_of_key key (suc d) = rest_of_key key d / 2

-- whether the lowest bit is set
abbrev pub is_far : ℕ → Bool
is_far key = (key % 2) == 1

-- the link that d bits of the key lead to
abbrev pub link_by_key : List Receipt → ℕ → ℕ → ℕ → ℕ
link_by_key receipts root key zero = root
link_by_key receipts root key (suc d) =
    next_down receipts root (link_by_key receipts root key d) (is_far (rest_of_key key d))

-- none, or a receipt of the tree
pub record IsNode (receipts : List Receipt) (link : ℕ) : Type 0 where
  pub each : (i : ℕ) → link ≡ suc i → (i < length receipts) × IsAside receipts i

-- the tree has the receipts aside, each in one seat, below one that came before it, where the bits
-- of its key lead
pub record AreInTree (receipts : List Receipt) (root : ℕ) : Type 0 where
  pub nodes : (link : ℕ) (far : Bool) → IsNode receipts link
      → IsNode receipts (link_in_seat receipts root link far)
  pub later : (link : ℕ) (far : Bool) → IsNode receipts link
      → link_in_seat receipts root link far ≢ 0
      → link < link_in_seat receipts root link far
  pub apart : (a b : ℕ) (x y : Bool) → IsNode receipts a → IsNode receipts b
      → link_in_seat receipts root a x ≢ 0
      → link_in_seat receipts root a x ≡ link_in_seat receipts root b y → (a ≡ b) × (a ≢ 0 → x ≡ y)
  pub reached : (i : ℕ) → i < length receipts → IsAside receipts i
      → (d : ℕ) × (link_by_key receipts root (key_of (name_at receipts i)) d ≡ suc i)

-- the receipts with the links that lead to them
pub record AreNoted (receipts : List Receipt) (last : EndsView) (root : ℕ) : Type 0 where
  pub few : length receipts ≤ MOST_EVENTS
  pub chained : AreChained receipts
  pub ends : AreLast receipts last
  pub tree : AreInTree receipts root

-- receipts of the same messages
pub record AreAlike (receipts others : List Receipt) (n : ℕ) : Type 0 where
  pub each : (i : ℕ) → i < n → name_at receipts i ≡ name_at others i

-- one seat of the tree has another link, and all else is as it was
pub record IsPut (receipts : List Receipt) (root : ℕ) (others : List Receipt) (other_root : ℕ)
    (above : ℕ) (far : Bool) (link : ℕ) : Type 0 where
  pub there : link_in_seat others other_root above far ≡ link
  pub elsewhere : (other : ℕ) (side : Bool)
      → (link_in_seat others other_root other side ≡ link_in_seat receipts root other side)
      ⊎ ((other ≡ above) × (other ≢ 0 → side ≡ far))
  pub names : map name_of_receipt others ≡ map name_of_receipt receipts

-- the walk by a key comes to a seat in d steps
abbrev pub IsWalkedTo : List Receipt → ℕ → ℕ → ℕ → Bool → ℕ → Type 0
IsWalkedTo receipts root key above far zero = above ≡ 0
IsWalkedTo receipts root key above far (suc d) =
    (link_by_key receipts root key d ≡ above) × (above ≢ 0) × (far ≡ is_far (rest_of_key key d))

-- where a walk for a message ends: at the receipt of it, or in the empty seat that would have it
pub record IsSeatOf (receipts : List Receipt) (root : ℕ) (message : MsgName) (above : ℕ)
    (far : Bool) : Type 0 where
  pub node : IsNode receipts above
  pub led : (d : ℕ) × IsWalkedTo receipts root (key_of message) above far d
  pub named : (i : ℕ) → link_in_seat receipts root above far ≡ suc i → name_at receipts i ≡ message
  pub found : (i : ℕ) → i < length receipts → IsAside receipts i → name_at receipts i ≡ message
      → link_in_seat receipts root above far ≡ suc i
