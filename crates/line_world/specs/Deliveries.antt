-- What a walk over two tapes looks for on their links, and a walk over one tape in its rounds.
use Rattle.std.specs.Prelude.{◌≡◌, ℕ, ◌+◌, ◌≤◌, Bool, false, List, [], ◌∷◌, length, slice_index_or}
use Rattle.std.specs.Prelude.{Some, None, IsTrue}
use Rattle.line_tape.specs.declared.events.Event.{Event}
use Rattle.line_tape.specs.declared.events.Event.TheVariants.{Send, Recv, Check, Mark}
use Rattle.line_tape.specs.declared.items.Item.{Item}
use Rattle.line_tape.specs.Fit.{AreDistinct, MarksFollow}
use Rattle.line_tape.specs.Rounds.{has_check_of, rounds_checked}
use Rattle.line_moves.specs.Worlds.{IsMessage}

-- the item may stay on a link: a marker may only where the link is the process's own
abbrev pub MayStay : Bool → Item → Type 0
MayStay own item = own ≡ false → IsMessage item

-- what was received is the first of what was sent, and the rest of that may stay
abbrev pub AreDelivered : Bool → List Item → List Item → Type 0
AreDelivered own [] [] = Unit {0}
AreDelivered own [] (item ∷ sent) = MayStay own item × AreDelivered own [] sent
AreDelivered own (item ∷ received) [] = ⊥
AreDelivered own (item ∷ received) (other ∷ sent) =
    (item ≡ other) × AreDelivered own received sent

-- no round of a tape is later than `last`, no two of its checks are of one round, and each marker
-- follows the check of its round
pub record HasRoundsUpTo (last : ℕ) (tape : List Event) : Type 0 where
  pub numbers : (r : ℕ) → IsTrue (has_check_of r tape) → r ≤ last
  pub rounds : AreDistinct (rounds_checked tape)
  pub marks : MarksFollow tape

-- so it stays with one event more: its round is new, its marker is of a round that has its check
abbrev pub IsNextUpTo : ℕ → List Event → Event → Type 0
IsNextUpTo last seen (Send to inc body) = Unit {0}
IsNextUpTo last seen (Recv message) = Unit {0}
IsNextUpTo last seen (Check state None) = Unit {0}
IsNextUpTo last seen (Check state (Some round)) =
    (round ≤ last) × (has_check_of round seen ≡ false)
IsNextUpTo last seen (Mark from round) = IsTrue (has_check_of round seen)

-- there is a flag for each round up to `last`; the flags tell of which rounds these events have a
-- check
pub record AreRoundsNoted (last : ℕ) (seen : List Event) (flags : List Bool) : Type 0 where
  pub count : length flags ≡ last + 1
  pub each : (r : ℕ) → slice_index_or flags r false ≡ has_check_of r seen
