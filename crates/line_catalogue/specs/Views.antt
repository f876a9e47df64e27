-- What callers see of a catalogue.
use Rattle.std.specs.Prelude.{ℕ, min, List, [], ◌∷◌, slice_index_or}
use Rattle.line_tape.specs.History.{Process}
use Rattle.line_tape.specs.Views.{MarksView}

-- the processes of its history, its marks of damage, and the room for events of each process
pub record CatalogueView : Type 0 where
  pub processes : List Process
  pub marks : MarksView
  pub rooms : List ℕ

-- how many further events of process p it takes with no more memory
abbrev pub catalogue_room_at : CatalogueView → ℕ → ℕ
catalogue_room_at catalogue p = slice_index_or catalogue.rooms p 0

-- the lesser of two rooms, process by process
abbrev pub lesser_rooms : List ℕ → List ℕ → List ℕ
lesser_rooms [] others = []
lesser_rooms (room ∷ rooms) [] = []
lesser_rooms (room ∷ rooms) (other ∷ others) = min room other ∷ lesser_rooms rooms others
