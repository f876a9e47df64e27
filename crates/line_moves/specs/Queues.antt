-- Queues from each process to each.
use Rattle.std.specs.Prelude.{ℕ, ◌==◌, if◌then◌else◌, List, [], ◌∷◌, ◌++◌, length, map, drop}
use Rattle.std.specs.Prelude.{slice_index_or, slice_set}
use Rattle.std.specs.List.{range_with_len}
use Rattle.line_tape.specs.declared.items.Item.{Item}
use Rattle.line_rounds.specs.Tables.{between, with_list}
use Rattle.line_tape.specs.declared.modes.Mode.{Mode}
use Rattle.line_tape.specs.declared.modes.Mode.TheVariants.{Fifo, Unordered}

-- the queues once an item from process p to q is taken: off its queue, if it was the first there,
-- and a copy stays
abbrev pub taken_off : Mode → List (List (List Item)) → ℕ → ℕ → List (List (List Item))
taken_off Fifo queues p q = with_list queues p q (drop 1 (between queues p q))
taken_off Unordered queues p q = queues

-- the queues from process p with an item more on each, but not on its own
abbrev pub with_on_others : List (List Item) → ℕ → Item → List (List Item)
with_on_others row p item =
    map (λ q. slice_index_or row q [] ++ (if p == q then [] else item ∷ []))
    (range_with_len 0 (length row))

-- the queues with an item more on each from process p to another
abbrev pub with_on_each : List (List (List Item)) → ℕ → Item → List (List (List Item))
with_on_each queues p item = slice_set queues p (with_on_others (slice_index_or queues p []) p item)
