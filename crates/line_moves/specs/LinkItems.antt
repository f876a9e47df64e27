-- How links keep their items.
use Rattle.std.specs.Prelude.{true, false, if◌then◌else◌}
use Rattle.line_tape.specs.declared.items.Item.{Item}
use Rattle.line_tape.specs.declared.items.Item.TheVariants.{Message, Marker}
use Rattle.line_moves.specs.declared.link_items.LinkItem.TheInside.{Inside}

-- the item that is kept: a message, or the marker of a round
abbrev pub item_kept : Inside → Item
item_kept kept =
    if kept.is_marker
    then Marker kept.value
    else Message (record { from = kept.from; inc = kept.inc; number = kept.value })

-- the form in which an item is kept
abbrev pub kept_form : Item → Inside
kept_form (Message m) = record { value = m.number; inc = m.inc; from = m.from; is_marker = false }
kept_form (Marker r) = record { value = r; inc = 0; from = 0; is_marker = true }
