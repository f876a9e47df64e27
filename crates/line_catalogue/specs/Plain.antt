-- What a table shows of each of its processes.
use Rattle.std.specs.Prelude.{ℕ, List}
use Rattle.line_catalogue.specs.declared.kept_rows.Row.{Row}
use Rattle.line_catalogue.specs.Kept.{RowsView}

-- its rows
abbrev pub check_rows_of : RowsView → List Row
check_rows_of kept = kept.rows

-- the vector of where it stands
abbrev pub present_of : RowsView → List ℕ
present_of kept = kept.present

-- how many further events are taken with no more memory
abbrev pub rows_room : RowsView → ℕ
rows_room kept = kept.room
