-- The tables that a view lends.
-- Assumes nothing.
use Rattle.std.specs.Prelude.{ℕ, ◌*◌, List, get_or, take, drop}
use Rattle.follow.specs.declared.Tables.{Tables}
use Rattle.follow.specs.declared.TablesView.{TablesView}
use Rattle.follow.specs.declared.SetsView.{SetsView}
use Rattle.follow.specs.declared.RowsView.{RowsView}

-- All but the masks, which are lent beside them.
abbrev pub shown : TablesView → Tables
shown v = record { rows = v.rows.now; lens = v.lens.now; sets = v.sets.now; ends = v.ends.now }

-- Those that tell leaves apart as bits alone, and those that have the outcomes in order.
abbrev pub by_sets : TablesView → SetsView
by_sets v = record { masks = v.masks; sets = v.sets; ends = v.ends }

abbrev pub by_rows : TablesView → RowsView
by_rows v = record { masks = v.masks; rows = v.rows; lens = v.lens }

-- Row k of the rows that a view lends.
abbrev pub row_shown : RowsView → ℕ → List ℕ
row_shown v k = take (get_or v.lens.now k 0) (drop (65 * k) v.rows.now)
