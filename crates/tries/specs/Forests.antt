-- Rows in use.
--
-- in_use f   the rows of the forest f that are in use
use Rattle.std.specs.Prelude.{List, take, vec_items}
use Rattle.tries.specs.declared.row.Row.{Row}
use Rattle.tries.specs.declared.forest.Forest.{Forest}

abbrev pub in_use : Forest → List Row
in_use f = take f.used (vec_items f.rows)
