use Rattle.std.proofs.Common.{◌≡◌, ◌≤◌, [], ◌++◌, length, take, drop}
use Rattle.keys.specs.Listed.{numbers}
use Rattle.tries.specs.Rows.{after, paths}
use Rattle.tries.specs.Changes.{released}
use Rattle.tries.proofs.Trails.{Trail}
use Rattle.tries.proofs.changing.release.Given as goal

-- the rows so far are released, and the keys left in them counted
abbrev pub invariant-loop-row : goal.invariant-loop-row
invariant-loop-row l =
    (l.rows ≡ released (numbers l.key) [] (take l.row-index l.initial.rows) ++ drop l.row-index l.initial.rows)
    × (l.count ≡ length (paths [] (released (numbers l.key) [] (take l.row-index l.initial.rows))))
    × (l.count ≤ l.row-index)
    × Trail l.key l.left (after [] (take l.row-index l.initial.rows))
