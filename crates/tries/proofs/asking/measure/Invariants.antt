use Rattle.std.proofs.Common.{◌≡◌, ◌+◌, ◌≤◌, true, length}
use Rattle.tries.specs.Rows.{run, linked}
use Rattle.tries.proofs.asking.measure.Given as goal

-- the rows so far lie deeper
abbrev pub invariant-loop-row : goal.invariant-loop-row
invariant-loop-row l = (length l.ahead ≤ length l.rows) × (linked l.ahead ≡ true) × (run l.depth l.rows + length l.ahead ≡ length l.rows + run l.depth l.ahead)

abbrev pub decreases-loop-row : goal.decreases-loop-row
decreases-loop-row l = length l.ahead
