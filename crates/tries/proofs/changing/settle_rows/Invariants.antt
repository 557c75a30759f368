use Rattle.std.proofs.Common.{◌≡◌, ◌-◌, ◌≤◌, length, take, drop}
use Rattle.tries.specs.Changes.{Settled}
use Rattle.tries.proofs.changing.settle_rows.Given as goal

-- the rows from i on are settled
abbrev pub invariant-loop-i : goal.invariant-loop-i
invariant-loop-i l =
    (l.from ≤ l.i) × (l.i ≤ l.upto) × (length l.rows ≡ length l.initial.rows)
    × Settled (l.upto - l.i) (take (l.upto - l.i) (drop l.i l.initial.rows)) l.initial.rows l.start l.rows l.begin
