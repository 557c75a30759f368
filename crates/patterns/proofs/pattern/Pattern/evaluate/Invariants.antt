use Rattle.std.proofs.Common.{◌≡◌, length, take}
use Rattle.patterns.specs.Values.{values}
use Rattle.patterns.proofs.pattern.Pattern.evaluate.Given as goal

-- the front of the table has the values of the rows so far
abbrev pub invariant-loop-i : goal.invariant-loop-i
invariant-loop-i l = (length l.table ≡ 1024)
    × (take l.i l.table ≡ values (take l.i l.self.parts.rows.now) l.event l.states)
