use Rattle.std.proofs.Common.{◌≡◌, ◌-◌, ◌*◌, ◌≤◌, [], length, take}
use Rattle.blocks.specs.Reading.{rest}
use Rattle.patterns.specs.Questions.{rows_fault}
use Rattle.files.specs.Layout.{each, row_of}
use Rattle.files.proofs.reading.check_rows.Given as goal

-- what is left to ask gives the answer, over which rows so far are free of states
abbrev pub invariant-loop-i : goal.invariant-loop-i
invariant-loop-i l = (length l.frees ≡ 1024) × (6 * (l.count - l.i) ≤ length (rest l.reader))
    × (rows_fault l.states l.signals (take l.i l.frees) (each 6 row_of (l.count - l.i) (rest l.reader))
    ≡ rows_fault l.states l.signals [] (each 6 row_of l.count (rest l.initial.reader)))
