use Rattle.std.proofs.Common.{◌≡◌, [], length, take, drop}
use Rattle.patterns.specs.Questions.{rows_fault}
use Rattle.patterns.proofs.questions.check_rows.Given as goal

-- what is left to ask gives the answer, over which rows so far are free of states
abbrev pub invariant-loop-i : goal.invariant-loop-i
invariant-loop-i l = (length l.frees ≡ 1024)
    × (rows_fault l.states l.signals (take l.i l.frees) (drop l.i l.rows) ≡ rows_fault l.states l.signals [] l.rows)
