use Rattle.std.proofs.Common.{◌≡◌, [], length, take, fold}
use Rattle.patterns.specs.Automaton.{read}
use Rattle.patterns.specs.Questions.{free_step}
use Rattle.files.specs.Layout.{fronted}
use Rattle.duals.specs.Dual.{dual_rows}
use Rattle.pairs.proofs.dual.Shift.dualise.Given as goal

-- which rows so far are free of states, and their pairs in the front of the table
abbrev pub invariant-loop-i : goal.invariant-loop-i
invariant-loop-i l = (length l.frees ≡ 1024)
    × (take l.i l.frees ≡ fold free_step [] (take l.i (read l.earlier).rows))
    × (l.rows ≡ fronted (dual_rows l.self.base l.self.states [] (take l.i (read l.earlier).rows)) l.initial.rows)
