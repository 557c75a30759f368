use Rattle.std.proofs.Common.{◌≡◌, ◌++◌, map, length, take}
use Rattle.patterns.specs.Automaton.{read}
use Rattle.files.specs.Layout.{fronted}
use Rattle.duals.specs.Dual.{dual_at}
use Rattle.pairs.proofs.tables.Pair.fill_roots.Given as goal

-- the later pattern's roots and the duals so far stand in front
abbrev pub invariant-loop-q : goal.invariant-loop-q
invariant-loop-q l = l.roots ≡ fronted
    ((read l.self.later).roots ++ map (dual_at (length (read l.self.later).rows)) (take l.q (read l.self.earlier).roots))
    l.initial.roots
