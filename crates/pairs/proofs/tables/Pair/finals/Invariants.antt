use Rattle.std.proofs.Common.{◌≡◌}
use Rattle.sets.specs.Sets.{set_of}
use Rattle.patterns.specs.Automaton.{read}
use Rattle.duals.specs.Without.{final_in}
use Rattle.pairs.proofs.tables.Pair.finals.Given as goal

-- the final states so far
abbrev pub invariant-loop-q : goal.invariant-loop-q
invariant-loop-q l = l.finals ≡ set_of (final_in (read l.self.later) (read l.self.earlier)) l.q
