use Rattle.std.proofs.Common.{◌≡◌, ℕ, false, get_or}
use Rattle.sets.specs.Sets.{set_of}
use Rattle.patterns.specs.Automaton.{root}
use Rattle.patterns.specs.View.{automaton}
use Rattle.patterns.proofs.pattern.Pattern.collect.Given as goal

-- the states so far whose root row is 1
abbrev pub invariant-loop-q : goal.invariant-loop-q
invariant-loop-q l = l.found ≡ set_of (λ (q : ℕ). get_or l.table (root (automaton l.self) q) false) l.q
