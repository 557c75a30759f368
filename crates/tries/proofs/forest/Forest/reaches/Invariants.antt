use Rattle.std.proofs.Common.{ℕ, List, length}
use Rattle.keys.specs.Numbers.{contained}
use Rattle.keys.specs.Listed.{numbers}
use Rattle.tries.specs.Forests.{in_use}
use Rattle.tries.proofs.Walks.{Walk}
use Rattle.tries.proofs.forest.Forest.reaches.Given as goal

abbrev pub invariant-loop-next : goal.invariant-loop-next
invariant-loop-next l = (p : List ℕ) × Walk (λ w. contained w (numbers l.key)) (numbers l.key) (in_use l.self) l.ahead p

abbrev pub decreases-loop-next : goal.decreases-loop-next
decreases-loop-next l = length l.ahead
