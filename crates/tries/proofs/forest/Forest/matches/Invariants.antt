use Rattle.std.proofs.Common.{ℕ, ◌&&◌, List, length}
use Rattle.keys.specs.Numbers.{contained}
use Rattle.keys.specs.Listed.{numbers}
use Rattle.tries.specs.Forests.{in_use}
use Rattle.tries.proofs.Walks.{Walk}
use Rattle.tries.proofs.Trails.{Trail}
use Rattle.tries.proofs.forest.Forest.matches.Given as goal

abbrev pub invariant-loop-row : goal.invariant-loop-row
invariant-loop-row l = (p : List ℕ)
    × Walk (λ w. contained w (numbers l.key) && contained (numbers l.key) w) (numbers l.key) (in_use l.self) l.ahead p
    × Trail l.key l.left p

abbrev pub decreases-loop-row : goal.decreases-loop-row
decreases-loop-row l = length l.ahead
