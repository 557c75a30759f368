use Rattle.std.proofs.Common.{length}
use Rattle.tries.specs.Forests.{in_use}
use Rattle.tries.proofs.Places.{Search}
use Rattle.tries.proofs.forest.Forest.place.Given as goal

abbrev pub invariant-loop-row : goal.invariant-loop-row
invariant-loop-row l = Search l.word.list.now (in_use l.self) l.ahead l.depth

abbrev pub decreases-loop-row : goal.decreases-loop-row
decreases-loop-row l = length l.ahead
