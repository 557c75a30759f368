use Rattle.inspector.proofs.Finds.{KeptIn}
use Rattle.finds.proofs.finder.least_move.Given as goal

-- no move before this one leads to anything new
abbrev pub invariant-loop-k : goal.invariant-loop-k
invariant-loop-k g l = KeptIn (g.K.Kind.shape l.kind) (g.S.Store.held l.store) l.k l.y
