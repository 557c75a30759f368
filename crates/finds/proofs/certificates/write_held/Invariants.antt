use Rattle.finds.proofs.Collecting.{Copying}
use Rattle.finds.proofs.certificates.write_held.Given as goal

-- of the rows before this one those that are held are written
abbrev pub invariant-loop-find : goal.invariant-loop-find
invariant-loop-find g l = Copying (g.K.Kind.shape l.kind) (g.S.Store.held l.store) l.finds l.initial.list l.list l.count l.find-index
