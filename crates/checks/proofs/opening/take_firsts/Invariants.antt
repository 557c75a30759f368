use Rattle.checks.specs.Lending.{Same}
use Rattle.checks.proofs.Starting.{Taken}
use Rattle.checks.proofs.opening.take_firsts.Given as goal

abbrev pub invariant-loop-i : goal.invariant-loop-i
invariant-loop-i g l =
    Taken (g.K.Kind.shape l.kind) l.initial.lent.table.now l.i l.finds l.lent.table.now (g.S.Store.held l.lent.store.now)
    × Same g.S.Store.limit l.initial.lent l.lent
