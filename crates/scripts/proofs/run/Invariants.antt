use Rattle.std.proofs.Common.{◌≡◌, length}
use Rattle.search.specs.Promise.{Admits}
use Rattle.scripts.proofs.Scripting.{Underway}
use Rattle.scripts.proofs.run.Given as goal

abbrev pub invariant-loop-step : goal.invariant-loop-step
invariant-loop-step g l =
    ((admits : Admits (g.K.Kind.shape l.kind) (length l.initial.table))
    → Underway (g.K.Kind.shape l.kind) (g.K.Kind.laws l.kind) l.initial.progress l.initial.table admits l.initial.script l.step-index l.progress l.table (g.S.Store.held l.store) (g.S.Store.limit l.store) l.script)
    × (g.S.Store.limit l.store ≡ g.S.Store.limit l.initial.store)
