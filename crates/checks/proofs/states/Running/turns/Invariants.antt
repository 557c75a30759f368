use Rattle.std.proofs.Common.{length, None}
use Rattle.search.specs.Search.{queried}
use Rattle.search.specs.Like.{Like}
use Rattle.checks.specs.declared.states.Progress.TheVariants as progress
use Rattle.checks.specs.Lending.{Same}
use Rattle.checks.specs.View.{stood}
use Rattle.checks.specs.Calls.{Ready, Kept}
use Rattle.checks.proofs.states.Running.turns.Given as goal

abbrev pub invariant-loop : goal.invariant-loop
invariant-loop g l =
    Ready (g.K.Kind.shape l.kind) l.running.counts l.lent.table.now (g.S.Store.held l.lent.store.now) (g.S.Store.limit l.lent.store.now)
    × Same g.S.Store.limit l.initial.lent l.lent
    × Kept l.initial.running.counts l.initial.lent.table.now (progress.Running l.running) l.lent.table.now
    × Like (stood l.running.counts None l.lent.table.now (g.S.Store.held l.lent.store.now))
    (queried (g.K.Kind.shape l.kind) (length l.initial.lent.table.now) l.counter (stood l.initial.running.counts None l.initial.lent.table.now (g.S.Store.held l.initial.lent.store.now)))
