use Rattle.checks.proofs.Turning.{answered_at}
use Rattle.checks.proofs.states.Running.expand.Goals as goal

pub returns : goal.returns
returns g c =
    answered_at (g.K.Kind.shape c.args.kind.now) c.args.self.now.counts c.args.lent.now.table.now (g.S.Store.held c.args.lent.now.store.now) _ _ c.least_move.ensures
