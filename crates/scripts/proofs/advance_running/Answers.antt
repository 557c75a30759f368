use Rattle.std.proofs.Common.{ap}
use Rattle.checks.specs.declared.states.Progress.TheVariants as progress
use Rattle.scripts.proofs.Acting.{no_grant, acted_refused}
use Rattle.scripts.proofs.advance_running.Goals as goal

pub returns-in-Err : goal.returns-in-Err
returns-in-Err g c =
    let s = g.K.Kind.shape c.args.kind.now in
    let h = g.S.Store.held c.args.store.now in
    let l = g.S.Store.limit c.args.store.now in
    let t = c.args.table.now in
    let e = c.in-Err.ensures in
    let q = no_grant s c.args.running.counts t h l c.args.grant c.requires _ e.cases.0 in
    record {
      acted = acted_refused s c.args.grant (progress.Running c.args.running) _ t _ h _ _ (ap progress.Running e.cases.1) e.cases.2 (ap g.S.Store.held e.cases.3) q.0 q.1;
      limit = e.limit;
    }
