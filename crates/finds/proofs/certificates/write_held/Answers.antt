use Rattle.std.proofs.Common.{length, arith}
use Rattle.finds.proofs.Collecting.{counting_room, copying_held, copying_gone}
use Rattle.finds.proofs.certificates.write_held.Goals as goal
use Rattle.finds.proofs.certificates.write_held.Goals.{then-holds, else-holds}

pub bounds-list-count : goal.bounds-list-count
bounds-list-count g c =
    let y = c.find-item in
    counting_room (g.K.Kind.shape c.args.kind.now) (g.S.Store.held c.args.store.now) c.args.finds.now
    y.result (omega arith) y.is c.if-holds.ensures c.loop-find.invariant.counted (length c.loop-find.list) (omega arith)

pub loop-find-preserved : goal.loop-find-preserved
loop-find-preserved g c =
    let s = g.K.Kind.shape c.args.kind.now in
    let h = g.S.Store.held c.args.store.now in
    let fs = c.args.finds.now in
    let y = c.find-item in
    elim c.if-holds.branch [
      | then-holds w ↦ rw (w.list-is, w.count-is) (copying_held s h fs y.result (omega arith) y.is w.if-holds.ensures c.loop-find.invariant (omega arith))
      | else-holds w ↦ rw (w.list-is, w.count-is) (copying_gone s h fs y.result (omega arith) y.is w.if-holds.ensures c.loop-find.invariant)
    ]
