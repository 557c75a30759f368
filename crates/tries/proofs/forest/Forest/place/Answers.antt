use Rattle.std.proofs.Common.{arith}
use Rattle.tries.specs.Forests.{in_use}
use Rattle.tries.proofs.Places.{search_next, search_skip}
use Rattle.tries.proofs.forest.Forest.place.Goals as goal

pub loop-row-preserved-then-shares : goal.loop-row-preserved-then-shares
loop-row-preserved-then-shares c =
    let h = c.shares.ensures.0 c.if-shares.true in
    search_next c.args.word.list.now (in_use c.args.self.now) c.loop-row.ahead.now c.loop-row.depth c.loop-row.invariant c.in-Some.row.now c.in-Some.rest.now c.in-Some.ensures.cases.0 h.0 h.1 h.2

pub loop-row-preserved : goal.loop-row-preserved
loop-row-preserved c =
    search_skip c.args.word.list.now (in_use c.args.self.now) c.loop-row.ahead.now c.loop-row.depth c.loop-row.invariant c.in-Some.row.now c.in-Some.rest.now c.in-Some.ensures.cases.0 (omega arith) c.past-ahead.result.now c.past-ahead.ensures
