use Rattle.std.proofs.Common.{◌≤◌, length, arith}
use Rattle.checks.proofs.Making.{left}
use Rattle.checks.proofs.states.Running.make_query.Goals as goal

pub expand-answer-requires : goal.expand-answer-requires
expand-answer-requires g c = c.requires.long

pub query-requires : goal.query-requires
query-requires g c = record { ready = c.requires; answered = c.expand-answer.ensures }

pub returns : goal.returns
returns g c =
    let s = g.K.Kind.shape c.args.kind.now in
    let h = g.S.Store.held c.args.lent.now.store.now in
    let l = g.S.Store.limit c.args.lent.now.store.now in
    let n = c.args.self.counts in
    let t = c.args.lent.now.table.now in
    let fits : n.finds ≤ length t = omega (arith, c.args.self.room, c.requires.long) in
    let e = c.query.ensures in
    let made = left s n t h l c.requires fits c.args.self.here c.args.self.begun c.query.result c.expand-answer.result c.expand-answer.ensures e.counts e.verdict
    c.query.new.lent.table.now e.rows (g.S.Store.held c.query.new.lent.store.now) e.items (g.S.Store.limit c.query.new.lent.store.now) e.same.limit in
    record { like = made.0; same = e.same; kept = made.1; ready = made.2 }
