use Rattle.stores.proofs.Growth.{grown_inserted, grown_covered, put_alike}
use Rattle.stores.proofs.insert_new.Goals as goal

pub returns-then-covers-clause-ok : goal.returns-then-covers-clause-ok
returns-then-covers-clause-ok g c =
    let kind = c.args.kind.now in
    grown_covered (g.K.Kind.shape kind) (g.K.Kind.laws kind) c.args.x (g.S.Store.held c.args.store.now) (cc)

pub returns-clause-ok : goal.returns-clause-ok
returns-clause-ok g c =
    let kind = c.args.kind.now in
    let held = g.S.Store.held in
    grown_inserted (g.K.Kind.shape kind) (g.K.Kind.laws kind) c.args.x (held c.args.store.now) (held c.insert.new.self) c.in_ok-insert.ensures.items

pub returns-clause-test : goal.returns-clause-test
returns-clause-test g c =
    let kind = c.args.kind.now in
    let held = g.S.Store.held in
    λ _. put_alike (g.K.Kind.shape kind) (g.K.Kind.laws kind) c.args.x (held c.args.store.now) (held c.insert.new.self) c.in_ok-insert.ensures.items
