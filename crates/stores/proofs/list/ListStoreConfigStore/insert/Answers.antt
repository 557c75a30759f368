use Rattle.stores.specs.Holding.{inserted}
use Rattle.stores.specs.Rows.{contents, room}
use Rattle.stores.proofs.Reorderings.{reordered_from}
use Rattle.stores.proofs.Insertions.{admitted_new, admitted_apart}
use Rattle.stores.proofs.list.ListStoreConfigStore.insert.Goals as goal

pub exchange-requires : goal.exchange-requires
exchange-requires g c =
    let list = c.args.self.now in
    (admitted_new (g.K.Kind.shape c.args.kind.now) c.args.x (contents list) (room list) c.in_ok-admit.ensures).1

pub returns : goal.returns
returns g c =
    let s = g.K.Kind.shape c.args.kind.now in
    let list = c.args.self.now in
    let admitted = c.in_ok-admit.ensures in
    let after = contents c.exchange.new.self in
    let r = reordered_from (inserted s c.args.x (contents list)) after c.exchange.ensures.items in
    record {
      value = admitted;
      items = r;
      limit = c.exchange.ensures.limit;
      apart = admitted_apart s c.args.x (contents list) (room list) admitted after r;
    }
