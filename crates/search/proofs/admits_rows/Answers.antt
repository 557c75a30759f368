use Rattle.std.proofs.Common.{ℕ, Decides, subst}
use Rattle.search.specs.Promise.{RowsFor}
use Rattle.search.proofs.Promises.{keeps_promise}
use Rattle.search.proofs.Orders.{order_free}
use Rattle.search.proofs.admits_rows.Goals as goal

pub returns : goal.returns
returns g c =
    let s = g.K.Kind.shape c.args.kind.now in
    record {
      test = subst (λ (n : ℕ). Decides c.are_rows_for.result (RowsFor n c.args.rows)) c.first_count.ensures c.are_rows_for.ensures;
      keeps_promise = keeps_promise s (g.K.Kind.laws c.args.kind.now);
      order_free = order_free s;
    }
