use Rattle.std.proofs.Common.{◌≡◌, ◌<◌, true, false, length, arith, length-take}
use Rattle.std.proofs.lemmas.List.Filters.{FiltersInPlace-more_no, FiltersInPlace-more_set}
use Rattle.std.proofs.lemmas.Bool.{not_from_true, not_from_false}
use Rattle.stores.proofs.Rows.{rows_inserted}
use Rattle.stores.proofs.list.ListStore.exchange.Goals as goal
use Rattle.stores.proofs.list.ListStore.exchange.Goals.{then-not-within, else-not-within}

pub loop-i-preserved : goal.loop-i-preserved
loop-i-preserved g c =
    let within = (g.K.Kind.shape c.args.kind.now).within c.index-rows-i.result c.args.x in
    let l : c.loop-i.i < length c.loop-i.rows = omega arith in
    elim c.if-not-within.branch [
      | then-not-within w ↦
          let no : within ≡ false = cc in
          rw (w.rows-is, w.count-is) (FiltersInPlace-more_set c.loop-i.invariant l (not_from_false within no) c.index-rows-i.is)
      | else-not-within w ↦
          let yes : within ≡ true = cc in
          rw (w.rows-is, w.count-is) (FiltersInPlace-more_no c.loop-i.invariant l (not_from_true within yes) c.index-rows-i.is)
    ]

pub returns-clause-items : goal.returns-clause-items
returns-clause-items g c =
    let len = c.args.self.now.len in
    let end : c.loop-i.i ≡ len = omega arith in
    let kept = rw end at c.loop-i.invariant in
    rows_inserted (g.K.Kind.shape c.args.kind.now) c.args.x c.args.self.now.rows.now c.loop-i.rows len c.loop-i.count kept (omega (arith, length-take len c.args.self.now.rows.now))
