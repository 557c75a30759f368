use Rattle.std.proofs.Common.{◌≡◌, ◌<◌, Some, sym, ap, ◌∙◌, arith, length-take}
use Rattle.std.specs.List.{slice_get}
use Rattle.finds.proofs.Reading.{row_read}
use Rattle.finds.proofs.Walking.{walking_row, walking_more}
use Rattle.finds.proofs.sequences.write_events.Goals as goal

pub loop-event-preserved : goal.loop-event-preserved
loop-event-preserved g c =
    let s = g.K.Kind.shape c.args.kind.now in
    let fs = c.args.finds.now in
    let row = c.loop-event.row in
    let y = c.index-finds-row in
    let w = c.loop-event.invariant in
    let more : c.loop-event.event-index < c.args.count = omega (arith, length-take c.args.count c.args.list.now) in
    let read : slice_get fs row ≡ Some y.result = row_read fs row y.result (walking_row s fs w more) ∙ ap Some (sym y.is) in
    rw c.event.ensures (walking_more s fs c.requires.chained w more (omega arith) y.result read)
