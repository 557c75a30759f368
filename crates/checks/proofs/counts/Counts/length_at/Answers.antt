use Rattle.std.proofs.Common.{◌<◌, length, sym, ap, ◌∙◌, arith}
use Rattle.inspector.specs.Inspected.{if_found}
use Rattle.checks.proofs.Stepping.{nth_take, length_read}
use Rattle.checks.proofs.counts.Counts.length_at.Goals as goal

pub returns : goal.returns
returns g c =
    let t = c.args.table.now in
    let n = c.args.self in
    let lt : n.row < length t = omega (arith, c.requires.here, c.requires.room) in
    sym (ap (λ o. if_found o (λ z. z.length) 0) (nth_take t n.finds n.row c.requires.here) ∙ length_read t n.row c.index-table-self.result lt)
