use Rattle.std.proofs.Common.{ℕ, ◌+◌, ◌<◌, ◌≤◌, length, set, sym, refl, ap, ◌∙◌, arith, rules}
use Rattle.checks.proofs.Stepping.{length_read, length_small}
use Rattle.checks.proofs.counts.Counts.note_find.Goals as goal

pub overflow_add-length : goal.overflow_add-length
overflow_add-length g c =
    let p = c.requires in
    let lt : c.args.self.row < length c.args.lent.now.table.now = omega (arith, p.here, p.room) in
    let fits : c.args.self.finds ≤ length c.args.lent.now.table.now = omega (arith, p.room) in
    let e = length_read c.args.lent.now.table.now c.args.self.row c.index-lent-self.result lt in
    let b = length_small c.args.self c.args.lent.now.table.now fits p.here _ _ _ p.ready p.small in
    search rules

pub record_find-requires : goal.record_find-requires
record_find-requires g c =
    let p = c.requires in
    record { room = p.room; fresh = p.fresh; space = omega (arith, p.ready.size, p.ready.limit, p.ready.long, p.room) }

pub returns : goal.returns
returns g c =
    let p = c.requires in
    let n = c.args.self in
    let t = c.args.lent.now.table.now in
    let lt : n.row < length t = omega (arith, p.here, p.room) in
    let e = length_read t n.row c.index-lent-self.result lt in
    record {
      value = refl;
      rows = c.record_find.ensures.rows ∙ ap (λ (m : ℕ). set t n.finds (record { configuration = c.args.x; origin = n.row; via = c.args.k; length = m + 1 })) (sym e);
      items = c.record_find.ensures.items;
      same = c.record_find.ensures.same;
    }
