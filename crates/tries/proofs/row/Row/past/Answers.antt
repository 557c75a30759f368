use Rattle.std.proofs.Common.{◌-◌, ◌≤◌, length, arith, rules}
use Rattle.tries.proofs.Paths.{run_le}
use Rattle.tries.proofs.row.Row.past.Goals as goal

pub slice_bounds-result-count : goal.slice_bounds-result-count
slice_bounds-result-count c = omega (arith, c.requires, run_le c.args.self.now.depth c.args.rest.now)

pub offset_bounds-rest-self : goal.offset_bounds-rest-self
offset_bounds-rest-self c = let k : c.args.self.now.skip - 1 ≤ length c.args.rest.now = omega (arith, c.requires, run_le c.args.self.now.depth c.args.rest.now) in search rules

pub slice_bounds-result-start : goal.slice_bounds-result-start
slice_bounds-result-start c = let k : c.args.self.now.skip - 1 ≤ length c.args.rest.now = omega (arith, c.requires, run_le c.args.self.now.depth c.args.rest.now) in search rules
