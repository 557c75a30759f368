use Rattle.std.proofs.Common.{◌≡◌, ◌*◌, ◌≤◌, take}
use Rattle.blocks.specs.Layout.{weighed}
use Rattle.blocks.proofs.check.weigh.Given as goal

abbrev pub invariant-loop-i : goal.invariant-loop-i
invariant-loop-i l = (l.sum ≤ 129540 * l.i) × (l.sum ≡ weighed 1 (take l.i l.byte-items))
