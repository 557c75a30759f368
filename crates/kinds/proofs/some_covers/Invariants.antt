use Rattle.std.proofs.Common.{◌≡◌, false, take}
use Rattle.std.specs.List.{list_any}
use Rattle.kinds.proofs.some_covers.Given as goal

-- no entry before this one covers x
abbrev pub invariant-loop-y : goal.invariant-loop-y
invariant-loop-y g l = list_any ((g.K.Kind.shape l.kind).within l.x) (take l.y-index l.list) ≡ false
