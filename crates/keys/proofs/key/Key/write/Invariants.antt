use Rattle.std.proofs.Common.{◌≡◌, ◌+◌, ◌≤◌, ◌++◌, length, take}
use Rattle.keys.specs.Numbers.{missing}
use Rattle.keys.specs.Listed.{leading}
use Rattle.keys.proofs.key.Key.write.Given as goal

-- the number that leads and the missing states so far are written
abbrev pub invariant-loop-q : goal.invariant-loop-q
invariant-loop-q l = (l.count ≤ l.q + 1) × (take l.count l.out ≡ leading l.self.lead ++ missing l.self.set l.q) × (l.count ≡ length (leading l.self.lead ++ missing l.self.set l.q))
