use Rattle.std.proofs.Common.{◌≡◌, None}
use Rattle.inspector.proofs.Finds.{KeptIn, ClosedBefore}
use Rattle.inspector.proofs.Claim.first_escape.Given as goal

-- no move leads out from an entry before this one
abbrev pub invariant-entries : goal.invariant-entries
invariant-entries g l = (l.found ≡ None) × ClosedBefore (g.K.Kind.shape l.self.kind.now) l.self.list.now l.i

-- nor any move before this one from this entry
abbrev pub invariant-loop-k : goal.invariant-loop-k
invariant-loop-k g l = let s = g.K.Kind.shape l.self.kind.now in (l.found ≡ None) × ClosedBefore s l.self.list.now l.i × KeptIn s l.self.list.now l.k l.y
