use Rattle.std.proofs.Common.{◌≡◌, take}
use Rattle.std.specs.List.{flat_map}
use Rattle.files.specs.Laying.{laid}
use Rattle.files.proofs.writing.lay.Given as goal

-- the entries so far are laid down
abbrev pub invariant-loop-i : goal.invariant-loop-i
invariant-loop-i g l = l.payload ≡ laid l.at (flat_map g.T.Entry.bytes (take l.i l.entries)) l.initial.payload
