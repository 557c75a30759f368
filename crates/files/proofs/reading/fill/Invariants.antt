use Rattle.std.proofs.Common.{◌≡◌, ◌*◌, ◌++◌, drop}
use Rattle.blocks.specs.Reading.{rest}
use Rattle.files.specs.Layout.{each}
use Rattle.files.proofs.reading.fill.Given as goal

-- the entries so far are written, and those behind are as they were
abbrev pub invariant-loop-slot : goal.invariant-loop-slot
invariant-loop-slot g l = (rest l.reader ≡ drop (g.row.N * l.slot-index) (rest l.initial.reader))
    × (l.table ≡ each g.row.N g.T.Entry.front l.slot-index (rest l.initial.reader) ++ drop l.slot-index l.initial.table)
