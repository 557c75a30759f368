use Rattle.std.proofs.Common.{◌≡◌, ◌-◌, [], length, take, drop}
use Rattle.blocks.specs.Reading.{rest}
use Rattle.blocks.proofs.reader.Reader.enter_block.Given as goal

abbrev pub invariant-loop-start : goal.invariant-loop-start
invariant-loop-start l = (drop l.self.place (take l.self.end l.self.file.now) ≡ [])
    × (rest l.self ≡ rest l.initial.self)
    × (l.self.file.now ≡ l.initial.self.file.now)

abbrev pub decreases-loop-start : goal.decreases-loop-start
decreases-loop-start l = length l.self.file.now - l.self.block
