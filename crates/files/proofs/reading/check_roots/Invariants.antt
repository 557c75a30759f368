use Rattle.std.proofs.Common.{◌≡◌, ◌-◌, ◌*◌, drop}
use Rattle.blocks.specs.Reading.{rest}
use Rattle.patterns.specs.Questions.{roots_fault}
use Rattle.files.specs.Layout.{each, root_of}
use Rattle.files.proofs.reading.check_roots.Given as goal

-- what is left to ask gives the answer
abbrev pub invariant-loop-q : goal.invariant-loop-q
invariant-loop-q l = (rest l.reader ≡ drop (2 * l.q) (rest l.initial.reader))
    × (roots_fault l.count l.q (each 2 root_of (l.states - l.q) (rest l.reader))
    ≡ roots_fault l.count 0 (each 2 root_of l.states (rest l.initial.reader)))
