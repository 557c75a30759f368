use Rattle.std.proofs.Common.{◌≡◌, ◌-◌, ◌≤◌, length}
use Rattle.tries.specs.Changes.{sprouts, Settled}
use Rattle.tries.proofs.changing.settle_word.Given as goal

-- the numbers from place i on are settled
abbrev pub invariant-loop-i : goal.invariant-loop-i
invariant-loop-i l =
    (l.depth ≤ l.i) × (l.i ≤ length l.word.list.now) × (length l.rows ≡ length l.initial.rows)
    × Settled (length l.word.list.now - l.i) (sprouts l.word.list.now l.i (length l.word.list.now - l.i)) l.initial.rows l.start l.rows l.begin
