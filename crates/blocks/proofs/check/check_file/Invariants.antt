use Rattle.std.proofs.Common.{◌≡◌, ◌-◌, ◌*◌, drop, length}
use Rattle.blocks.specs.Faults.{blocks_fault}
use Rattle.blocks.proofs.check.check_file.Given as goal

abbrev pub invariant-loop-place : goal.invariant-loop-place
invariant-loop-place l = blocks_fault (length l.blocks - l.place) l.place (drop (512 * l.place) l.file) ≡ blocks_fault (length l.blocks) 0 l.file
