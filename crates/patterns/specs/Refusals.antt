-- The number and the place under which each fault of a pattern is refused.
--
-- number f   the number that refuses f
-- place f    the state or the row where f lies, 0 where it lies in neither
use Rattle.std.specs.Prelude.{ℕ}
use Rattle.patterns.specs.declared.fault.Fault.{Fault}
use Rattle.patterns.specs.declared.fault.Fault.TheVariants.{Sizes, Ends, Root, Operation, Operand, Negation}

abbrev pub number : Fault → ℕ
number Sizes = 1
number Ends = 2
number (Root q) = 3
number (Operation i) = 4
number (Operand i) = 5
number (Negation i) = 6

abbrev pub place : Fault → ℕ
place Sizes = 0
place Ends = 0
place (Root q) = q
place (Operation i) = i
place (Operand i) = i
place (Negation i) = i
