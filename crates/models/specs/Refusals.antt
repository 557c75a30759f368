-- The number and the place under which each fault of a model is refused.
--
-- number f   the number that refuses f
-- place f    the arrow where f lies, 0 where it lies in none
use Rattle.std.specs.Prelude.{ℕ}
use Rattle.models.specs.declared.fault.ModelFault.{ModelFault}
use Rattle.models.specs.declared.fault.ModelFault.TheVariants.{Sizes, Arrow}

abbrev pub number : ModelFault → ℕ
number Sizes = 7
number (Arrow i) = 8

abbrev pub place : ModelFault → ℕ
place Sizes = 0
place (Arrow i) = i
