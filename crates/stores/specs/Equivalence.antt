-- Configurations that can do the same.
--
-- equivalent s x y   whether x and y are within each other
use Rattle.std.specs.Prelude.{Bool, ◌&&◌}
use Rattle.kinds.specs.Shape.{Shape}

abbrev pub equivalent : {C : Type 0} → Shape C → C → C → Bool
equivalent s x y = s.within x y && s.within y x
