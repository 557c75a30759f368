-- The numbers of a key.
--
-- leading o   the number that leads, where there is one
-- numbers k   the numbers of the key k: the one that leads, then the states from 0 to 63 that its set has not, in ascending order
use Rattle.std.specs.Prelude.{ℕ, List, [], ◌∷◌, ◌++◌, Some, None, Option}
use Rattle.keys.specs.Numbers.{missing}
use Rattle.keys.specs.declared.key.Key.{Key}

abbrev pub leading : Option ℕ → List ℕ
leading None = []
leading (Some n) = n ∷ []

abbrev pub numbers : Key → List ℕ
numbers k = leading k.lead ++ missing k.set 64
