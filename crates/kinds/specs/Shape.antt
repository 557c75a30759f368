-- What a kind means.
--
-- Shape    a transition system that is worked backwards, with an order on its configurations
-- fits     the configurations that belong to the system
-- within   within x y: y covers x, and so whatever can be done from x can be done from y
-- firsts   the configurations that working back begins at
-- moves    how many moves there are; they are the numbers below it
-- event    the event that a move stands for
-- goal     the configurations that working back is to reach
-- back     back k y: where move k leads back to from y, if it can be worked back there
use Rattle.std.specs.Prelude.{ℕ, Bool, List, Option}

pub record Shape (C : Type 0) : Type 0 where
  pub fits : C → Bool
  pub within : C → C → Bool
  pub firsts : List C
  pub moves : ℕ
  pub event : ℕ → ℕ
  pub goal : C → Bool
  pub back : ℕ → C → Option C
