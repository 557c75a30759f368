-- What it is for a table to be a model over m signals, in the words of automata.
--
-- Joined n m t   arrow t may stand in a model of n states over m signals
-- Formed m M     the table is a model
use Rattle.std.specs.Prelude.{ℕ, ◌^◌, ◌<◌, ◌≤◌, length}
use Rattle.sets.specs.Sets.{Within, Below}
use Rattle.models.specs.declared.arrow.Arrow.{Arrow}
use Rattle.models.specs.Machine.{Machine, arrow}

pub record Joined (n m : ℕ) (t : Arrow) : Type 0 where
  pub leaves : t.from < n
  pub enters : t.to < n
  pub masked : t.mask < 2 ^ m
  pub inside : Within t.value t.mask

pub record Formed (m : ℕ) (M : Machine) : Type 0 where
  pub some_states : 1 ≤ M.states
  pub few_states : M.states ≤ 64
  pub few_arrows : length M.arrows ≤ 256
  pub starts : M.start < M.states
  pub finishes : Below M.ends M.states
  pub joined : (i : ℕ) → i < length M.arrows → Joined M.states m (arrow M i)
