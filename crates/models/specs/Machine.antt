-- A model's table as a finite automaton over events.
--
-- Machine     states 0 to n - 1, where n is `states`; `ends` is the set of the end states, as one number
-- read m      the machine in the model m that a caller lends
-- idle        an arrow from state 0 to itself that admits every event
-- arrow M i   arrow i, and the idle one past the table's end
use Rattle.std.specs.Prelude.{ℕ, List, slice_index_or}
use Rattle.models.specs.declared.arrow.Arrow.{Arrow}
use Rattle.models.specs.declared.model.Model.{Model}

pub record Machine : Type 0 where
  pub states : ℕ
  pub start : ℕ
  pub ends : ℕ
  pub arrows : List Arrow

abbrev pub read : Model → Machine
read m = record { states = m.states; start = m.start; ends = m.ends; arrows = m.arrows.now }

abbrev pub idle : Arrow
idle = record { from = 0; to = 0; mask = 0; value = 0 }

abbrev pub arrow : Machine → ℕ → Arrow
arrow M i = slice_index_or M.arrows i idle
