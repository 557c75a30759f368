-- What a building means as a kind.
--
-- below            the same room, at the same level or lower
-- capped           the cell at a level, or at the top if the level is above it
-- stepped          where a step leads back to from y, if y is at or above the cell that it enters
-- event_at         the event of step k, 0 where there is no such step
-- building_shape   the building as a kind
use Rattle.std.specs.Prelude.{ℕ, ◌+◌, min, Bool, cond, ◌&&◌, map, length, Some, None, Option, ◌==◌, nat_le}
use Rattle.std.specs.List.{slice_get}
use Rattle.kinds.specs.Shape.{Shape}
use Rattle.kinds.specs.Accepted.{and_then}
use Rattle.inspector_tests.specs.declared.building.Cell.{Cell}
use Rattle.inspector_tests.specs.declared.building.Step.{Step}
use Rattle.inspector_tests.specs.declared.building.Building.{Building}

abbrev pub below : Cell → Cell → Bool
below x y = x.room == y.room && nat_le x.level y.level

abbrev pub capped : ℕ → ℕ → ℕ → Cell
capped room level top = record { room = room; level = min level top }

abbrev pub stepped : ℕ → Cell → Step → Option Cell
stepped top y t = cond (below t.into y) (Some (capped t.out_of (y.level + t.raise) top)) None

abbrev pub event_at : Option Step → ℕ
event_at None = 0
event_at (Some t) = t.event

abbrev pub building_shape : Building → Shape Cell
building_shape b = record {
  fits = λ x. nat_le x.level b.top;
  within = below;
  firsts = map (λ c. capped c.room c.level b.top) b.firsts.now;
  moves = length b.steps.now;
  event = λ k. event_at (slice_get b.steps.now k);
  goal = below b.target;
  back = λ k y. and_then (slice_get b.steps.now k) (stepped b.top y);
}
