-- The kind of spots: sets of numbers below 4, each at a place, and no moves.
--
-- spot_within x y   x and y are at one place, and the set of x is a subset of that of y
-- spots             the shape
use Rattle.std.specs.Prelude.{Bool, false, ◌&&◌, [], None, ◌==◌, bit_and, nat_lt}
use Rattle.kinds.specs.Shape.{Shape}
use Rattle.store_tests.specs.declared.spots.Spot.{Spot}

abbrev pub spot_within : Spot → Spot → Bool
spot_within x y = x.place == y.place && bit_and x.set y.set == x.set

abbrev pub spots : Shape Spot
spots = record {
  fits = λ x. nat_lt x.set 16;
  within = spot_within;
  firsts = [];
  moves = 0;
  event = λ k. 0;
  goal = λ x. false;
  back = λ k y. None;
}
