-- The numbers of a store's refusals.
--
-- number_and_place   the number of the question that was answered no, and the place that it was about (neither has one, so 0)
use Rattle.std.specs.Prelude.{ℕ}
use Rattle.stores.specs.declared.refusals.Refused.{Refused}
use Rattle.stores.specs.declared.refusals.Refused.TheVariants.{Covered, Full}

abbrev pub number_and_place : Refused → ℕ × ℕ
number_and_place Covered = (16, 0)
number_and_place Full = (17, 0)
