-- The numbers of the inspector's refusals.
--
-- number_and_place   the number of the question that was answered no, and the place that it was about (0 where it has none)
use Rattle.std.specs.Prelude.{ℕ}
use Rattle.inspector.specs.declared.answers.Refused.{Refused}
use Rattle.inspector.specs.declared.answers.Refused.TheVariants.{TooLong, Unfit}

abbrev pub number_and_place : Refused → ℕ × ℕ
number_and_place TooLong = (18, 0)
number_and_place (Unfit i) = (19, i)
