-- The numbers of the refusals of a check's calls.
--
-- number_and_place   the number of the question that was answered no, and the place that it was about (none has one, so 0)
use Rattle.std.specs.Prelude.{ℕ}
use Rattle.finds.specs.declared.refusals.Refused.{Refused}
use Rattle.finds.specs.declared.refusals.Refused.TheVariants.{Rows, Store, Altered, Grant, NoRow, SequenceRoom, CertificateRoom}

abbrev pub number_and_place : Refused → ℕ × ℕ
number_and_place Rows = (9, 0)
number_and_place Store = (10, 0)
number_and_place Altered = (11, 0)
number_and_place Grant = (12, 0)
number_and_place NoRow = (13, 0)
number_and_place SequenceRoom = (14, 0)
number_and_place CertificateRoom = (15, 0)
