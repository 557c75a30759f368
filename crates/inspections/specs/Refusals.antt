-- The number and the place under which an inspection is refused: those of the fault that it holds.
--
-- number f   the number that refuses f
-- place f    where f lies: in the tables, or the entry of the list, 0 where it lies in neither
use Rattle.std.specs.Prelude.{ℕ}
use Rattle.inspector.specs.Refusals.{number_and_place}
use Rattle.joint_kinds.specs.Refusals as joint
use Rattle.inspections.specs.declared.fault.InspectionFault.{InspectionFault}
use Rattle.inspections.specs.declared.fault.InspectionFault.TheVariants.{Tables, List}

abbrev pub number : InspectionFault → ℕ
number (Tables f) = joint.number f
number (List r) = (number_and_place r).0

abbrev pub place : InspectionFault → ℕ
place (Tables f) = joint.place f
place (List r) = (number_and_place r).1
