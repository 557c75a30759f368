-- The number and the place under which each fault of a pattern with a model is refused: those of the fault that it holds.
--
-- number f   the number that refuses f
-- place f    the state, the row or the arrow where f lies, 0 where it lies in none
use Rattle.std.specs.Prelude.{ℕ}
use Rattle.patterns.specs.Refusals as patterns
use Rattle.models.specs.Refusals as models
use Rattle.joint_kinds.specs.declared.fault.JointFault.{JointFault}
use Rattle.joint_kinds.specs.declared.fault.JointFault.TheVariants.{Pattern, Model}

abbrev pub number : JointFault → ℕ
number (Pattern f) = patterns.number f
number (Model f) = models.number f

abbrev pub place : JointFault → ℕ
place (Pattern f) = patterns.place f
place (Model f) = models.place f
