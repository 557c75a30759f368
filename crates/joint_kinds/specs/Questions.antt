-- The questions asked of a pattern with a model.
--
-- fault_of f g       the pattern's fault, or else the model's
-- joint_judged A M   the first fault of the pattern, or else of the model for the pattern's signals, or nothing
use Rattle.std.specs.Prelude.{Some, None, Option}
use Rattle.patterns.specs.declared.fault.Fault.{Fault}
use Rattle.patterns.specs.Automaton.{Automaton}
use Rattle.patterns.specs.Questions as patterns
use Rattle.models.specs.declared.fault.ModelFault.{ModelFault}
use Rattle.models.specs.Machine.{Machine}
use Rattle.models.specs.Questions as models
use Rattle.joint_kinds.specs.declared.fault.JointFault.{JointFault}
use Rattle.joint_kinds.specs.declared.fault.JointFault.TheVariants.{Pattern, Model}

abbrev pub fault_of : Option Fault → Option ModelFault → Option JointFault
fault_of (Some f) g = Some (Pattern f)
fault_of None None = None
fault_of None (Some g) = Some (Model g)

abbrev pub joint_judged : Automaton → Machine → Option JointFault
joint_judged A M = fault_of (patterns.judged A) (models.judged A.signals M)
