-- What an inspection for a pattern, or for a pattern with a model, answers.
--
-- answered f r             the fault f of the tables, or else what the inspector answered
-- pattern_inspected A xs   the answer to the list xs for the pattern A
-- joint_inspected A M xs   the answer to the list xs for the pattern A with the model M
use Rattle.std.specs.Prelude.{ℕ, Some, None, Ok, Err, Option, Result}
use mathlib.Core.List as list
use Rattle.std.specs.Option.{option_map}
use Rattle.inspector.specs.declared.answers.Inspection.{Inspection}
use Rattle.inspector.specs.declared.answers.Refused.{Refused}
use Rattle.inspector.specs.Inspected.{inspected}
use Rattle.kind_shapes.specs.declared.JointConfig.{JointConfig}
use Rattle.kind_shapes.specs.Shapes.{pattern_shape, joint_shape}
use Rattle.models.specs.Machine.{Machine}
use Rattle.patterns.specs.Automaton.{Automaton}
use Rattle.patterns.specs.Questions.{judged}
use Rattle.inspections.specs.declared.fault.InspectionFault.{InspectionFault}
use Rattle.inspections.specs.declared.fault.InspectionFault.TheVariants.{Tables, List}
use Rattle.joint_kinds.specs.declared.fault.JointFault.{JointFault}
use Rattle.joint_kinds.specs.declared.fault.JointFault.TheVariants.{Pattern}
use Rattle.joint_kinds.specs.Questions.{joint_judged}

abbrev pub answered : Option JointFault → Result Inspection Refused → Result Inspection InspectionFault
answered (Some f) r = Err (Tables f)
answered None (Ok i) = Ok i
answered None (Err e) = Err (List e)

abbrev pub pattern_inspected : Automaton → list.List ℕ → Result Inspection InspectionFault
pattern_inspected A xs = answered (option_map Pattern (judged A)) (inspected (pattern_shape A) xs)

abbrev pub joint_inspected : Automaton → Machine → list.List JointConfig → Result Inspection InspectionFault
joint_inspected A M xs = answered (joint_judged A M) (inspected (joint_shape A M) xs)
