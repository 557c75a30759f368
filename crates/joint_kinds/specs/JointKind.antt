-- A pattern with a model as a kind.
--
-- joint_pattern j     the automaton of the pattern
-- joint_model j       the machine of the model
-- joint_kind j        the shape of the two together
-- joint_kind_laws j   the laws of kinds hold of it
use Rattle.patterns.specs.Automaton.{Automaton}
use Rattle.patterns.proofs.Forming as patterns
use Rattle.models.specs.Machine.{Machine, read}
use Rattle.models.proofs.Forming as models
use Rattle.patterns.specs.View.{automaton}
use Rattle.kinds.specs.Laws.{Laws}
use Rattle.kinds.specs.Shape.{Shape}
use Rattle.kind_shapes.specs.declared.JointConfig.{JointConfig}
use Rattle.kind_shapes.specs.Shapes.{joint_shape}
use Rattle.kind_shapes.proofs.JointLaws.{joint_laws}
use Rattle.joint_kinds.specs.declared.joint.Joint.{Joint}

abbrev pub joint_pattern : Joint → Automaton
joint_pattern j = automaton j.pattern

abbrev pub joint_model : Joint → Machine
joint_model j = read j.model

abbrev pub joint_kind : Joint → Shape JointConfig
joint_kind j = joint_shape (joint_pattern j) (joint_model j)

pub joint_kind_laws : (j : Joint) → Laws (joint_kind j)
joint_kind_laws j =
    joint_laws (joint_pattern j) (joint_model j)
    (patterns.formed (joint_pattern j) j.pattern.formed) (models.formed (joint_pattern j).signals (joint_model j) j.formed)
