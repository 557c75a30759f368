-- The tables behind a pattern and a model that were checked together.
--
-- checked_pattern c   the automaton in the checked parts c
-- checked_model c     the machine in them
use Rattle.patterns.specs.Automaton.{Automaton}
use Rattle.patterns.specs.Tables.{tables}
use Rattle.models.specs.Machine.{Machine, read}
use Rattle.joint_kinds.specs.declared.parts.CheckedJoint.{CheckedJoint}

abbrev pub checked_pattern : CheckedJoint → Automaton
checked_pattern c = tables c.pattern

abbrev pub checked_model : CheckedJoint → Machine
checked_model c = read c.model
