use Rattle.std.proofs.Common.{sym, ap, ◌∙◌}
use Rattle.std.proofs.lemmas.Bool.{cond-false}
use Rattle.patterns.specs.Automaton.{Automaton}
use Rattle.patterns.proofs.Forming as patterns
use Rattle.models.proofs.Forming as models
use Rattle.kind_shapes.proofs.JointAccepting.{joint_acceptance}
use Rattle.joint_kinds.specs.JointKind.{joint_pattern, joint_model}
use Rattle.joint_kinds.specs.Sound.{sound_model}
use Rattle.joint_kinds.specs.Tables.{checked_model}
use Rattle.joint_kinds.proofs.parts.CheckedJoint.seal.Goals as goal

pub returns : goal.returns
returns c =
    let j = c.join.result in
    let e = c.seal.ensures ∙ sym (cond-false _ _ _ c.args.self.pattern.sound) in
    record {
      pattern = c.join.ensures.pattern ∙ e;
      model = c.join.ensures.model ∙ ap (λ (A : Automaton). sound_model A.signals (checked_model c.args.self)) e;
      accepted = joint_acceptance (joint_pattern j) (joint_model j)
          (patterns.formed (joint_pattern j) j.pattern.formed) (models.formed (joint_pattern j).signals (joint_model j) j.formed);
    }
