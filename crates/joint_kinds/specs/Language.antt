-- What the joint kind accepts, in the words of sequences of events.
--
-- Together A M       the sequences of events that the pattern A accepts and the model M sends
-- joint_signals j    how many signals the pattern in j has
-- joint_language j   the sequences that it accepts and the model in j sends
-- joint_speaks j     the joint kind accepts those, once the bits that stand for no signal are cleared
use Rattle.std.specs.Prelude.{ℕ, List}
use Rattle.patterns.specs.Accepted.{Accepted}
use Rattle.patterns.specs.Automaton.{Automaton}
use Rattle.patterns.proofs.Forming as patterns
use Rattle.models.specs.Machine.{Machine}
use Rattle.models.specs.Sent.{Sends}
use Rattle.models.proofs.Forming as models
use Rattle.kinds.specs.Language.{Speaks}
use Rattle.kind_shapes.proofs.JointAccepting.{joint_acceptance}
use Rattle.joint_kinds.specs.declared.joint.Joint.{Joint}
use Rattle.joint_kinds.specs.JointKind.{joint_pattern, joint_model, joint_kind}

abbrev pub Together : Automaton → Machine → List ℕ → Type 0
Together A M es = Accepted A es × Sends M es

abbrev pub joint_signals : Joint → ℕ
joint_signals j = (joint_pattern j).signals

abbrev pub joint_language : Joint → List ℕ → Type 0
joint_language j = Together (joint_pattern j) (joint_model j)

pub joint_speaks : (j : Joint) → Speaks (joint_kind j) (joint_signals j) (joint_language j)
joint_speaks j =
    let A = joint_pattern j in
    let M = joint_model j in
    let accepting = joint_acceptance A M (patterns.formed A j.pattern.formed) (models.formed A.signals M j.formed) in
    record {
      plain = λ es. (
        (λ x. let p = (accepting.plain es).0 x in (p.0, (p.1, p.2))),
        λ p. (accepting.plain es).1 (p.0, p.1.0, p.1.1),
      );
      cleared = λ es. (
        (λ x. ((accepting.cleared es).0 x.0, (accepting.sent es).0 x.1)),
        λ x. ((accepting.cleared es).1 x.0, (accepting.sent es).1 x.1),
      );
    }
