use Rattle.std.proofs.Common.{arith, pow_mono}
use Rattle.models.proofs.Forming as models
use Rattle.patterns.proofs.Forming as patterns
use Rattle.joint_kinds.specs.JointKind.{joint_pattern, joint_model}
use Rattle.joint_kinds.proofs.joint.kind.JointKind.moves.Goals as goal

pub move_count-requires : goal.move_count-requires
move_count-requires c =
    let j = c.args.self.now in
    let A = joint_pattern j in
    let l = pow_mono {i = A.signals} {j = 16} (patterns.formed A j.pattern.formed).few_signals in
    let e = c.event_count.ensures in
    record { arrows = (models.formed A.signals (joint_model j) j.formed).few_arrows; events = omega arith }
