use Rattle.std.proofs.Common.{◌^◌, ◌<◌, ◌∷◌, ap, rules}
use Rattle.keys.specs.Numbers.{missing}
use Rattle.joint_kinds.specs.JointKind.{joint_pattern, joint_model}
use Rattle.keys.proofs.Orders.{joint_proper, joint_same, joint_order}
use Rattle.keys.proofs.joint.JointKeyed1.key.Goals as goal

pub returns : goal.returns
returns c =
    let l : c.args.x.set < 2 ^ 64 = search rules in
    record {
      value = ap (λ n. n ∷ missing c.args.x.set 64) c.lead_of.ensures;
      proper = joint_proper c.args.x;
      same = joint_same c.args.x l;
      order = joint_order (joint_pattern c.args.self.now) (joint_model c.args.self.now);
    }
