use Rattle.std.proofs.Common.{sym, ◌∙◌}
use Rattle.std.proofs.lemmas.List.{length-map}
use Rattle.kind_shapes.specs.Shapes.{members}
use Rattle.joint_kinds.proofs.joint.kind.Firsts.count.Goals as goal

pub returns : goal.returns
returns c = c.member_count.ensures ∙ sym (length-map (members c.args.self.ends c.args.self.states) _)
