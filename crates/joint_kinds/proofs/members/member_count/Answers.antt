use Rattle.std.proofs.Common.{ap, length, ◌∙◌, rules, tests, arith}
use Rattle.std.proofs.lemmas.Iterator.{YieldsList-from_range}
use Rattle.std.proofs.lemmas.Iterator.Consumers.{YieldsList-from_filter, count_from_yields_List}
use Rattle.sets.specs.Sets.{has}
use Rattle.kind_shapes.proofs.Listing.{listed}
use Rattle.joint_kinds.proofs.members.member_count.Goals as goal

pub returns : goal.returns
returns c =
    count_from_yields_List c.filter.result c.count.result c.count.ensures.ran
    (YieldsList-from_filter _ (has c.args.set)
    (YieldsList-from_range 0 c.args.limit c.args.limit c.filter.ensures.source (omega arith))
    c.filter.ensures.closure (λ x b q k. search (rules, tests)))
    ∙ ap length (listed c.args.set c.args.limit)
