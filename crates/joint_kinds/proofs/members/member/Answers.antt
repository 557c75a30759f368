use Rattle.std.proofs.Common.{◌≡◌, ℕ, Some, None, Option, refl, ap, ◌∙◌, rules, tests, arith}
use Rattle.std.specs.List.{slice_get}
use Rattle.std.specs.Option.{option_map}
use Rattle.std.proofs.lemmas.Iterator.{YieldsList-from_range}
use Rattle.std.proofs.lemmas.Iterator.Consumers.{YieldsList-from_filter, nth_from_yields_List}
use Rattle.sets.specs.Sets.{has}
use Rattle.kind_shapes.proofs.Listing.{listed}
use Rattle.joint_kinds.proofs.members.member.Goals as goal

-- an option is what its value stays
same : (o : Option ℕ) → o ≡ option_map (λ x. x) o
same None = refl
same (Some x) = refl

pub returns : goal.returns
returns c =
    same c.nth.result
    ∙ nth_from_yields_List c.nth.result _ c.args.i c.nth.ensures.ran
    (YieldsList-from_filter _ (has c.args.set)
    (YieldsList-from_range 0 c.args.limit c.args.limit c.filter.ensures.source (omega arith))
    c.filter.ensures.closure (λ x b q k. search (rules, tests)))
    ∙ ap (λ xs. slice_get xs c.args.i) (listed c.args.set c.args.limit)
