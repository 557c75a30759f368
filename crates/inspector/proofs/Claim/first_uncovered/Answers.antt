use Rattle.std.proofs.Common.{ℕ, Bool, ◌∙◌, ap, refl, rules, tests, arith}
use Rattle.std.specs.List.{slice_get}
use Rattle.std.proofs.lemmas.Iterator.{YieldsList-from_range}
use Rattle.std.proofs.lemmas.Iterator.Search.{find_from_yields_List}
use Rattle.inspector.specs.Inspected.{has_such, uncovered, least}
use Rattle.inspector.proofs.Finds.{find_is, same}
use Rattle.inspector.proofs.Claim.first_uncovered.Goals as goal

pub returns : goal.returns
returns g c =
    let s = g.K.Kind.shape c.args.self.now.kind.now in
    let n = c.first_count.result in
    let q : ℕ → Bool = λ i. has_such (uncovered s c.args.self.now.list.now) (slice_get s.firsts i) in
    same c.find.result
    ∙ find_from_yields_List q _ _ c.find.result c.find.ensures.ran (YieldsList-from_range 0 n n refl (omega arith)) (λ x b q k. search (rules, tests))
    ∙ find_is q 0 n (λ j l. absurd (omega arith)) ∙ ap (least q) (omega arith)
