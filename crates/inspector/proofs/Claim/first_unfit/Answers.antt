use Rattle.std.proofs.Common.{Bool, not, ◌∙◌, rules, tests}
use Rattle.std.proofs.lemmas.Iterator.{YieldsList-from_slice}
use Rattle.std.proofs.lemmas.Iterator.Search.{position_from_yields_List}
use Rattle.inspector.proofs.Finds.{position_is}
use Rattle.inspector.proofs.Claim.first_unfit.Goals as goal

pub returns : goal.returns
returns g c =
    let s = g.K.Kind.shape c.args.self.now.kind.now in
    let xs = c.args.self.now.list.now in
    let q : _ → Bool = λ y. not (s.fits y) in
    position_from_yields_List q _ _ _ c.position.ensures.ran (YieldsList-from_slice xs cc) (λ x b q k. search (rules, tests))
    ∙ position_is q xs
