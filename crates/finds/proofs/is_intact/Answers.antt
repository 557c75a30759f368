use Rattle.std.proofs.Common.{◌≡◌, ℕ, rules, tests, ◌∙◌}
use Rattle.std.proofs.lemmas.Bool.Decides.{Decides-at}
use Rattle.std.proofs.lemmas.Iterator.{YieldsList-from_slice}
use Rattle.std.proofs.lemmas.Iterator.Consumers.{YieldsList-from_enumerate}
use Rattle.std.proofs.lemmas.Iterator.Search.{all_from_yields_List}
use Rattle.search.specs.declared.Find.{Find}
use Rattle.finds.specs.Intact.{stands_in_place, intact}
use Rattle.finds.proofs.Intacts.{intact_all, intact_decides}
use Rattle.finds.proofs.is_intact.Goals as goal

pub returns : goal.returns
returns g c =
    let s = g.K.Kind.shape c.args.kind.now in
    let fs = c.args.finds.now in
    let test = λ (p : ℕ × Find g.row.K-Config.Denot). stands_in_place s c.args.starts fs p.0 p.1 in
    let value : c.all.result ≡ intact s c.args.starts fs =
    all_from_yields_List test _ _ _ c.all.ensures.ran (YieldsList-from_enumerate (YieldsList-from_slice fs cc) (cc)) (λ x b q k. search (rules, tests))
    ∙ intact_all s c.args.starts fs in
    record { value = value; test = Decides-at c.all.result (intact s c.args.starts fs) value (intact_decides s c.args.starts fs) }
