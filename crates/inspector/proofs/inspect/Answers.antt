use Rattle.std.proofs.Common.{◌≡◌, Ok, Err, sym, ap, ◌∙◌}
use Rattle.std.proofs.lemmas.Bool.{cond-false}
use Rattle.inspector.specs.declared.answers.Refused.TheVariants.{Unfit}
use Rattle.inspector.specs.Inspected.{if_found, examined, inspected}
use Rattle.inspector.proofs.Account.{account}
use Rattle.inspector.proofs.inspect.Goals as goal

pub returns-in-Some : goal.returns-in-Some
returns-in-Some g c =
    let s = g.K.Kind.shape c.args.kind.now in
    let xs = c.args.list.now in
    let value : Err (Unfit c.in-Some.entry) ≡ inspected s xs =
    ap (λ o. if_found o (λ i. Err (Unfit i)) (Ok (examined s xs))) c.in-Some.ensures
    ∙ sym (cond-false _ _ _ (sym c.if-is_too_long.ensures)) in
    let a = account s (g.K.Kind.laws c.args.kind.now) xs (Err (Unfit c.in-Some.entry)) value in
    record { value = value; cases = a.cases; test = a.test; ok = a.ok }

pub returns : goal.returns
returns g c =
    let s = g.K.Kind.shape c.args.kind.now in
    let xs = c.args.list.now in
    let value : Ok c.examine.result ≡ inspected s xs =
    ap Ok c.examine.ensures
    ∙ ap (λ o. if_found o (λ i. Err (Unfit i)) (Ok (examined s xs))) c.in_default.ensures
    ∙ sym (cond-false _ _ _ (sym c.if-is_too_long.ensures)) in
    let a = account s (g.K.Kind.laws c.args.kind.now) xs (Ok c.examine.result) value in
    record { value = value; cases = a.cases; test = a.test; ok = a.ok }
