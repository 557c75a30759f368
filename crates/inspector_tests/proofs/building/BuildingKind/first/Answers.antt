use Rattle.std.proofs.Common.{rules, ◌≡◌, Some, None, sym, ap, ◌∙◌}
use Rattle.std.specs.Option.{option_map}
use Rattle.std.specs.List.{slice_get}
use Rattle.std.proofs.lemmas.Option.{slice_get-map}
use Rattle.inspector_tests.specs.declared.building.Cell.{Cell}
use Rattle.inspector_tests.specs.Building.{capped}
use Rattle.inspector_tests.proofs.building.BuildingKind.first.Goals as goal

pub returns-in_err-cell : goal.returns-in_err-cell
returns-in_err-cell c =
    let b = c.args.self.now in
    let f : Cell → Cell = λ v. capped v.room v.level b.top in
    let e : slice_get b.firsts.now c.args.i ≡ None = search rules in
    let r : c.from_residual.result ≡ None = search rules in
    r ∙ sym (slice_get-map f b.firsts.now c.args.i ∙ ap (option_map f) e)

pub returns : goal.returns
returns c =
    let b = c.args.self.now in
    let f : Cell → Cell = λ v. capped v.room v.level b.top in
    let e : slice_get b.firsts.now c.args.i ≡ Some c.in_ok-cell.cell = search rules in
    ap Some c.cap.ensures ∙ sym (slice_get-map f b.firsts.now c.args.i ∙ ap (option_map f) e)
