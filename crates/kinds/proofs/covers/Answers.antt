use Rattle.std.proofs.Common.{◌≡◌, ◌∙◌}
use Rattle.std.proofs.lemmas.Bool.Decides.{Decides-at}
use Rattle.kinds.specs.Certificate.{covered}
use Rattle.kinds.proofs.Covering.{any_covers, covered_decides}
use Rattle.kinds.proofs.covers.Goals as goal

pub returns : goal.returns
returns g c =
    let s = g.K.Kind.shape c.args.kind.now in
    let xs = c.args.list.now in
    let value : c.some_covers.result ≡ covered s xs c.args.x = c.some_covers.ensures ∙ any_covers s xs c.args.x in
    record { value = value; test = Decides-at c.some_covers.result (covered s xs c.args.x) value (covered_decides s xs c.args.x) }
