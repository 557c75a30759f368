use Rattle.std.proofs.Common.{arith}
use Rattle.std.proofs.lemmas.Bool.Decides.{Decides-at}
use Rattle.models.proofs.Admitting.{decides_agrees}
use Rattle.models.proofs.arrow.Arrow.admits.Goals as goal

pub returns : goal.returns
returns c =
    let e = c.is_admitted.ensures in
    record {
      value = e;
      signals = Decides-at _ _ e (decides_agrees c.args.self c.args.event 16 (omega arith) (omega arith));
    }
