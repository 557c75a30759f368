use Rattle.models.specs.Machine.{read}
use Rattle.models.proofs.Forming.{decides_formed}
use Rattle.models.proofs.Sending.{sends_lowered}
use Rattle.models.proofs.model.Model.check.Goals as goal

pub returns : goal.returns
returns c =
    let m = c.args.signals in
    let M = read c.args.self in
    let d = decides_formed m M c.ask.result c.ask.ensures in
    record { cases = c.ask.ensures; formed = d; bits = λ e. sends_lowered m M (d.0 e) }
