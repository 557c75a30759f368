use Rattle.std.proofs.Common.{◌≡◌, ap₂, ◌∙◌}
use Rattle.std.proofs.lemmas.Bool.Decides.{Decides-at}
use Rattle.sets.specs.Sets.{has}
use Rattle.models.specs.Machine.{read}
use Rattle.models.proofs.Sending.{worked, worked_is, decides_sends}
use Rattle.models.proofs.model.Model.is_sent.Goals as goal

pub returns : goal.returns
returns c =
    let M = read c.args.self in
    let es = c.args.events.now in
    let e : c.holds.result ≡ has (worked M es M.ends) M.start =
    c.holds.ensures ∙ ap₂ has (c.worked_back.ensures ∙ worked_is M es M.ends) c.from.ensures in
    Decides-at _ _ e (decides_sends M c.requires es)
