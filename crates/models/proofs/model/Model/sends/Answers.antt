use Rattle.std.proofs.Common.{refl, arith}
use Rattle.models.proofs.model.Model.sends.Goals as goal

pub is_sent-requires : goal.is_sent-requires
is_sent-requires c =
    let F = c.in_ok-check.ensures.formed.0 refl in
    λ i h. let p = (F.joined i h).leaves in let n = F.few_states in omega arith
