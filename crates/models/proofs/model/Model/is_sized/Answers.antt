use Rattle.std.proofs.Common.{arith}
use Rattle.std.proofs.lemmas.Bool.Decides.{nat_tests}
use Rattle.models.proofs.model.Model.is_sized.Goals as goal

pub returns-then-self : goal.returns-then-self
returns-then-self c = let e = c.is_below.ensures.value in grind (arith, nat_tests)
