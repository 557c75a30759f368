use Rattle.std.proofs.Common.{arith}
use Rattle.models.specs.Questions.{judged}
use Rattle.models.proofs.model.Model.ask.Goals as goal

pub returns-then-not-is_sized : goal.returns-then-not-is_sized
unfolding judged
returns-then-not-is_sized c = grind arith

pub returns : goal.returns
unfolding judged
returns c = let h = c.check_arrows.ensures in grind arith
