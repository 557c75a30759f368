use Rattle.std.proofs.Common.{◌≡◌, drop}
use Rattle.models.specs.Questions.{arrows_fault}
use Rattle.models.proofs.questions.check_arrows.Given as goal

-- what is left to ask gives the answer
abbrev pub invariant-loop-i : goal.invariant-loop-i
invariant-loop-i l = arrows_fault l.states l.signals l.i (drop l.i l.arrows) ≡ arrows_fault l.states l.signals 0 l.arrows
