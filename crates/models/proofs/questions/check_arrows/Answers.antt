use Rattle.std.proofs.Common.{sym, ◌∙◌, arith}
use Rattle.std.proofs.lemmas.List.{at_drop_all}
use Rattle.models.specs.Machine.{idle}
use Rattle.models.specs.Questions.{arrows_fault}
use Rattle.models.proofs.Asking.{arrows_more, arrows_stop}
use Rattle.models.proofs.questions.check_arrows.Goals as goal

pub returns-then-not-is_proper : goal.returns-then-not-is_proper
returns-then-not-is_proper c =
    sym c.loop-i.invariant
    ∙ arrows_stop c.args.states c.args.signals c.args.arrows.now c.loop-i.i idle c.loop-i-test.true
    (sym c.is_proper.ensures ∙ c.if-not-is_proper.true)

pub loop-i-preserved : goal.loop-i-preserved
loop-i-preserved c =
    arrows_more c.args.states c.args.signals c.args.arrows.now c.loop-i.i idle c.loop-i-test.true
    (sym c.is_proper.ensures ∙ c.if-not-is_proper.false)
    ∙ c.loop-i.invariant

pub returns : goal.returns
returns c =
    sym c.loop-i.invariant
    ∙ at_drop_all (arrows_fault c.args.states c.args.signals c.loop-i.i) c.args.arrows.now c.loop-i.i (omega arith)
