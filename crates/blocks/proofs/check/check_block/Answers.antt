use Rattle.std.proofs.Common.{sym, ap, ◌∙◌, arith}
use Rattle.std.proofs.lemmas.Bool.Decides.{nat_tests}
use Rattle.blocks.specs.Faults.{zeros}
use Rattle.blocks.proofs.OneBlock.{fills_range, unused_part}
use Rattle.blocks.proofs.check.check_block.Goals as goal

pub returns-then-not-all_zero : goal.returns-then-not-all_zero
returns-then-not-all_zero c =
    let used = c.from-used.result in
    let r = fills_range used c.args.last (sym c.if-not-may_use.ensures) in
    let z = c.all_zero.ensures ∙ ap zeros (unused_part c.args.block.now used r.1) in
    grind (arith, nat_tests)

pub returns : goal.returns
returns c =
    let used = c.from-used.result in
    let r = fills_range used c.args.last (sym c.if-not-may_use.ensures) in
    let z = c.all_zero.ensures ∙ ap zeros (unused_part c.args.block.now used r.1) in
    grind (arith, nat_tests)
