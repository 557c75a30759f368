use Rattle.std.proofs.Common.{◌≡◌, length, true, ap, ◌∙◌, subst, sym, arith, length-drop}
use Rattle.tries.specs.Rows.{run, linked}
use Rattle.tries.proofs.Paths.{run_le, linked_parts}
use Rattle.tries.proofs.Walks.{drop_linked, run_jump}
use Rattle.tries.proofs.asking.measure.Goals as goal

pub loop-row-preserved : goal.loop-row-preserved
loop-row-preserved c =
    let v = c.loop-row.invariant in
    let row = c.in-Some.row.now in
    let rest = c.in-Some.rest.now in
    let k = run row.depth rest in
    let first = c.in-Some.ensures.cases in
    let next = c.past-ahead.ensures in
    let links = linked_parts row rest (subst (λ z. linked z ≡ true) first.0 v.1) in
    let jump = ap (run c.args.depth) first.0 ∙ run_jump c.args.depth row rest c.if-row-depth.false in
    let short = run_le row.depth rest in
    let long = length-drop k rest in
    (omega (arith, v.0, first.1, ap length next), subst (λ z. linked z ≡ true) (sym next) (drop_linked k rest links.1), omega (arith, v.2, jump, first.1, ap length next, ap (run c.args.depth) next))
