use Rattle.std.proofs.Common.{◌≡◌, ◌+◌, ◌-◌, ◌<◌, length, get_or, ◌∷◌, take, drop, sym, refl, ap, ◌∙◌, arith}
use Rattle.tries.proofs.Walks.{blank}
use Rattle.tries.proofs.Settling.{part_more, row_kept, fewer_kept, still_standing, settled_none, settled_then}
use Rattle.tries.proofs.changing.settle_rows.Goals as goal

pub loop-i-init : goal.loop-i-init
loop-i-init c =
    let none : c.args.upto - c.args.upto ≡ 0 = omega arith in
    (c.requires.order, omega arith, refl, settled_none _ _ c.args.rows.now c.args.start (ap (λ k. take k (drop c.args.upto c.args.rows.now)) none))

pub settle-begin-requires : goal.settle-begin-requires
settle-begin-requires c =
    let v = c.loop-i.invariant in
    let l = c.loop-i-test.true in
    record {
      place = omega (arith, v.3.near, c.requires.place);
      part = still_standing _ _ c.args.rows.now c.args.start c.loop-i.rows c.loop-i.begin v.2 c.requires.part v.3;
    }

pub loop-i-preserved : goal.loop-i-preserved
loop-i-preserved c =
    let old = c.args.rows.now in
    let rows = c.loop-i.rows in
    let upto = c.args.upto in
    let start = c.args.start in
    let i = c.loop-i.i in
    let j = i - 1 in
    let v = c.loop-i.invariant in
    let l = c.loop-i-test.true in
    let p = c.requires.place in
    let inside : j < length old = omega (arith, v.1, p, c.requires.part.within) in
    let n : i ≡ j + 1 = omega arith in
    let kept = fewer_kept old rows (j + 1) (start - (upto - i)) (omega (arith, v.1)) v.3.same in
    let row : get_or rows j blank ≡ get_or old j blank = row_kept old rows j inside v.2 kept in
    let part = part_more old j upto (omega (arith, v.1)) inside ∙ sym (ap (λ k. get_or old j blank ∷ take (upto - k) (drop k old)) n) ∙ sym (ap (λ r. r ∷ take (upto - i) (drop i old)) row) in (
      omega arith,
      omega (arith, v.1),
      c.settle-begin.auto.rows ∙ v.2,
      settled_then _ _ _ _ old start rows c.loop-i.begin c.settle-begin.new.rows c.settle-begin.result (upto - j) (take (upto - j) (drop j old)) (omega (arith, v.1)) part (omega (arith, v.1)) v.3 c.settle-begin.ensures,
    )
