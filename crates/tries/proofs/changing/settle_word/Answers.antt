use Rattle.std.proofs.Common.{◌≡◌, suc, ◌-◌, ◌∷◌, length, refl, sym, ap, ◌∙◌, arith}
use Rattle.tries.specs.Changes.{sprout, sprouts}
use Rattle.tries.proofs.Settling.{still_standing, settled_none, settled_then}
use Rattle.tries.proofs.changing.settle_word.Goals as goal

pub loop-i-init : goal.loop-i-init
loop-i-init c =
    let word = c.args.word.list.now in
    let none : length word - length word ≡ 0 = omega arith in
    (c.requires.deep, omega arith, refl, settled_none _ _ c.args.rows.now c.args.start (ap (sprouts word (length word)) none))

pub settle-begin-requires : goal.settle-begin-requires
settle-begin-requires c =
    let v = c.loop-i.invariant in
    let l = c.loop-i-test.true in
    record {
      place = omega (arith, v.3.near, v.1, c.requires.place);
      part = still_standing _ _ c.args.rows.now c.args.start c.loop-i.rows c.loop-i.begin v.2 c.requires.part v.3;
    }

pub loop-i-preserved : goal.loop-i-preserved
loop-i-preserved c =
    let word = c.args.word.list.now in
    let old = c.args.rows.now in
    let start = c.args.start in
    let i = c.loop-i.i in
    let j = i - 1 in
    let v = c.loop-i.invariant in
    let l = c.loop-i-test.true in
    let p = c.requires.place in
    let n : i ≡ suc j = omega arith in
    let m : length word - j ≡ suc (length word - suc j) = omega (arith, v.1) in
    let part = ap (sprouts word j) m ∙ sym (ap (λ k. sprout word j ∷ sprouts word k (length word - k)) n) ∙ sym (ap (λ r. r ∷ sprouts word i (length word - i)) c.sprout.ensures) in (
      omega arith,
      omega (arith, v.1),
      c.settle-begin.auto.rows ∙ v.2,
      settled_then _ _ _ _ old start c.loop-i.rows c.loop-i.begin c.settle-begin.new.rows c.settle-begin.result (length word - j) (sprouts word j (length word - j)) (omega (arith, v.1)) part (omega (arith, v.1)) v.3 c.settle-begin.ensures,
    )
