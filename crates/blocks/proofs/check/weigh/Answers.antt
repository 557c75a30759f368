use Rattle.std.proofs.Common.{◌≡◌, ℕ, ◌+◌, ◌*◌, get_or, take, sym, ap, ◌∙◌, arith}
use Rattle.std.proofs.lemmas.Nat.{mul-le}
use Rattle.blocks.specs.Layout.{weighed}
use Rattle.blocks.proofs.Sums.{weighed_none, weighed_more}
use Rattle.blocks.proofs.check.weigh.Goals as goal

pub loop-i-init : goal.loop-i-init
loop-i-init c = (omega arith, sym (weighed_none 1))

pub overflow_add-sum-in-loop-i : goal.overflow_add-sum-in-loop-i
overflow_add-sum-in-loop-i c =
    let h = mul-le (c.loop-i.i + 1) c.from.result 508 255 (omega arith) (omega arith) in
    omega arith

pub loop-i-preserved : goal.loop-i-preserved
loop-i-preserved c =
    let bs = take 508 c.args.block.now in
    let i = c.loop-i.i in
    let h = mul-le (i + 1) c.from.result 508 255 (omega arith) (omega arith) in
    let e : c.from.result ≡ get_or bs i 0 = c.from.ensures in (
      omega arith,
      ap (λ (s : ℕ). s + (i + 1) * c.from.result) c.loop-i.invariant.1
          ∙ ap (λ (b : ℕ). weighed 1 (take i bs) + (i + 1) * b) e
          ∙ sym (weighed_more bs i (omega arith)),
    )
