use Rattle.std.proofs.Common.{◌≡◌, suc, ◌-◌, sym, refl, ap, ◌∙◌, arith}
use Rattle.std.proofs.lemmas.List.{get_or_default}
use Rattle.keys.specs.Listed.{numbers}
use Rattle.keys.specs.Numbers.{without}
use Rattle.tries.specs.Trails.{before}
use Rattle.tries.proofs.asking.follow.Goals as goal
use Rattle.tries.proofs.asking.follow.Goals.{then-depth-eq0, else-depth-eq0}

pub returns : goal.returns
returns c =
    let left = c.args.left.now in
    let key = c.args.key in
    let d = c.args.row.depth in
    let above : c.if-depth-eq0.above ≡ before key left d = elim c.if-depth-eq0.branch [
      | then-depth-eq0 w ↦ w.above-is ∙ sym (ap (before key left) w.if-depth-eq0.true)
      | else-depth-eq0 w ↦
          let l = c.requires in
          let k = c.told-left in
          let z = w.if-depth-eq0.false in
          let e : d ≡ suc (d - 1) = omega arith in
          w.above-is ∙ get_or_default left (d - 1) _ key (omega arith) ∙ sym (ap (before key left) e)
    ] in
    record { value = c.without-rest.ensures ∙ ap (λ k. without c.args.row.number (numbers k)) above; left = refl }
