use Rattle.std.proofs.Common.{◌≡◌, [], length, take, ap, ◌∙◌, arith}
use Rattle.std.proofs.lemmas.List.{with_items_is}
use Rattle.keys.specs.Listed.{numbers}
use Rattle.tries.specs.Rows.{linked, shaped}
use Rattle.tries.specs.Changes.{released}
use Rattle.tries.specs.Forests.{in_use}
use Rattle.tries.proofs.Releasing.{links_released, shaped_released}
use Rattle.tries.proofs.forest.Forest.let_go.Goals as goal

pub invariant_of-self : goal.invariant_of-self
invariant_of-self c =
    let f = c.args.self.now in
    let v = numbers c.args.key in
    let d = c.deref_mut.ensures.value in
    let long : length c.release_used.new.rows ≡ f.rows.len = c.release_used.auto.rows ∙ c.deref_mut.ensures.len in
    let all = with_items_is f.rows c.release_used.new.rows long in
    let e = ap (take f.used) all ∙ c.release_used.ensures.rows ∙ ap (λ z. released v [] (take f.used z)) d in
    record {
      within = omega (arith, f.within, ap length all, c.release_used.auto.rows, ap length d);
      linked = ap linked e ∙ links_released v [] (in_use f) f.linked;
      shaped = ap (shaped 0) e ∙ shaped_released v 0 [] (in_use f) ∙ f.shaped;
    }
