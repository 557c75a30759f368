use Rattle.std.proofs.Common.{◌≡◌, length, take, ap, ◌∙◌, subst, arith}
use Rattle.std.proofs.lemmas.List.{with_items_is}
use Rattle.tries.specs.Rows.{linked, shaped}
use Rattle.tries.specs.Changes.{PutIn}
use Rattle.tries.specs.Forests.{in_use}
use Rattle.tries.proofs.Growing.{put_word}
use Rattle.tries.proofs.forest.Forest.put_in.Goals as goal

pub invariant_of-self : goal.invariant_of-self
invariant_of-self c =
    let f = c.args.self.now in
    let word = c.args.word.list.now in
    let d = c.deref_mut.ensures.value in
    let used = c.grow-self.result in
    let last = c.grow-self.new.rows in
    let long : length last ≡ f.rows.len = c.grow-self.auto.rows ∙ c.deref_mut.ensures.len in
    let all = with_items_is f.rows last long in
    let done = put_word word (in_use f) (take used last) f.shaped c.args.word.short (subst (λ z. PutIn word (take f.used z) (take used last)) d c.grow-self.ensures.items) in
    record {
      within = omega (arith, c.grow-self.ensures.within, ap length all, c.grow-self.auto.rows);
      linked = ap (λ z. linked (take used z)) all ∙ done.linked;
      shaped = ap (λ z. shaped 0 (take used z)) all ∙ done.shaped;
    }
