use Rattle.std.proofs.Common.{◌+◌, [], ◌∷◌, ◌++◌, length, sym, ap, ◌∙◌, subst, rules}
use Rattle.std.proofs.lemmas.List.{length-take-le, length-append}
use Rattle.stores.specs.Holding.{Reordered}
use Rattle.stores.proofs.Reorderings.{reordered_length}
use Rattle.tries.specs.Rows.{paths}
use Rattle.tries.specs.Changes.{released, PutIn}
use Rattle.tries.specs.Forests.{in_use}
use Rattle.tries.proofs.Releasing.{length_released, shaped_released, paths_released}
use Rattle.tries.proofs.Growing.{Put, few_paths, put_word}
use Rattle.tries.proofs.forest.Forest.exchange.Goals as goal
use Rattle.tries.proofs.forest.Forest.exchange.Goals.{After-put_in}

-- the word is put in the rows where the keys that contain it are let go
done : (c : After-put_in) → Put (c.args.word.list.now) (released (c.args.word.list.now) [] (in_use c.args.self.now)) (in_use c.put_in.new.self)
done c =
    let f = c.args.self.now in
    let v = c.args.word.list.now in
    let old = released v [] (in_use f) in
    let ss = in_use c.put_in.new.self in
    let p : PutIn v old ss = subst (λ z. PutIn v z ss) (c.let_go-left.ensures.rows ∙ ap (λ z. released z [] (in_use f)) (sym c.args.word.is)) c.put_in.ensures.items in
    put_word v old ss (shaped_released v 0 [] (in_use f) ∙ f.shaped) c.args.word.short p

pub overflow_add-result : goal.overflow_add-result
overflow_add-result c =
    let f = c.args.self.now in
    let v = c.args.word.list.now in
    let room = c.requires in
    let h = few_paths [] (released v [] (in_use f)) in
    let k = length_released v [] (in_use f) in
    let l = length-take-le f.used f.rows.items f.within in
    let e = c.let_go-left.ensures.count ∙ ap (λ z. length (paths [] (released z [] (in_use f)))) (sym c.args.word.is) in
    search rules

pub returns-clause-items : goal.returns-clause-items
returns-clause-items c =
    let v = c.args.word.list.now in
    subst (λ z. Reordered (z ++ v ∷ []) (paths [] (in_use c.put_in.new.self))) (paths_released v [] (in_use c.args.self.now)) (done (goal.at.returns-clause-items c).After-put_in).items

pub returns-clause-size : goal.returns-clause-size
returns-clause-size c =
    let v = c.args.word.list.now in
    let old = released v [] (in_use c.args.self.now) in
    ap (λ k. k + 1) (c.let_go-left.ensures.count ∙ ap (λ z. length (paths [] (released z [] (in_use c.args.self.now)))) (sym c.args.word.is)) ∙ sym (length-append (paths [] old) (v ∷ [])) ∙ reordered_length (done (goal.at.returns-clause-size c).After-put_in).items

pub returns-clause-bearing : goal.returns-clause-bearing
returns-clause-bearing c = (done (goal.at.returns-clause-bearing c).After-put_in).bearing
