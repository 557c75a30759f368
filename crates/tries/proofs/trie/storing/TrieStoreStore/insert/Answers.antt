use Rattle.std.proofs.Common.{◌≡◌, [], map, length, sym, ap, ◌∙◌, subst, arith}
use Rattle.std.proofs.lemmas.List.{length-take-le}
use Rattle.std.proofs.lemmas.Result.{err_from_is_err_and}
use Rattle.stores.specs.Holding.{Reordered}
use Rattle.stores.proofs.Reorderings.{reordered_length}
use Rattle.stores.proofs.Insertions.{admitted_apart}
use Rattle.keys.specs.Listed.{numbers}
use Rattle.keys.specs.Numbers.{none, proper}
use Rattle.tries.specs.Rows.{paths, proper_all}
use Rattle.tries.specs.Changes.{put}
use Rattle.tries.specs.Forests.{in_use}
use Rattle.tries.specs.Words.{words, room}
use Rattle.tries.specs.Tries.{keys_of, room_of}
use Rattle.tries.proofs.Settling.{few_rows}
use Rattle.tries.proofs.Stores.{Admitted, admission, answer, room_left, root_free, words_paths, paths_words, proper_reordered, proper_put, put_length}
use Rattle.tries.proofs.trie.storing.TrieStoreStore.insert.Given.{Over}
use Rattle.tries.proofs.trie.storing.TrieStoreStore.insert.Goals as goal
use Rattle.tries.proofs.trie.storing.TrieStoreStore.insert.Goals.{In_ok-admit}

-- the key was admitted to the trie
admitted_to : (g : Over) (c : In_ok-admit g) → Admitted g.row.LEADS (g.K.Kind.shape c.args.kind.now) g.K.Keyed.config c.key-key.ensures.order (numbers c.key-key.result) (ap (proper g.row.LEADS) c.key-key.ensures.value ∙ c.key-key.ensures.proper) c.args.x (ap g.K.Keyed.config c.key-key.ensures.value ∙ c.key-key.ensures.same) (keys_of c.args.self.now) c.args.self.now.proper (room_of c.args.self.now)
admitted_to g c = admission _ _ _ _ _ _ _ _ _ _ _ (sym c.in_ok-admit.was ∙ c.admit.ensures)

pub returns-in_err-admit-clause-value : goal.returns-in_err-admit-clause-value
returns-in_err-admit-clause-value g c =
    let t = c.args.self.now in
    let k = c.key-key.ensures in
    let p = err_from_is_err_and c.from_residual.result c.from_residual.ensures.1 in
    let told = answer g.row.LEADS (g.K.Kind.shape c.args.kind.now) g.K.Keyed.config k.order (numbers c.key-key.result) (ap (proper g.row.LEADS) k.value ∙ k.proper) c.args.x (ap g.K.Keyed.config k.value ∙ k.same) (keys_of t) t.proper (room_of t) in
    rw (p.1, p.2) (sym c.in_err-admit.was ∙ c.admit.ensures ∙ told)

pub change-self-requires : goal.change-self-requires
change-self-requires g c =
    let t = c.args.self.now in
    let f = t.forest in
    let rows = f.rows.items in
    let less = (admitted_to g (goal.at.change-self-requires g c).In_ok-admit).fewer in
    let long = length-take-le f.used rows f.within in
    let few = few_rows [] 0 (in_use f) f.shaped t.bearing in
    let part = paths_words t.root (in_use f) in
    let count = t.count in
    room_left f.used t.size (length rows) (omega arith) (omega arith)

pub invariant_of-self : goal.invariant_of-self
invariant_of-self g c =
    let t = c.args.self.now in
    let rs = in_use t.forest in
    let ss = in_use c.change-self.new.self in
    let k = c.key-key.ensures in
    let v = numbers c.key-key.result in
    let a = admitted_to g (goal.at.invariant_of-self g c).In_ok-admit in
    let plain = words_paths t.root rs (root_free t.root v rs a.uncovered) in
    let ch = c.change-self.ensures in
    let root = c.is_empty-self.ensures in
    let most = put_length v (paths [] rs) in
    let same : words (none v) ss ≡ words c.is_empty-self.result ss = sym (ap (λ b. words b ss) root) in
    let size = reordered_length ch.items in
    let part = ap length plain in
    let limit = ap room ch.room in
    let less = a.fewer in
    record {
      bearing = ch.bearing;
      proper = sym (ap (proper_all g.row.LEADS) same) ∙ sym (proper_reordered g.row.LEADS ch.items)
          ∙ proper_put g.row.LEADS v (paths [] rs) (ap (proper g.row.LEADS) k.value ∙ k.proper) (ap (proper_all g.row.LEADS) (sym plain) ∙ t.proper);
      count = ch.size ∙ ap length same;
      few = omega (arith, ch.size, size, most, part, less, limit);
    }

pub returns : goal.returns
returns g c =
    let t = c.args.self.now in
    let rs = in_use t.forest in
    let s = g.K.Kind.shape c.args.kind.now in
    let config = g.K.Keyed.config in
    let v = numbers c.key-key.result in
    let a = admitted_to g (goal.at.returns g c).In_ok-admit in
    let plain = words_paths t.root rs (root_free t.root v rs a.uncovered) in
    let after = words c.is_empty-self.result (in_use c.change-self.new.self) in
    let items : Reordered (put v (keys_of t)) after =
    subst (λ z. Reordered (put v (keys_of t)) z) (sym (ap (λ b. words b (in_use c.change-self.new.self)) c.is_empty-self.ensures))
    (subst (λ z. Reordered (put v z) (words (none v) (in_use c.change-self.new.self))) (sym plain) c.change-self.ensures.items) in
    let r = a.held after items in
    record {
      value = a.entered;
      items = r;
      limit = ap room c.change-self.ensures.room;
      apart = admitted_apart s c.args.x (map config (keys_of t)) (room_of t) a.entered (map config after) r;
    }
