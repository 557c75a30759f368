use Rattle.std.proofs.Common.{map, sym, ap, ◌∙◌}
use Rattle.kinds.specs.Certificate.{covered}
use Rattle.tries.specs.Rows.{reached}
use Rattle.tries.specs.Tries.{keys_of}
use Rattle.tries.proofs.Stores.{covered_keys}
use Rattle.tries.proofs.trie.storing.TrieStoreStore.covers.Goals as goal

pub returns : goal.returns
returns g c =
    let s = g.K.Kind.shape c.args.kind.now in
    let config = g.K.Keyed.config in
    let ws = keys_of c.args.self.now in
    let k = c.key.ensures in
    c.covers_key.ensures ∙ ap (λ v. reached v ws) k.value
    ∙ sym (covered_keys _ s config k.order (g.K.Keyed.word c.args.x) k.proper ws c.args.self.now.proper)
    ∙ ap (covered s (map config ws)) k.same
