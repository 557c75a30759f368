use Rattle.std.proofs.Common.{map, sym, ap, ◌∙◌}
use Rattle.stores.specs.Holding.{alike}
use Rattle.tries.specs.Rows.{matched}
use Rattle.tries.specs.Tries.{keys_of}
use Rattle.tries.proofs.Stores.{alike_keys}
use Rattle.tries.proofs.trie.storing.TrieStoreStore.holds.Goals as goal

pub returns : goal.returns
returns g c =
    let s = g.K.Kind.shape c.args.kind.now in
    let config = g.K.Keyed.config in
    let ws = keys_of c.args.self.now in
    let k = c.key.ensures in
    c.holds_key.ensures ∙ ap (λ v. matched v ws) k.value
    ∙ sym (alike_keys _ s config k.order (g.K.Keyed.word c.args.x) k.proper ws c.args.self.now.proper)
    ∙ ap (alike s (map config ws)) k.same
