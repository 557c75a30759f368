-- What a trie means.
--
-- rows_of t     the rows in use
-- keys_of t     the keys that it holds
-- room_of t     the most that it can hold
-- within_room   it never holds more than that
use Rattle.std.specs.Prelude.{ℕ, ◌≤◌, List, map, length, vec_items}
use Rattle.std.proofs.Common.{arith}
use Rattle.std.proofs.lemmas.List.{length-map}
use Rattle.tries.specs.declared.row.Row.{Row}
use Rattle.tries.specs.declared.trie.TrieStore.{TrieStore}
use Rattle.tries.specs.Forests.{in_use}
use Rattle.tries.specs.Words.{words, room}

module _ {leads : ℕ} (t : TrieStore leads) where
  abbrev pub rows_of : List Row
  rows_of = in_use t.forest

  abbrev pub keys_of : List (List ℕ)
  keys_of = words t.root rows_of

  abbrev pub room_of : ℕ
  room_of = room (length (vec_items t.forest.rows))

  pub within_room : {C : Type 0} (config : List ℕ → C) → length (map config keys_of) ≤ room_of
  within_room config = omega (arith, length-map keys_of config, t.count, t.few)
