-- What a list over lent rows means.
--
-- contents l    what it holds: its first rows, as many as it counts, and no more than there are
-- room l        the most that it can hold: as many as there are rows
-- within_room   it never holds more than that
use Rattle.std.specs.Prelude.{ℕ, ◌≤◌, List, length, take}
use Rattle.std.proofs.Common.{arith, length-take}
use Rattle.stores.specs.declared.list.ListStore.{ListStore}

module _ {C : Type 0} (l : ListStore C) where
  abbrev pub contents : List C
  contents = take l.len l.rows.now

  abbrev pub room : ℕ
  room = length l.rows.now

  pub within_room : length contents ≤ room
  within_room = omega (arith, length-take l.len l.rows.now)
