-- The least place of a list at which a test comes out as wanted.
--
-- Misses     at every place before n the test comes out otherwise
-- Earliest   the answer of a search for that place: the least such place, or none if there is none
use Rattle.std.specs.Prelude.{◌≡◌, ℕ, ◌<◌, Bool, not, List, length, Some, None, Option, slice_index_or}

module _ {C : Type 0} (test : C → Bool) (wanted : Bool) (xs : List C) where
  abbrev pub Misses : ℕ → Type 0
  Misses n = (j : ℕ) (d : C) → j < n → test (slice_index_or xs j d) ≡ not wanted

  abbrev pub Earliest : Option ℕ → Type 0
  Earliest None = Misses (length xs)
  Earliest (Some i) = (i < length xs) × ((d : C) → test (slice_index_or xs i d) ≡ wanted) × Misses i
