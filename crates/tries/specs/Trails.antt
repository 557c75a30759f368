-- What is left of a key on the way down.
--
-- before k left d   what is left before depth d: the whole key k at the top, below it what `left` has for the depth above
use Rattle.std.specs.Prelude.{ℕ, zero, suc, List, slice_index_or}
use Rattle.keys.specs.declared.key.Key.{Key}

abbrev pub before : Key → List Key → ℕ → Key
before k left zero = k
before k left (suc d) = slice_index_or left d k
