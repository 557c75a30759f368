-- The keys that a trie holds.
--
-- at_root root    the key with no number, where a key ends at the root
-- words root rs   the keys held: the one that ends at the root, and those in the rows
-- room n          how many keys there is room for in n rows: each takes at most 65, and one row is left for the root
-- admitted_key    the answer to a key v where ws are held and n is the maximum
use Rattle.std.specs.Prelude.{ℕ, ◌-◌, ◌/◌, Bool, cond, List, [], ◌∷◌, ◌++◌, length, Ok, Err, Result, nat_lt}
use Rattle.stores.specs.declared.refusals.Refused.{Refused}
use Rattle.stores.specs.declared.refusals.Refused.TheVariants.{Covered, Full}
use Rattle.tries.specs.declared.row.Row.{Row}
use Rattle.tries.specs.Rows.{paths, reached}

abbrev pub at_root : Bool → List (List ℕ)
at_root root = cond root ([] ∷ []) []

abbrev pub words : Bool → List Row → List (List ℕ)
words root rs = at_root root ++ paths [] rs

abbrev pub room : ℕ → ℕ
room n = (n - 1) / 65

abbrev pub admitted_key : List ℕ → List (List ℕ) → ℕ → Result (Unit {0}) Refused
admitted_key v ws n = cond (reached v ws) (Err Covered) (cond (nat_lt (length ws) n) (Ok tt) (Err Full))
