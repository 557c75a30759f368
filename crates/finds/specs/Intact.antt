-- Whether the recorded rows of a table of finds are as a search leaves them.
--
-- The first f rows are those that opening recorded. Every other row came from an earlier one, its origin, by a move.
--
-- Follows           row i, with y in it, came from an earlier row by a move that the kind has, and is one longer
-- Intact            the first f rows have length 0, and every other row follows an earlier one
-- came_after        whether row i follows an earlier one
-- stands_in_place   whether row i has length 0 if it is among the first f, and otherwise follows an earlier one
-- intact_before     whether every row before n is in place
-- intact            whether all rows are in place: it decides Intact
use Rattle.std.specs.Prelude.{◌≡◌, ℕ, zero, suc, ◌<◌, ◌≤◌, Bool, true, cond, ◌&&◌, List, length, Some, ◌==◌, nat_lt}
use Rattle.std.specs.List.{slice_get}
use Rattle.kinds.specs.Shape.{Shape}
use Rattle.inspector.specs.Inspected.{has_such}
use Rattle.search.specs.declared.Find.{Find}
use Rattle.search.specs.Search.{length_at}

pub record Follows {C : Type 0} (s : Shape C) (fs : List (Find C)) (i : ℕ) (y : Find C) : Type 0 where
  pub from : Find C
  pub there : slice_get fs y.origin ≡ Some from
  pub earlier : y.origin < i
  pub longer : y.length ≡ suc from.length
  pub move : y.via < s.moves

pub record Intact {C : Type 0} (s : Shape C) (f : ℕ) (fs : List (Find C)) : Type 0 where
  pub starts : (i : ℕ) (y : Find C) → slice_get fs i ≡ Some y → i < f → y.length ≡ 0
  pub follows : (i : ℕ) (y : Find C) → slice_get fs i ≡ Some y → f ≤ i → Follows s fs i y

module _ {C : Type 0} (s : Shape C) where
  abbrev pub came_after : List (Find C) → ℕ → Find C → Bool
  came_after fs i y = nat_lt y.origin i && (y.length == suc (length_at fs y.origin) && nat_lt y.via s.moves)

  module _ (f : ℕ) (fs : List (Find C)) where
    abbrev pub stands_in_place : ℕ → Find C → Bool
    stands_in_place i y = cond (nat_lt i f) (y.length == 0) (came_after fs i y)

    unfoldable pub intact_before : ℕ → Bool
    intact_before zero = true
    intact_before (suc n) = has_such (stands_in_place n) (slice_get fs n) && intact_before n

    abbrev pub intact : Bool
    intact = intact_before (length fs)
