-- What the search for the least place of a list tells of the entries. Assumes nothing.
use Rattle.std.proofs.Common.{◌≡◌, ℕ, zero, suc, ◌<◌, Bool, not, List, [], ◌∷◌, length, get_or, Some, sym, refl, ap, ◌∙◌, le_of_suc-le-suc, not-suc-le-zero}
use Rattle.std.specs.List.{slice_get}
use Rattle.kinds.specs.Earliest.{Misses}
use Rattle.kinds.proofs.Values.{none_some}

-- a place below the length has an entry
pub entry_at : {C : Type 0} (xs : List C) (i : ℕ) → i < length xs → (y : C) × (slice_get xs i ≡ Some y)
entry_at [] i l = absurd (not-suc-le-zero l)
entry_at (x ∷ xs) zero l = (x, refl)
entry_at (x ∷ xs) (suc i) l = entry_at xs i (le_of_suc-le-suc l)

-- an entry is what is read at its place
pub read_at : {C : Type 0} (xs : List C) (i : ℕ) (y d : C) → slice_get xs i ≡ Some y → get_or xs i d ≡ y
read_at [] i y d e = none_some refl e
read_at (x ∷ xs) zero y d e = cc
read_at (x ∷ xs) (suc i) y d e = read_at xs i y d e

module _ {C : Type 0} (test : C → Bool) (wanted : Bool) (xs : List C) where
  -- the entry that was found
  pub hit : (i : ℕ) → i < length xs → ((d : C) → test (get_or xs i d) ≡ wanted) → (y : C) × (slice_get xs i ≡ Some y) × (test y ≡ wanted)
  hit i l h = let y = entry_at xs i l in (y.0, y.1, sym (ap test (read_at xs i y.0 y.0 y.1)) ∙ h y.0)

  -- an entry that was passed over
  pub missed : (n : ℕ) → Misses test wanted xs n → (i : ℕ) (y : C) → i < n → slice_get xs i ≡ Some y → test y ≡ not wanted
  missed n h i y l e = sym (ap test (read_at xs i y y e)) ∙ h i y l
