-- Rows of a table as the code reads them. Assumes nothing.
use Rattle.std.proofs.Common.{◌≡◌, ℕ, ◌<◌, List, length, get_or, Some, sym, ap, ◌∙◌}
use Rattle.std.specs.List.{slice_get}
use Rattle.kinds.proofs.Searches.{entry_at, read_at}

-- a read within the list is what stands there
pub row_read : {A : Type 0} (xs : List A) (i : ℕ) (d : A) → i < length xs → slice_get xs i ≡ Some (get_or xs i d)
row_read xs i d l = let y = entry_at xs i l in y.1 ∙ ap Some (sym (read_at xs i y.0 d y.1))
