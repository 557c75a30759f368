-- The laws of the format: reading and writing undo each other, and the last used count tells the length.
--   Rewritten file    the file is the only one with its payload: laying its payload into blocks gives it back
--   Readable file p   the file has no fault under any limit that it fits in, and its payload is p
--   Counted file n    n is the length of the file's payload, if the file has no fault
use Rattle.std.specs.Prelude.{◌≡◌, ℕ, ◌≤◌, false, List, length, is_some}
use Rattle.blocks.specs.Layout.{payload, blocks_of}
use Rattle.blocks.specs.Faults.{file_fault}

abbrev pub Rewritten : List ℕ → Type 0
Rewritten file = blocks_of (payload file) ≡ file

abbrev pub Readable : List ℕ → List ℕ → Type 0
Readable file p =
    ((limit : ℕ) → length file ≤ limit → is_some (file_fault file limit) ≡ false) × (payload file ≡ p)

abbrev pub Counted : List ℕ → ℕ → Type 0
Counted file n = (limit : ℕ) → is_some (file_fault file limit) ≡ false → length (payload file) ≡ n
