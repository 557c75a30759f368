use Rattle.std.proofs.Common.{◌≡◌, ℕ, ◌≤◌, List, ◌++◌, length, ap, ◌∙◌, arith, length-append, length-take}
use Rattle.without.proofs.write_pair.Goals as goal

-- what was written is within the buffer
file_fits : (file rest buffer : List ℕ) (n : ℕ) → n ≡ length file → buffer ≡ file ++ rest → n ≤ length buffer
file_fits file rest buffer n e f = omega (arith, e, ap length f ∙ length-append file rest)

pub slice_bounds-buffer-end : goal.slice_bounds-buffer-end
slice_bounds-buffer-end c = let h = c.in-Ok-write_pattern.ensures in file_fits _ _ c.write_pattern.new.buffer c.in-Ok-write_pattern.len h.cases.1 h.after

pub slice_bounds-write-end : goal.slice_bounds-write-end
slice_bounds-write-end c =
    let h = c.in-Ok-write_pattern.ensures in
    let n = c.in-Ok-write_pattern.len in
    let fits = file_fits _ _ c.write_pattern.new.buffer n h.cases.1 h.after in
    omega (arith, fits, length-take n c.write_pattern.new.buffer)
