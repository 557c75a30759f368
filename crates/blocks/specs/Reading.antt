-- Walking a payload.
--   rest r                the payload bytes that the reader r has still to hand out
--   Stands r              the reader r stands before a byte in use of the block that it entered
--   payload_len_of file   the length that the number of blocks and the last used count give
use Rattle.std.specs.Prelude.{ℕ, ◌+◌, ◌-◌, ◌*◌, ◌/◌, ◌<◌, ◌≤◌, cond, List, ◌++◌, length, take, drop, nat_lt}
use Rattle.blocks.specs.declared.reader.Reader.{Reader}
use Rattle.blocks.specs.Layout.{payload, used_in}

-- what is left of the block that was entered, and the payload of the blocks behind it
abbrev pub rest : Reader → List ℕ
rest r = drop r.place (take r.end r.file.now) ++ payload (drop r.block r.file.now)

abbrev pub Stands : Reader → Type 0
Stands r = (r.place < r.end) × (r.end ≤ length r.file.now)

abbrev pub payload_len_of : List ℕ → ℕ
payload_len_of file =
    cond (nat_lt (length file) 512) 0
    (504 * (length file / 512 - 1) + used_in (drop (512 * (length file / 512 - 1)) file))
