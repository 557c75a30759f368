-- Laying a payload into a buffer.
--   file_len_of n   the length of the file of a payload of n bytes, if there is such a file
--   writes n room   what writing a payload of n bytes into a buffer of room bytes answers
use Rattle.std.specs.Prelude.{ℕ, ◌*◌, cond, ◌||◌, Some, None, Ok, Err, Option, Result, ◌==◌, nat_lt}
use Rattle.blocks.specs.declared.writer.WriteRefusal.{WriteRefusal}
use Rattle.blocks.specs.declared.writer.WriteRefusal.TheVariants.{Payload, Buffer}
use Rattle.blocks.specs.Layout.{block_count}

-- a file has 1 to 65,536 blocks, since a block's number has two bytes
abbrev pub file_len_of : ℕ → Option ℕ
file_len_of n = cond (n == 0 || nat_lt 65536 (block_count n)) None (Some (512 * block_count n))

abbrev pub fitted : Option ℕ → ℕ → Result ℕ WriteRefusal
fitted None room = Err Payload
fitted (Some n) room = cond (nat_lt room n) (Err Buffer) (Ok n)

abbrev pub writes : ℕ → ℕ → Result ℕ WriteRefusal
writes n room = fitted (file_len_of n) room
