-- What is wrong with a file of blocks: the first question that is answered no.
--   cause_number               the number of the refusal, cause by cause
--   refusal f                  the number and the place of the fault f
--   length_fits n limit        whether a file may have n bytes: 512 to the limit, and whole blocks
--   fills used last            whether a block may use so many bytes: 504, or in the last block 1 to 504
--   zeros bs                   whether all of bs are 0
--   block_fault b last block   what is wrong with the block at place b
--   file_fault file limit      what is wrong with a file that may have at most limit bytes
use Rattle.std.specs.Prelude.{ℕ, zero, suc, ◌+◌, ◌/◌, ◌%◌, Bool, cond, ◌&&◌, List, length, take, drop, Some, None, Option, ◌==◌, nat_le, nat_lt}
use Rattle.std.specs.List.{list_all}
use Rattle.blocks.specs.declared.fault.BlockFault.{BlockFault}
use Rattle.blocks.specs.declared.fault.BlockCause.{BlockCause}
use Rattle.blocks.specs.declared.fault.BlockCause.TheVariants.{Length, Check, Number, Used, Unused}
use Rattle.blocks.specs.Layout.{number_in, used_in, room_in, check_in, sum_of}

abbrev pub cause_number : BlockCause → ℕ
cause_number Length = 20
cause_number Check = 21
cause_number Number = 22
cause_number Used = 23
cause_number Unused = 24

abbrev pub refusal : BlockFault → ℕ × ℕ
refusal f = (cause_number f.cause, f.place)

abbrev pub length_fits : ℕ → ℕ → Bool
length_fits n limit = nat_le 512 n && (nat_le n limit && n % 512 == 0)

abbrev pub fills : ℕ → Bool → Bool
fills used last = cond last (nat_lt 0 used && nat_le used 504) (used == 504)

abbrev pub zeros : List ℕ → Bool
zeros bs = list_all (λ b. b == 0) bs

-- the fault of that cause at that place, unless the question is answered yes
abbrev pub asked : Bool → BlockCause → ℕ → Option BlockFault → Option BlockFault
asked answer c p next = cond answer next (Some (record { cause = c; place = p }))

abbrev pub block_fault : ℕ → Bool → List ℕ → Option BlockFault
block_fault b last block =
    asked (check_in block == sum_of block) Check b
    (asked (number_in block == b) Number b
    (asked (fills (used_in block) last) Used b
    (asked (zeros (drop (used_in block) (room_in block))) Unused b None)))

abbrev pub first : Option BlockFault → Option BlockFault → Option BlockFault
first None later = later
first (Some f) later = Some f

-- what is wrong with n blocks from number b on, the last of the file among them
abbrev pub blocks_fault : ℕ → ℕ → List ℕ → Option BlockFault
blocks_fault zero b bytes = None
blocks_fault (suc n) b bytes = first (block_fault b (n == 0) (take 512 bytes)) (blocks_fault n (b + 1) (drop 512 bytes))

unfoldable pub file_fault : List ℕ → ℕ → Option BlockFault
file_fault file limit =
    asked (length_fits (length file) limit) Length (length file) (blocks_fault (length file / 512) 0 file)
