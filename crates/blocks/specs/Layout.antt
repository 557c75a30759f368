-- A file is a row of blocks of 512 bytes: number (2 bytes), used count (2), payload (504), check (4).
--   number_in, used_in, room_in, check_in   the four fields of a block
--   weighed k bs                            the first byte of bs times k, the next times k + 1, and so on, added up
--   sum_of block                            the sum that a right check has: the bytes before it, weighed from 1
--   front_of block                          the payload bytes in use
--   payload file                            the bytes in use of all whole blocks, in order
--   block_count n                           how many blocks a payload of n bytes takes
--   head_of b part                          block b up to its check, where part is in use
--   block_of b part                         block b with part in use
--   blocks_of p                             the file whose payload is p
use Rattle.std.specs.Prelude.{ℕ, zero, suc, ◌+◌, ◌-◌, ◌*◌, ◌/◌, List, [], ◌∷◌, ◌++◌, length, take, drop, replicate}
use Rattle.blocks.specs.Bytes.{number, bytes_of}

abbrev pub number_in : List ℕ → ℕ
number_in block = number (take 2 block)

abbrev pub used_in : List ℕ → ℕ
used_in block = number (take 2 (drop 2 block))

abbrev pub room_in : List ℕ → List ℕ
room_in block = take 504 (drop 4 block)

abbrev pub check_in : List ℕ → ℕ
check_in block = number (take 4 (drop 508 block))

unfoldable pub weighed : ℕ → List ℕ → ℕ
weighed k [] = 0
weighed k (b ∷ bs) = k * b + weighed (k + 1) bs

abbrev pub sum_of : List ℕ → ℕ
sum_of block = weighed 1 (take 508 block)

abbrev pub front_of : List ℕ → List ℕ
front_of block = take (used_in block) (room_in block)

-- the bytes in use of the first n blocks
abbrev pub fronts : ℕ → List ℕ → List ℕ
fronts zero bytes = []
fronts (suc n) bytes = front_of (take 512 bytes) ++ fronts n (drop 512 bytes)

unfoldable pub payload : List ℕ → List ℕ
payload file = fronts (length file / 512) file

abbrev pub block_count : ℕ → ℕ
block_count n = (n + 503) / 504

unfoldable pub head_of : ℕ → List ℕ → List ℕ
head_of b part = ((bytes_of 2 b ++ bytes_of 2 (length part)) ++ part) ++ replicate (504 - length part) 0

unfoldable pub block_of : ℕ → List ℕ → List ℕ
block_of b part = head_of b part ++ bytes_of 4 (weighed 1 (head_of b part))

-- n blocks from number b on
abbrev pub blocks_from : ℕ → ℕ → List ℕ → List ℕ
blocks_from zero b p = []
blocks_from (suc n) b p = block_of b (take 504 p) ++ blocks_from n (b + 1) (drop 504 p)

unfoldable pub blocks_of : List ℕ → List ℕ
blocks_of p = blocks_from (block_count (length p)) 0 p
