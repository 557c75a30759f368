-- Numbers that stand in several bytes, the low byte first.
--   Bytes bs           each element of the list bs is a byte
--   number bs          the number that the bytes bs write
--   bytes_of n x       the lowest n bytes of x
--   next_number n bs   the number in the first n bytes of bs, if bs has so many
--   next_three_of bs   the three numbers in the first six bytes of bs, of two bytes each, if bs has so many
--   head bs            the first byte of bs, if there is one
use Rattle.std.specs.Prelude.{ℕ, zero, suc, ◌+◌, ◌*◌, ◌/◌, ◌%◌, ◌<◌, cond, List, [], ◌∷◌, length, take, drop, Some, None, Option, nat_le}
use Rattle.std.specs.List.{AllByRecursion}

abbrev pub Bytes : List ℕ → Type 0
Bytes bs = AllByRecursion (λ b. b < 256) bs

abbrev pub number : List ℕ → ℕ
number [] = 0
number (b ∷ bs) = b + 256 * number bs

abbrev pub bytes_of : ℕ → ℕ → List ℕ
bytes_of zero x = []
bytes_of (suc n) x = x % 256 ∷ bytes_of n (x / 256)

abbrev pub next_number : ℕ → List ℕ → Option ℕ
next_number n bs = cond (nat_le n (length bs)) (Some (number (take n bs))) None

abbrev pub next_three_of : List ℕ → Option (ℕ × ℕ × ℕ)
next_three_of bs =
    cond (nat_le 6 (length bs)) (Some (number (take 2 bs), number (take 2 (drop 2 bs)), number (take 2 (drop 4 bs)))) None

abbrev pub head : List ℕ → Option ℕ
head [] = None
head (b ∷ bs) = Some b
