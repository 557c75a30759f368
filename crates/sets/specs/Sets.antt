-- Sets of numbers, each set one number.
--
-- has n q      q is a member of the set n: bit q of n is 1
-- set_of f n   the set of the numbers below n that f says yes to
-- union c d    the members of either, below 64
-- one m        the set of the member m, empty from 64 on
-- Within c d   every member of c is a member of d
-- Below c n    every member of c is below n
use Rattle.std.specs.Prelude.{◌≡◌, ℕ, zero, suc, ◌+◌, ◌/◌, ◌%◌, ◌^◌, ◌<◌, Bool, true, cond, ◌||◌, ◌==◌, nat_eq}

abbrev pub has : ℕ → ℕ → Bool
has n q = n / 2 ^ q % 2 == 1

unfoldable pub set_of : (ℕ → Bool) → ℕ → ℕ
set_of f zero = 0
set_of f (suc n) = set_of f n + cond (f n) (2 ^ n) 0

abbrev pub union : ℕ → ℕ → ℕ
union c d = set_of (λ q. has c q || has d q) 64

abbrev pub one : ℕ → ℕ
one m = set_of (λ q. nat_eq q m) 64

abbrev pub Within : ℕ → ℕ → Type 0
Within c d = (q : ℕ) → has c q ≡ true → has d q ≡ true

abbrev pub Below : ℕ → ℕ → Type 0
Below c n = (q : ℕ) → has c q ≡ true → q < n
