-- Lists of numbers that stand for sets of them.
--
-- among n w        whether n is one of the numbers of w
-- contained w v    whether every number of w is one of v's
-- without n v      v with n taken away
-- rest v w         what is left of v once all the numbers of w are taken away
-- none v           whether v has no number
-- missing c n      the states below n that the set c has not, in ascending order
-- lacking w        the set of the states below 64 that are not among w
-- proper leads w   whether w may be a key: so many numbers from 64 up lead, and the others are states, below 64
use Rattle.std.specs.Prelude.{ℕ, zero, suc, Bool, true, false, cond, not, ◌&&◌, ◌||◌, List, [], ◌∷◌, ◌++◌, filter, ◌==◌, nat_le, nat_lt}
use Rattle.sets.specs.Sets.{has, set_of}

abbrev pub among : ℕ → List ℕ → Bool
among n [] = false
among n (m ∷ w) = n == m || among n w

abbrev pub contained : List ℕ → List ℕ → Bool
contained [] v = true
contained (n ∷ w) v = among n v && contained w v

abbrev pub without : ℕ → List ℕ → List ℕ
without n v = filter (λ m. not (m == n)) v

abbrev pub rest : List ℕ → List ℕ → List ℕ
rest v w = filter (λ m. not (among m w)) v

abbrev pub none : List ℕ → Bool
none [] = true
none (n ∷ w) = false

unfoldable pub missing : ℕ → ℕ → List ℕ
missing c zero = []
missing c (suc n) = missing c n ++ cond (has c n) [] (n ∷ [])

abbrev pub lacking : List ℕ → ℕ
lacking w = set_of (λ q. not (among q w)) 64

abbrev pub proper : ℕ → List ℕ → Bool
proper zero [] = true
proper zero (n ∷ w) = nat_lt n 64 && proper zero w
proper (suc leads) [] = false
proper (suc leads) (n ∷ w) = nat_le 64 n && proper leads w
