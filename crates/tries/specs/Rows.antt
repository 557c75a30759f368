-- What the rows of a trie mean, and when they are in order.
--
-- The rows are a forest in preorder: each row is followed by the rows beneath it. A row adds one number to the numbers of
-- the row that it stands beneath, and its depth says how many those are.
--
-- way p r           the numbers on the way to the row r, where p are those on the way to the row before it
-- after p rs        the numbers on the way to the last of the rows
-- paths p rs        the numbers on the way to each row at which a key ends, in the order of the rows: the keys that the rows hold
-- run d rs          how many rows, from the front on, lie deeper than d
-- linked rs         whether each row counts the rows beneath it, and itself
-- shaped n rs       whether the first row has at most n numbers before it, each other one at most one more than the row before it has, and none more than 64
-- bearing rs        whether at each row a key ends, or a row lies beneath it
-- some test ws      whether the test says yes to some key of ws
-- reached v ws      whether some key of ws is contained in v
-- matched v ws      whether some key of ws has the numbers of v, and no others
-- proper_all n ws   whether all of ws may be keys with n numbers that lead
use Rattle.std.specs.Prelude.{ℕ, suc, Bool, true, false, cond, ◌&&◌, ◌||◌, List, [], ◌∷◌, ◌++◌, take, ◌==◌, nat_le, nat_lt}
use Rattle.keys.specs.Numbers.{contained, proper}
use Rattle.tries.specs.declared.row.Row.{Row}

abbrev pub way : List ℕ → Row → List ℕ
way p r = take r.depth p ++ r.number ∷ []

abbrev pub after : List ℕ → List Row → List ℕ
after p [] = p
after p (r ∷ rs) = after (way p r) rs

abbrev pub paths : List ℕ → List Row → List (List ℕ)
paths p [] = []
paths p (r ∷ rs) = cond r.ends (way p r ∷ paths (way p r) rs) (paths (way p r) rs)

abbrev pub run : ℕ → List Row → ℕ
run d [] = 0
run d (r ∷ rs) = cond (nat_lt d r.depth) (suc (run d rs)) 0

abbrev pub linked : List Row → Bool
linked [] = true
linked (r ∷ rs) = r.skip == suc (run r.depth rs) && linked rs

abbrev pub shaped : ℕ → List Row → Bool
shaped n [] = true
shaped n (r ∷ rs) = nat_le r.depth n && (nat_lt r.depth 65 && shaped (suc r.depth) rs)

abbrev pub bearing : List Row → Bool
bearing [] = true
bearing (r ∷ rs) = (r.ends || nat_lt 0 (run r.depth rs)) && bearing rs

abbrev pub some : (List ℕ → Bool) → List (List ℕ) → Bool
some test [] = false
some test (w ∷ ws) = test w || some test ws

abbrev pub reached : List ℕ → List (List ℕ) → Bool
reached v ws = some (λ w. contained w v) ws

abbrev pub matched : List ℕ → List (List ℕ) → Bool
matched v ws = some (λ w. contained w v && contained v w) ws

abbrev pub proper_all : ℕ → List (List ℕ) → Bool
proper_all n [] = true
proper_all n (w ∷ ws) = proper n w && proper_all n ws
