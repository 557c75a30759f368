-- What an insertion makes of the rows.
--
-- kept v ws         the keys of ws that do not contain all of v
-- released v p rs   the rows, where no key ends that contains all of v
-- sprouts w d n     the n rows that hold the numbers of w from place d on; at the last number of w a key ends
-- bear r rs         the rows with r before them, and the count of the rows beneath it; if no key ends at r and none is beneath it, r is let go
-- settled rs ss     ss with all of rs before them, in this way
-- Standing i rs     the rows from i on each count the rows beneath them
-- Settled           ts is ss with all of rs put before the rows from i on, in this way: they begin at j then, and of the rows before i only the last n are written over
-- grown w rs i d    the rows with those of w from place d on, put in at row i
-- Spotted           a place for w: row i, where the first d numbers are those of w, and no row beneath the row that d is counted from follows
-- PutIn w rs ss     ss is rs with the rows of w put in at some such place
-- put v ws          the keys once v is put in: those that contain all of v are dropped
use Rattle.std.specs.Prelude.{◌≡◌, ℕ, zero, suc, ◌+◌, ◌-◌, ◌<◌, ◌≤◌, true, cond, not, ◌&&◌, ◌||◌, List, [], ◌∷◌, ◌++◌, length, take, drop, filter, ◌==◌, nat_lt, slice_index}
use Rattle.keys.specs.Numbers.{contained}
use Rattle.tries.specs.declared.row.Row.{Row}
use Rattle.tries.specs.Rows.{way, after, run, linked}

abbrev pub kept : List ℕ → List (List ℕ) → List (List ℕ)
kept v ws = filter (λ w. not (contained v w)) ws

abbrev pub put : List ℕ → List (List ℕ) → List (List ℕ)
put v ws = kept v ws ++ v ∷ []

abbrev pub freed : List ℕ → List ℕ → Row → Row
freed v w r = record { number = r.number; depth = r.depth; ends = r.ends && not (contained v w); skip = r.skip }

abbrev pub released : List ℕ → List ℕ → List Row → List Row
released v p [] = []
released v p (r ∷ rs) = freed v (way p r) r ∷ released v (way p r) rs

abbrev pub sprout : List ℕ → ℕ → Row
sprout w d = record { number = slice_index w d; depth = d; ends = (suc d == length w); skip = 1 }

abbrev pub sprouts : List ℕ → ℕ → ℕ → List Row
sprouts w d zero = []
sprouts w d (suc n) = sprout w d ∷ sprouts w (suc d) n

abbrev pub counted : Row → List Row → Row
counted r rs = record { number = r.number; depth = r.depth; ends = r.ends; skip = suc (run r.depth rs) }

abbrev pub bear : Row → List Row → List Row
bear r rs = cond (r.ends || nat_lt 0 (run r.depth rs)) (counted r rs ∷ rs) rs

abbrev pub settled : List Row → List Row → List Row
settled [] ss = ss
settled (r ∷ rs) ss = bear r (settled rs ss)

pub record Standing (i : ℕ) (rs : List Row) : Type 0 where
  pub within : i ≤ length rs
  pub linked : linked (drop i rs) ≡ true

pub record Settled (n : ℕ) (rs ss : List Row) (i : ℕ) (ts : List Row) (j : ℕ) : Type 0 where
  pub items : drop j ts ≡ settled rs (drop i ss)
  pub same : take (i - n) ts ≡ take (i - n) ss
  pub near : i ≤ j + n
  pub place : j ≤ i

abbrev pub grown : List ℕ → List Row → ℕ → ℕ → List Row
grown w rs i d = take i rs ++ (sprouts w d (length w - d) ++ drop i rs)

pub record Spotted (w : List ℕ) (rs : List Row) (i d : ℕ) : Type 0 where
  pub within : i ≤ length rs
  pub short : d < length w
  pub shared : take d (after [] (take i rs)) ≡ take d w
  pub deep : d ≤ length (after [] (take i rs))
  pub apart : run d (drop i rs) ≡ 0

abbrev pub PutIn : List ℕ → List Row → List Row → Type 0
PutIn w rs ss = (i : ℕ) × (d : ℕ) × Spotted w rs i d × (ss ≡ settled (grown w rs i d) [])
