-- The numbers on the way to rows. Assumes nothing.
use Rattle.std.proofs.Common.{◌≡◌, ℕ, suc, ◌+◌, ◌<◌, ◌≤◌, Bool, true, false, cond, ◌&&◌, eqb, ltb, leb, List, [], ◌∷◌, ◌++◌, length, take, sym, refl, ap, ◌∙◌, ⊎_elim, add-one, arith}
use Rattle.std.proofs.lemmas.Bool.{cases_lt, and_parts, lt-ltb, le-ltb, ltb-true, leb-true, eqb-true}
use Rattle.std.proofs.lemmas.List.{length-append, length-take-le, take-append-le, take-take}
use Rattle.tries.specs.declared.row.Row.{Row}
use Rattle.tries.specs.Rows.{way, after, paths, run, linked, shaped}

-- ---- one row

pub length_way : (p : List ℕ) (r : Row) → r.depth ≤ length p → length (way p r) ≡ suc r.depth
length_way p r l = length-append (take r.depth p) (r.number ∷ []) ∙ ap (λ k. k + 1) (length-take-le r.depth p l) ∙ add-one r.depth

-- the way to a row shares the numbers before it
pub way_take : (p : List ℕ) (r : Row) (k : ℕ) → k ≤ r.depth → r.depth ≤ length p → take k (way p r) ≡ take k p
way_take p r k h l =
    take-append-le k (take r.depth p) (r.number ∷ []) (omega (arith, length-take-le r.depth p l))
    ∙ take-take k r.depth p h

pub run_deeper : (d : ℕ) (r : Row) (rs : List Row) → d < r.depth → run d (r ∷ rs) ≡ suc (run d rs)
run_deeper d r rs l = ap (λ b. cond b (suc (run d rs)) 0) (lt-ltb d r.depth l)

pub run_stops : (d : ℕ) (r : Row) (rs : List Row) → r.depth ≤ d → run d (r ∷ rs) ≡ 0
run_stops d r rs l = ap (λ b. cond b (suc (run d rs)) 0) (le-ltb d r.depth l)

pub run_stopped : (d : ℕ) (r : Row) (rs : List Row) → run d (r ∷ rs) ≡ 0 → r.depth ≤ d
run_stopped d r rs e = ⊎_elim
    (λ (l : d < r.depth). absurd (omega (arith, sym (run_deeper d r rs l) ∙ e)))
    (λ (l : r.depth ≤ d). l)
    (cases_lt d r.depth)

pub run_le : (d : ℕ) (rs : List Row) → run d rs ≤ length rs
run_le d [] = omega arith
run_le d (r ∷ rs) = ⊎_elim
    (λ (l : d < r.depth). omega (arith, run_deeper d r rs l, run_le d rs))
    (λ (l : r.depth ≤ d). omega (arith, run_stops d r rs l))
    (cases_lt d r.depth)

-- ---- the shape and the counts of a row and of those behind it

pub record Parts (n : ℕ) (r : Row) (rs : List Row) : Type 0 where
  pub deep : r.depth ≤ n
  pub few : r.depth < 65
  pub behind : shaped (suc r.depth) rs ≡ true

pub shaped_parts : (n : ℕ) (r : Row) (rs : List Row) → shaped n (r ∷ rs) ≡ true → Parts n r rs
shaped_parts n r rs h =
    let a = and_parts (leb r.depth n) (ltb r.depth 65 && shaped (suc r.depth) rs) h in
    let b = and_parts (ltb r.depth 65) (shaped (suc r.depth) rs) a.1 in
    record { deep = leb-true r.depth n a.0; few = ltb-true r.depth 65 b.0; behind = b.1 }

pub linked_parts : (r : Row) (rs : List Row) → linked (r ∷ rs) ≡ true → (r.skip ≡ suc (run r.depth rs)) × (linked rs ≡ true)
linked_parts r rs h =
    let a = and_parts (eqb r.skip (suc (run r.depth rs))) (linked rs) h in
    (eqb-true r.skip (suc (run r.depth rs)) a.0, a.1)

-- ---- rows behind rows

pub paths_append : (p : List ℕ) (rs ss : List Row) → paths p (rs ++ ss) ≡ paths p rs ++ paths (after p rs) ss
paths_append p [] ss = refl
paths_append p (r ∷ rs) ss = both r.ends (paths_append (way p r) rs ss)
  where
    both : (b : Bool) → paths (way p r) (rs ++ ss) ≡ paths (way p r) rs ++ paths (after (way p r) rs) ss
        → cond b (way p r ∷ paths (way p r) (rs ++ ss)) (paths (way p r) (rs ++ ss)) ≡ cond b (way p r ∷ paths (way p r) rs) (paths (way p r) rs) ++ paths (after (way p r) rs) ss
    both true e = ap (λ z. way p r ∷ z) e
    both false e = e

pub after_append : (p : List ℕ) (rs ss : List Row) → after p (rs ++ ss) ≡ after (after p rs) ss
after_append p [] ss = refl
after_append p (r ∷ rs) ss = after_append (way p r) rs ss

-- rows that begin no deeper than d are the same on two ways that share d numbers
pub paths_lead : (p q : List ℕ) (rs : List Row) (d : ℕ) → run d rs ≡ 0 → take d p ≡ take d q → paths p rs ≡ paths q rs
paths_lead p q [] d h e = refl
paths_lead p q (r ∷ rs) d h e =
    let l = run_stopped d r rs h in
    let s : take r.depth p ≡ take r.depth q = sym (take-take r.depth d p l) ∙ ap (take r.depth) e ∙ take-take r.depth d q l in
    ap (λ z. cond r.ends ((z ++ r.number ∷ []) ∷ paths (z ++ r.number ∷ []) rs) (paths (z ++ r.number ∷ []) rs)) s
