-- Rows put before others. Assumes nothing.
use Rattle.std.proofs.Common.{◌≡◌, ℕ, suc, ◌+◌, ◌-◌, ◌*◌, ◌<◌, ◌≤◌, true, false, cond, ◌&&◌, ◌||◌, eqb, ltb, leb, List, [], ◌∷◌, ◌++◌, length, get_or, take, drop, set, sym, refl, ap, ◌∙◌, subst, ⊎_elim, arith}
use Rattle.std.proofs.lemmas.Bool.{cases_lt, cases_Bool, and_parts, and_from, eq-eqb, lt-ltb, ltb-true, ltb-false, or_parts, le-leb, cond_both}
use Rattle.std.proofs.lemmas.List.{drop-set, drop_all, take-take, get_or-take}
use Rattle.tries.specs.declared.row.Row.{Row}
use Rattle.tries.specs.Rows.{way, paths, run, linked, shaped, bearing}
use Rattle.tries.specs.Changes.{counted, bear, settled, Standing, Settled}
use Rattle.tries.proofs.Paths.{length_way, way_take, run_stops, run_stopped, shaped_parts, paths_lead}
use Rattle.tries.proofs.Walks.{blank, read_at}

-- ---- one row

pub linked_bear : (r : Row) (rs : List Row) → linked rs ≡ true → linked (bear r rs) ≡ true
linked_bear r rs h = cond_both (r.ends || ltb 0 (run r.depth rs)) (counted r rs ∷ rs) rs (λ z. linked z ≡ true)
    (λ _. and_from (eqb (suc (run r.depth rs)) (suc (run r.depth rs))) (linked rs) (eq-eqb (suc (run r.depth rs)) (suc (run r.depth rs)) refl) h)
    (λ _. h)

pub bearing_bear : (r : Row) (rs : List Row) → bearing rs ≡ true → bearing (bear r rs) ≡ true
bearing_bear r rs h = cond_both (r.ends || ltb 0 (run r.depth rs)) (counted r rs ∷ rs) rs (λ z. bearing z ≡ true)
    (λ t. and_from (r.ends || ltb 0 (run r.depth rs)) (bearing rs) t h)
    (λ _. h)

-- ---- all of them

pub linked_settled : (rs ss : List Row) → linked ss ≡ true → linked (settled rs ss) ≡ true
linked_settled [] ss h = h
linked_settled (r ∷ rs) ss h = linked_bear r (settled rs ss) (linked_settled rs ss h)

pub bearing_settled : (rs ss : List Row) → bearing ss ≡ true → bearing (settled rs ss) ≡ true
bearing_settled [] ss h = h
bearing_settled (r ∷ rs) ss h = bearing_bear r (settled rs ss) (bearing_settled rs ss h)

pub settled_append : (rs ss ts : List Row) → settled (rs ++ ss) ts ≡ settled rs (settled ss ts)
settled_append [] ss ts = refl
settled_append (r ∷ rs) ss ts = ap (bear r) (settled_append rs ss ts)

-- rows that bear nothing change no path
module _ (p : List ℕ) (r : Row) (rs : List Row) (deep : r.depth ≤ length p) where
  paths_bear : paths p (bear r rs) ≡ paths p (r ∷ rs)
  paths_bear = cond_both (r.ends || ltb 0 (run r.depth rs)) (counted r rs ∷ rs) rs (λ z. paths p z ≡ paths p (r ∷ rs))
      (λ _. refl)
      (λ t.
      let o = or_parts r.ends (ltb 0 (run r.depth rs)) t in
      let z : run r.depth rs ≡ 0 = (let k = ltb-false 0 (run r.depth rs) o.1 in omega arith) in
      paths_lead p (way p r) rs r.depth z (sym (way_take p r r.depth (omega arith) deep))
      ∙ sym (ap (λ b. cond b (way p r ∷ paths (way p r) rs) (paths (way p r) rs)) o.0))

pub paths_settled : (p : List ℕ) (rs : List Row) → shaped (length p) rs ≡ true → paths p (settled rs []) ≡ paths p rs
paths_settled p [] h = refl
paths_settled p (r ∷ rs) h =
    let s = shaped_parts (length p) r rs h in
    let long = length_way p r s.deep in
    paths_bear p r (settled rs []) s.deep
    ∙ ap (λ z. cond r.ends (way p r ∷ z) z) (paths_settled (way p r) rs (subst (λ k. shaped k rs ≡ true) (sym long) s.behind))

pub lower : (n m : ℕ) (rs : List Row) → shaped n rs ≡ true → run m rs ≡ 0 → shaped m rs ≡ true
lower n m [] h z = refl
lower n m (r ∷ rs) h z = and_from (leb r.depth m) (ltb r.depth 65 && shaped (suc r.depth) rs) (le-leb r.depth m (run_stopped m r rs z)) (and_parts (leb r.depth n) (ltb r.depth 65 && shaped (suc r.depth) rs) h).1

pub widen : (n m : ℕ) (rs : List Row) → shaped n rs ≡ true → n ≤ m → shaped m rs ≡ true
widen n m [] h l = refl
widen n m (r ∷ rs) h l = let s = shaped_parts n r rs h in and_from (leb r.depth m) (ltb r.depth 65 && shaped (suc r.depth) rs) (le-leb r.depth m (omega (arith, s.deep))) (and_parts (leb r.depth n) (ltb r.depth 65 && shaped (suc r.depth) rs) h).1

pub shaped_settled : (n : ℕ) (rs : List Row) → shaped n rs ≡ true → shaped n (settled rs []) ≡ true
shaped_settled n [] h = refl
shaped_settled n (r ∷ rs) h =
    let s = shaped_parts n r rs h in
    let rest = settled rs [] in
    let b = shaped_settled (suc r.depth) rs s.behind in
    cond_both (r.ends || ltb 0 (run r.depth rest)) (counted r rest ∷ rest) rest (λ z. shaped n z ≡ true)
    (λ _. and_from (leb r.depth n) (ltb r.depth 65 && shaped (suc r.depth) rest) (le-leb r.depth n s.deep) (and_from (ltb r.depth 65) (shaped (suc r.depth) rest) (lt-ltb r.depth 65 s.few) b))
    (λ t.
    let o = or_parts r.ends (ltb 0 (run r.depth rest)) t in
    let z : run r.depth rest ≡ 0 = (let k = ltb-false 0 (run r.depth rest) o.1 in omega arith) in
    widen r.depth n rest (lower (suc r.depth) r.depth rest b z) s.deep)

-- ---- how many rows there are

-- the depth of the first row
abbrev first : List Row → ℕ
first [] = 0
first (r ∷ rs) = r.depth

run_first : (d : ℕ) (rs : List Row) → 0 < run d rs → d < first rs
run_first d [] l = absurd (omega arith)
run_first d (r ∷ rs) l = ⊎_elim
    (λ (m : d < r.depth). m)
    (λ (m : r.depth ≤ d). absurd (omega (arith, run_stops d r rs m)))
    (cases_lt d r.depth)

few : (p : List ℕ) (n : ℕ) (rs : List Row) → shaped n rs ≡ true → bearing rs ≡ true → length rs + first rs ≤ 65 * length (paths p rs)
few p n [] h b = omega arith
few p n (r ∷ rs) h b =
    let s = shaped_parts n r rs h in
    let a = and_parts (r.ends || ltb 0 (run r.depth rs)) (bearing rs) b in
    let before = few (way p r) (suc r.depth) rs s.behind a.1 in
    ⊎_elim
    (λ (e : r.ends ≡ true).
    let l = ap (λ t. length (cond t (way p r ∷ paths (way p r) rs) (paths (way p r) rs))) e in
    omega (arith, l, before, s.few))
    (λ (e : r.ends ≡ false).
    let l = ap (λ t. length (cond t (way p r ∷ paths (way p r) rs) (paths (way p r) rs))) e in
    let f = run_first r.depth rs (ltb-true 0 (run r.depth rs) (sym (ap (λ t. t || ltb 0 (run r.depth rs)) e) ∙ a.0)) in
    omega (arith, l, before, f))
    (cases_Bool r.ends)

-- each key takes at most 65 rows
pub few_rows : (p : List ℕ) (n : ℕ) (rs : List Row) → shaped n rs ≡ true → bearing rs ≡ true → length rs ≤ 65 * length (paths p rs)
few_rows p n rs h b = omega (arith, few p n rs h b)

-- ---- one row more from the back

pub part_more : (xs : List Row) (j upto : ℕ) → j < upto → j < length xs → take (upto - j) (drop j xs) ≡ get_or xs j blank ∷ take (upto - (j + 1)) (drop (j + 1) xs)
part_more xs j upto l h =
    let e : upto - j ≡ suc (upto - (j + 1)) = omega arith in
    ap (take (upto - j)) (read_at xs j h) ∙ ap (λ k. take k (get_or xs j blank ∷ drop (j + 1) xs)) e

pub row_kept : (xs ys : List Row) (j : ℕ) → j < length xs → length ys ≡ length xs → take (j + 1) ys ≡ take (j + 1) xs → get_or ys j blank ≡ get_or xs j blank
row_kept xs ys j l k e = sym (get_or-take (j + 1) ys j blank (omega arith)) ∙ ap (λ z. get_or z j blank) e ∙ get_or-take (j + 1) xs j blank (omega arith)

pub fewer_kept : (xs ys : List Row) (m n : ℕ) → m ≤ n → take n ys ≡ take n xs → take m ys ≡ take m xs
fewer_kept xs ys m n l e = sym (take-take m n ys l) ∙ ap (take m) e ∙ take-take m n xs l

-- the row written before the others
pub written : (rows : List Row) (start : ℕ) (r : Row) → 0 < start → start ≤ length rows → (r.ends || ltb 0 (run r.depth (drop start rows))) ≡ true
    → (count : ℕ) → count ≡ run r.depth (drop start rows) → (x : Row) → x ≡ record { number = r.number; depth = r.depth; ends = r.ends; skip = suc count }
    → drop (start - 1) (set rows (start - 1) x) ≡ bear r (drop start rows)
written rows start r l h t count e x is =
    let j : start - 1 + 1 ≡ start = omega arith in
    drop-set rows (start - 1) x (omega arith)
    ∙ ap (λ k. x ∷ drop k rows) j
    ∙ ap (λ y. y ∷ drop start rows) (is ∙ ap (λ k. record { number = r.number; depth = r.depth; ends = r.ends; skip = suc k }) e)
    ∙ sym (ap (λ b. cond b (counted r (drop start rows) ∷ drop start rows) (drop start rows)) t)

-- ---- rows before those that stand, and others before these

pub still_standing : (n : ℕ) (rs ss : List Row) (i : ℕ) (ts : List Row) (j : ℕ) → length ts ≡ length ss → Standing i ss → Settled n rs ss i ts j → Standing j ts
still_standing n rs ss i ts j l p s = record {
  within = omega (arith, l, p.within, s.place);
  linked = ap linked s.items ∙ linked_settled rs (drop i ss) p.linked;
}

-- where none is, all stand
pub none_standing : (rs : List Row) → Standing (length rs) rs
none_standing rs = record { within = omega arith; linked = ap linked (drop_all (length rs) rs (omega arith)) }

pub settled_none : (n : ℕ) (rs ss : List Row) (i : ℕ) → rs ≡ [] → Settled n rs ss i ss i
settled_none n rs ss i e = record { items = sym (ap (λ z. settled z (drop i ss)) e); same = refl; near = omega arith; place = omega arith }

module _ (m : ℕ) (qs : List Row) (n : ℕ) (rs ss : List Row) (i : ℕ) (ts : List Row) (j : ℕ) (us : List Row) (k : ℕ) where
  pub settled_then : (a : ℕ) (ps : List Row) → a ≡ m + n → ps ≡ qs ++ rs → a ≤ i → Settled n rs ss i ts j → Settled m qs ts j us k → Settled a ps ss i us k
  settled_then a ps e f l s t = record {
    items = t.items ∙ ap (settled qs) s.items ∙ sym (settled_append qs rs (drop i ss)) ∙ sym (ap (λ z. settled z (drop i ss)) f);
    same = fewer_kept ts us (i - a) (j - m) (omega (arith, s.near)) t.same ∙ fewer_kept ss ts (i - a) (i - n) (omega arith) s.same;
    near = omega (arith, s.near, t.near);
    place = omega (arith, s.place, t.place);
  }
