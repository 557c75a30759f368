-- The walk down the rows by the numbers of a key. Assumes nothing.
use Rattle.std.proofs.Common.{◌≡◌, ℕ, zero, suc, ◌+◌, ◌<◌, ◌≤◌, Bool, true, false, cond, ◌&&◌, ◌||◌, eqb, ltb, leb, List, [], ◌∷◌, ◌++◌, length, get_or, take, drop, sym, refl, ap, ◌∙◌, subst, ⊎_elim, arith, take-append-drop}
use Rattle.std.proofs.lemmas.Bool.{cases_lt, cases_Bool, both_ways, and_parts, and_from, or_left, or_right, eq-eqb, le-leb}
use Rattle.std.proofs.lemmas.List.{drop_more, take_all}
use Rattle.keys.specs.Numbers.{among, contained}
use Rattle.keys.proofs.Numbers.{among_append, contained_at}
use Rattle.tries.specs.declared.row.Row.{Row}
use Rattle.tries.specs.Rows.{way, paths, run, linked, shaped, some}
use Rattle.tries.proofs.Paths.{Parts, length_way, way_take, run_deeper, run_stops, shaped_parts, linked_parts, paths_lead}

-- ---- rows behind a subtree

pub drop_linked : (k : ℕ) (rs : List Row) → linked rs ≡ true → linked (drop k rs) ≡ true
drop_linked zero rs h = h
drop_linked (suc k) [] h = h
drop_linked (suc k) (r ∷ rs) h = drop_linked k rs (linked_parts r rs h).1

-- behind the rows deeper than d the way still has d numbers
pub shaped_behind : (d n m : ℕ) (rs : List Row) → shaped n rs ≡ true → d ≤ m → shaped m (drop (run d rs) rs) ≡ true
shaped_behind d n m [] h l = refl
shaped_behind d n m (r ∷ rs) h l =
    let s = shaped_parts n r rs h in
    ⊎_elim
    (λ (k : d < r.depth). subst (λ j. shaped m (drop j (r ∷ rs)) ≡ true) (sym (run_deeper d r rs k)) (shaped_behind d (suc r.depth) m rs s.behind l))
    (λ (k : r.depth ≤ d). subst (λ j. shaped m (drop j (r ∷ rs)) ≡ true) (sym (run_stops d r rs k)) (lower n m r rs h (omega arith)))
    (cases_lt d r.depth)
  where
    lower : (n m : ℕ) (r : Row) (rs : List Row) → shaped n (r ∷ rs) ≡ true → r.depth ≤ m → shaped m (r ∷ rs) ≡ true
    lower n m r rs h l = and_from (leb r.depth m) (ltb r.depth 65 && shaped (suc r.depth) rs) (le-leb r.depth m l) (and_parts (leb r.depth n) (ltb r.depth 65 && shaped (suc r.depth) rs) h).1

-- ---- reading a row

-- what a row is read as where there is none
abbrev pub blank : Row
blank = record { number = 0; depth = 0; ends = false; skip = 0 }

pub read_at : (rows : List Row) (i : ℕ) → i < length rows → drop i rows ≡ get_or rows i blank ∷ drop (i + 1) rows
read_at rows i l = drop_more rows i blank l

-- what lies deeper than d from a deeper row on: all beneath the row, and what follows
run_past : (d k : ℕ) (rs : List Row) → d ≤ k → run d rs ≡ run k rs + run d (drop (run k rs) rs)
run_past d k [] l = refl
run_past d k (r ∷ rs) l = ⊎_elim
    (λ (m : k < r.depth).
    let e = run_deeper k r rs m in
    let f = run_deeper d r rs (omega arith) in
    let g = run_past d k rs l in
    let s : suc (run d rs) ≡ suc (run k rs) + run d (drop (run k rs) rs) = omega arith in
    f ∙ s ∙ sym (ap (λ j. j + run d (drop j (r ∷ rs))) e))
    (λ (m : r.depth ≤ k). let z : run d (r ∷ rs) ≡ 0 + run d (r ∷ rs) = omega arith in z ∙ sym (ap (λ j. j + run d (drop j (r ∷ rs))) (run_stops k r rs m)))
    (cases_lt k r.depth)

-- the rows behind those beneath a deeper row, measured on
pub run_jump : (d : ℕ) (row : Row) (rest : List Row) → d < row.depth → run d (row ∷ rest) ≡ suc (run row.depth rest) + run d (drop (run row.depth rest) rest)
run_jump d row rest m =
    let g = run_past d row.depth rest (omega arith) in
    let s : suc (run d rest) ≡ suc (run row.depth rest) + run d (drop (run row.depth rest) rest) = omega arith in
    run_deeper d row rest m ∙ s

-- ---- contained in a key

among_take : (n k : ℕ) (w : List ℕ) → among n (take k w) ≡ true → among n w ≡ true
among_take n k w e = sym (ap (among n) (take-append-drop k w)) ∙ among_append n (take k w) (drop k w) ∙ or_left (among n (take k w)) (among n (drop k w)) e

contained_take : (k : ℕ) (w v : List ℕ) → contained w v ≡ true → contained (take k w) v ≡ true
contained_take zero w v h = refl
contained_take (suc k) [] v h = refl
contained_take (suc k) (n ∷ w) v h = let a = and_parts (among n v) (contained w v) h in and_from (among n v) (contained (take k w) v) a.0 (contained_take k w v a.1)

contained_push : (w v : List ℕ) (n : ℕ) → contained w v ≡ true → among n v ≡ true → contained (w ++ n ∷ []) v ≡ true
contained_push [] v n h e = and_from (among n v) true e refl
contained_push (m ∷ w) v n h e = let a = and_parts (among m v) (contained w v) h in and_from (among m v) (contained (w ++ n ∷ []) v) a.0 (contained_push w v n a.1 e)

pub contained_way : (p v : List ℕ) (r : Row) → contained p v ≡ true → among r.number v ≡ true → contained (way p r) v ≡ true
contained_way p v r h e = contained_push (take r.depth p) v r.number (contained_take r.depth p v h) e

-- ---- the walk

module _ (test : List ℕ → Bool) (v : List ℕ) where
  -- where the walk stands: the numbers on its way are in v, and the rows ahead of it decide
  pub record Walk (rows ahead : List Row) (p : List ℕ) : Type 0 where
    pub own : contained p v ≡ true
    pub linked : linked ahead ≡ true
    pub shaped : shaped (length p) ahead ≡ true
    pub found : some test (paths p ahead) ≡ some test (paths [] rows)

-- ---- a subtree passed over

module _ (test : List ℕ → Bool) (v : List ℕ) (only : (w : List ℕ) → test w ≡ true → contained w v ≡ true) where
  module _ (n : ℕ) (away : among n v ≡ false) where
    refused : (w : List ℕ) → among n w ≡ true → test w ≡ false
    refused w e = ⊎_elim
        (λ (t : test w ≡ true). absurd (both_ways (among n v) away (contained_at w v (only w t) n e)))
        (λ (t : test w ≡ false). t)
        (cases_Bool (test w))

    passed : (b : Bool) (w : List ℕ) (ws : List (List ℕ)) → among n w ≡ true → some test (cond b (w ∷ ws) ws) ≡ some test ws
    passed true w ws e = ap (λ t. t || some test ws) (refused w e)
    passed false w ws e = refl

    -- the rows deeper than d hold no key that passes, where a number among the first on the way is not in v
    skip_run : (d : ℕ) (p q : List ℕ) (rs : List Row) → shaped (length q) rs ≡ true → suc d ≤ length q → among n (take (suc d) q) ≡ true → take d q ≡ take d p
        → some test (paths q rs) ≡ some test (paths p (drop (run d rs) rs))
    skip_run d p q [] h l a e = refl
    skip_run d p q (r ∷ rs) h l a e =
        let s = shaped_parts (length q) r rs h in
        ⊎_elim
        (λ (m : d < r.depth).
        let long = length_way q r s.deep in
        let same : take (suc d) (way q r) ≡ take (suc d) q = way_take q r (suc d) m s.deep in
        let a' : among n (take (suc d) (way q r)) ≡ true = ap (among n) same ∙ a in
        passed r.ends (way q r) (paths (way q r) rs) (among_take n (suc d) (way q r) a')
        ∙ skip_run d p (way q r) rs (subst (λ k. shaped k rs ≡ true) (sym long) s.behind) (omega arith) a' (way_take q r d (omega arith) s.deep ∙ e)
        ∙ sym (ap (λ k. some test (paths p (drop k (r ∷ rs)))) (run_deeper d r rs m)))
        (λ (m : r.depth ≤ d).
        ap (some test) (paths_lead q p (r ∷ rs) d (run_stops d r rs m) e)
        ∙ sym (ap (λ k. some test (paths p (drop k (r ∷ rs)))) (run_stops d r rs m)))
        (cases_lt d r.depth)

  module _ (rows ahead : List Row) (p : List ℕ) (row : Row) (rest : List Row) (from : Walk test v rows ahead p) (e : ahead ≡ row ∷ rest) where
    at : Walk test v rows (row ∷ rest) p
    at = subst (λ z. Walk test v rows z p) e from

    parts : Parts (length p) row rest
    parts = shaped_parts (length p) row rest at.shaped

    pub walk_deep : (row.depth ≤ length p) × (row.depth < 65)
    walk_deep = (parts.deep, parts.few)

    -- all beneath the row is passed over
    pub walk_skip : among row.number v ≡ false → (next : List Row) → next ≡ drop (run row.depth rest) rest → Walk test v rows next p
    walk_skip away next is =
        let d = row.depth in
        let long = length_way p row parts.deep in
        let whole : take (suc d) (way p row) ≡ way p row = take_all (suc d) (way p row) (omega arith) in
        let last : among row.number (way p row) ≡ true = among_append row.number (take d p) (row.number ∷ []) ∙ or_right (among row.number (take d p)) (among row.number (row.number ∷ [])) (or_left (eqb row.number row.number) false (eq-eqb row.number row.number refl)) in
        subst (λ z. Walk test v rows z p) (sym is) (record {
          own = at.own;
          linked = drop_linked (run d rest) rest (linked_parts row rest at.linked).1;
          shaped = shaped_behind d (suc d) (length p) rest parts.behind parts.deep;
          found = sym (passed row.number away row.ends (way p row) (paths (way p row) rest) last
              ∙ skip_run row.number away d p (way p row) rest (subst (λ k. shaped k rest ≡ true) (sym long) parts.behind) (omega arith) (ap (among row.number) whole ∙ last) (way_take p row d (omega arith) parts.deep))
              ∙ at.found;
        })

    -- the row is not what is looked for, and its number is in v
    pub walk_next : among row.number v ≡ true → (row.ends ≡ true → test (way p row) ≡ false) → Walk test v rows rest (way p row)
    walk_next has other = record {
      own = contained_way p v row at.own has;
      linked = (linked_parts row rest at.linked).1;
      shaped = subst (λ k. shaped k rest ≡ true) (sym (length_way p row parts.deep)) parts.behind;
      found = sym (past row.ends other) ∙ at.found;
    }
      where
        past : (b : Bool) → (b ≡ true → test (way p row) ≡ false) → some test (cond b (way p row ∷ paths (way p row) rest) (paths (way p row) rest)) ≡ some test (paths (way p row) rest)
        past true h = ap (λ t. t || some test (paths (way p row) rest)) (h refl)
        past false h = refl

    -- the row is what is looked for
    pub walk_here : row.ends ≡ true → test (way p row) ≡ true → some test (paths [] rows) ≡ true
    walk_here ends is =
        sym at.found ∙ ap (λ b. some test (cond b (way p row ∷ paths (way p row) rest) (paths (way p row) rest))) ends
        ∙ or_left (test (way p row)) (some test (paths (way p row) rest)) is
